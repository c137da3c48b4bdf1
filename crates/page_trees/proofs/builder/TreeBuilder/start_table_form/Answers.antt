use Rattle.std.proofs.Common.{sym, subst}
use Rattle.standard_trees.specs.RuleWords.{InTable}
use Rattle.page_trees.specs.Constructs.{Outcome}
use Rattle.page_trees.specs.declared.builder.Next.{Next}
use Rattle.page_trees.proofs.TableTags.{form_ignored, form_inserted}
use Rattle.page_trees.proofs.builder.TreeBuilder.start_table_form.Goals as goal

pub returns-then-ignores_form-clause-rule : goal.returns-then-ignores_form-clause-rule
returns-then-ignores_form-clause-rule c starts within b current stands =
    form_ignored c.args.tag.now b _ c.ignores_form.result current starts (c.ignores_form.ensures b.tree stands.tree) c.if-ignores_form.true stands

pub returns-clause-rule : goal.returns-clause-rule
returns-clause-rule c starts within b current stands =
    subst (λ (n : Next). Outcome InTable b c.insert_table_form.new.self n) (sym c.insert_table_form.ensures.next)
    (form_inserted c.args.tag.now b _ c.ignores_form.result current starts (c.ignores_form.ensures b.tree stands.tree) c.if-ignores_form.false
    (c.insert_table_form.ensures.rule starts within b current stands))
