use Rattle.std.proofs.Common.{subst, sym, ◌∙◌}
use Rattle.page_trees.specs.CharacterSteps.{RunOutcome}
use Rattle.page_trees.specs.declared.builder.Next.{Next}
use Rattle.page_trees.proofs.FosteredRuns.{run_fosters}
use Rattle.page_trees.proofs.TableRuns.{text_begun}
use Rattle.page_trees.proofs.builder.TreeBuilder.table_run.Goals as goal

pub returns-then-keeps_table_text : goal.returns-then-keeps_table_text
returns-then-keeps_table_text c way x xs run within b token goes covered stands =
    text_begun c.args.kind c.args.self.now _ _ x xs way run.fits c.begin_table_text.ensures.next c.begin_table_text.ensures.mode c.begin_table_text.ensures.rule within b token goes
    (sym (c.keeps_table_text.ensures b.tree stands.tree) ∙ c.if-keeps_table_text.true) stands

pub returns : goal.returns
returns c way x xs run within b token goes covered stands =
    subst (λ (n : Next). RunOutcome c.args.kind x xs b c.fostered_run.new.self n) (sym c.fostered_run.ensures.next)
    (run_fosters c.args.kind c.args.self.now _ x xs way run.run b token goes covered stands (sym (c.keeps_table_text.ensures b.tree stands.tree) ∙ c.if-keeps_table_text.false)
    (c.fostered_run.ensures.rule x xs run.spelt within b stands))
