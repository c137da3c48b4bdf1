use Rattle.std.proofs.Common.{refl, sym, subst, ◌∙◌}
use Rattle.page_trees.specs.Constructs.{Outcome}
use Rattle.page_trees.specs.declared.builder.Next.{Next}
use Rattle.standard_trees.specs.RuleWords.{InHead, RawText}
use Rattle.page_trees.proofs.HeadModes.{open_noscript, text_noscript}
use Rattle.page_trees.proofs.builder.TreeBuilder.start_head_noscript.Goals as goal

pub returns-then-self-clause-rule : goal.returns-then-self-clause-rule
returns-then-self-clause-rule c starts within b current stands =
    subst (λ (next : Next). Outcome InHead b c.insert_text_element.new.self next) (sym c.insert_text_element.ensures.next)
    (text_noscript c.args.tag.now b c.insert_text_element.new.self current starts (stands.scripting ∙ c.if-self.true)
    (c.insert_text_element.ensures.rule RawText refl starts within b current stands))

pub returns-clause-rule : goal.returns-clause-rule
returns-clause-rule c starts within b current stands =
    subst (λ (next : Next). Outcome InHead b c.insert_then.new.self next) (sym c.insert_then.ensures.next)
    (open_noscript c.args.tag.now b c.insert_then.new.self current starts (stands.scripting ∙ c.if-self.false)
    (c.insert_then.ensures.rule refl starts within b current stands))
