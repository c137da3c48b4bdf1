use Rattle.std.proofs.Common.{ap, sym, subst, ◌∙◌}
use Rattle.standard_trees.specs.RuleWords.{Text}
use Rattle.page_trees.specs.Constructs.{Outcome, returns_later}
use Rattle.page_trees.specs.declared.builder.Next.{Next}
use Rattle.page_trees.proofs.TextTags.{end_in_text, start_in_text}
use Rattle.page_trees.proofs.builder.TreeBuilder.text_tag.Goals as goal

pub returns-then-is_start-clause-rule : goal.returns-then-is_start-clause-rule
returns-then-is_start-clause-rule c name text plain within b current stands =
    start_in_text name c.args.tag.now b _ current (sym c.is_start.ensures ∙ c.if-is_start.true) stands

pub returns-clause-rule : goal.returns-clause-rule
returns-clause-rule c name text plain within b current stands =
    subst (λ (next : Next). Outcome Text b c.end_in_mode.new.self next) (sym c.end_in_mode.ensures.next)
    (end_in_text name c.args.tag.now b c.args.self.now _ current (sym c.is_start.ensures ∙ c.if-is_start.false) text stands
    (c.end_in_mode.ensures.rule (plain (ap returns_later text)) within b stands))
