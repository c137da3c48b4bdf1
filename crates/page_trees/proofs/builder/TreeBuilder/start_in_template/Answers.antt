use Rattle.std.proofs.Common.{sym, subst, ◌∙◌}
use Rattle.page_trees.specs.Constructs.{Outcome}
use Rattle.page_trees.specs.declared.builder.Next.{Next}
use Rattle.standard_trees.specs.RuleWords.{InTemplate}
use Rattle.page_trees.proofs.BuilderSteps.{same_limits}
use Rattle.page_trees.proofs.HeadModes.{content_in_template, element_in_template, plain_content}
use Rattle.page_trees.proofs.builder.TreeBuilder.start_in_template.Goals as goal

pub returns-then-is_metadata-clause-rule : goal.returns-then-is_metadata-clause-rule
returns-then-is_metadata-clause-rule c starts within b current stands =
    let known = sym c.is_metadata.ensures ∙ c.if-is_metadata.true in
    element_in_template c.args.name c.args.tag.now b c.head_element.new.self c.head_element.result current starts known
    (c.head_element.ensures.rule known starts within b current stands)

pub returns-clause-rule : goal.returns-clause-rule
returns-clause-rule c starts within b current stands =
    let before = same_limits c.push_template_mode.new.self c.again_in.new.self _ c.again_in.ensures.mode within in
    subst (λ (next : Next). Outcome InTemplate b c.again_in.new.self next) (sym c.again_in.ensures.next)
    (content_in_template c.args.name c.args.tag.now b c.again_in.new.self current starts (sym c.is_metadata.ensures ∙ c.if-is_metadata.false)
    (plain_content c.args.name c.content_mode-mode.result c.pop_template_mode.new.self c.push_template_mode.new.self c.again_in.new.self b c.content_mode-mode.ensures c.again_in.ensures.mode
    (c.pop_template_mode.ensures.rule (c.push_template_mode.ensures.limits before) b stands) (λ plain d now. c.push_template_mode.ensures.rule plain before d now)))
