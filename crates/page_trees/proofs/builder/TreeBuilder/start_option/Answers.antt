use Rattle.std.proofs.Common.{[], ◌∷◌}
use Rattle.standard_trees.specs.RuleWords.{InsertElement, ReconstructFormatting}
use Rattle.page_trees.specs.BodyTags.{option_ended}
use Rattle.page_trees.specs.Stands.{text_list}
use Rattle.page_trees.proofs.BodyControls.{changed_then}
use Rattle.page_trees.proofs.builder.TreeBuilder.start_option.Goals as goal

pub returns-clause-rule : goal.returns-clause-rule
returns-clause-rule c known =
    changed_then (option_ended (text_list c.args.except)) (ReconstructFormatting ∷ InsertElement ∷ []) c.args.name c.args.tag.now c.args.self.now c.end_option.new.self
    c.insert_inline.new.self (c.end_option.ensures.rule known) c.insert_inline.ensures.limits c.insert_inline.ensures.rule
