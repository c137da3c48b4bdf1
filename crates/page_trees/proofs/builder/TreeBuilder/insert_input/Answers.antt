use Rattle.std.proofs.Common.{[], ◌∷◌}
use Rattle.standard_trees.specs.RuleWords.{InsertElement, Pop}
use Rattle.page_trees.proofs.BodyInputs.{reconstructed_then}
use Rattle.page_trees.proofs.builder.TreeBuilder.insert_input.Goals as goal

pub returns-clause-rule : goal.returns-clause-rule
returns-clause-rule c =
    reconstructed_then c.args.tag.now c.args.self.now c.reconstruct.new.self c.insert_void.new.self (InsertElement ∷ Pop ∷ []) c.reconstruct.ensures.rule c.insert_void.ensures.limits
    c.insert_void.ensures.rule
