use Rattle.page_trees.proofs.BodyInputs.{input_flagged, input_unflagged}
use Rattle.page_trees.proofs.builder.TreeBuilder.fill_body_with_input.Goals as goal

pub returns-then-not-is_hidden-clause-rule : goal.returns-then-not-is_hidden-clause-rule
returns-then-not-is_hidden-clause-rule c = input_flagged c.args.tag.now c.args.self.now c.is_hidden.result c.is_hidden.ensures c.if-not-is_hidden.true

pub returns-else-not-is_hidden-clause-rule : goal.returns-else-not-is_hidden-clause-rule
returns-else-not-is_hidden-clause-rule c = input_unflagged c.args.tag.now c.args.self.now c.is_hidden.result c.is_hidden.ensures c.if-not-is_hidden.false
