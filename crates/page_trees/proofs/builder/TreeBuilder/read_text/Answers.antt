use Rattle.page_trees.proofs.HeadEdits.{text_read}
use Rattle.page_trees.proofs.builder.TreeBuilder.read_text.Goals as goal

pub returns-clause-rule : goal.returns-clause-rule
returns-clause-rule c s is within b stands = text_read c.args.self.now _ s c.args.state is c.done_in.ensures.mode b stands
