use Rattle.std.proofs.Common.{refl}
use Rattle.page_trees.proofs.BodyStarts.{paragraph_step}
use Rattle.page_trees.proofs.builder.TreeBuilder.end_paragraph.Goals as goal

pub returns-clause-rule : goal.returns-clause-rule
returns-clause-rule c within b stands = paragraph_step c.args.self.now c.close.new.self (c.close.ensures.rule refl) b stands
