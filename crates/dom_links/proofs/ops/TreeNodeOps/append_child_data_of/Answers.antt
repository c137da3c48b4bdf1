use Rattle.std.proofs.Common.{arith}
use Rattle.std.proofs.lemmas.Grind.{common_steps, elements}
use Rattle.dom_links.proofs.ops.TreeNodeOps.append_child_data_of.Goals as goal

pub add_child-requires-clause-target_known : goal.add_child-requires-clause-target_known
add_child-requires-clause-target_known c = grind (arith, common_steps)

pub returns : goal.returns
returns c = grind (arith, elements)
