use Rattle.std.proofs.Common.{arith}
use Rattle.dom_index.proofs.node_set.intersect_elements.Goals as goal

pub returns : goal.returns
returns c = record {
  long = c.loop-n.invariant.long;
  each = λ n known. c.loop-n.invariant.filled n (let long = c.loop-n.invariant.long in omega arith);
}
