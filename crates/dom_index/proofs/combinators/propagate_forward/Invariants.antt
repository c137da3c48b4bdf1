use Rattle.std.proofs.Common.{◌≡◌, ◌<◌, ℕ, length}
use Rattle.dom_index.specs.Orders.{number_at}
use Rattle.dom_selectors.specs.Spelling.{Decides}
use Rattle.dom_index.specs.NodeSets.{HasLeftOperand, in_set}
use Rattle.dom_index.proofs.combinators.propagate_forward.Given as goal

-- the nodes at earlier positions are decided
abbrev pub invariant-loop-i : goal.invariant-loop-i
invariant-loop-i l = record {
  long : length l.flags.items ≡ length l.preorder.tree.now.content;
  answer : (n : ℕ) → n < length l.preorder.tree.now.content → number_at l.preorder.places.items n < l.i → Decides (in_set l.flags.items n) (HasLeftOperand l.preorder.tree.now l.combinator l.table n);
}
