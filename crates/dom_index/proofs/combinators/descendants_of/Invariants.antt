use Rattle.std.proofs.Common.{◌≡◌, ◌<◌, ℕ, length}
use Rattle.dom_selectors.specs.declared.syntax.Combinator.TheVariants.{Descendant}
use Rattle.dom_selectors.specs.Spelling.{Decides}
use Rattle.dom_index.specs.Orders.{IsEnd, number_at}
use Rattle.dom_index.specs.NodeSets.{HasLeftOperand, in_set}
use Rattle.dom_index.proofs.combinators.descendants_of.Given as goal

-- the nodes at earlier positions are decided
abbrev pub invariant-loop-i : goal.invariant-loop-i
invariant-loop-i l = record {
  long : length l.flags.items ≡ length l.preorder.tree.now.content;
  ends : IsEnd l.preorder.tree.now l.preorder.places.items l.preorder.subtree_ends.items l.table l.i l.end;
  answer : (n : ℕ) → n < length l.preorder.tree.now.content → number_at l.preorder.places.items n < l.i → Decides (in_set l.flags.items n) (HasLeftOperand l.preorder.tree.now Descendant l.table n);
}
