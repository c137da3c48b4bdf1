use Rattle.std.proofs.Common.{◌≡◌, ◌<◌, ℕ, length}
use Rattle.dom_selectors.specs.Spelling.{Decides}
use Rattle.dom_index.specs.NodeSets.{in_set}
use Rattle.dom_index.proofs.BackwardLemmas.{DecidedBy}
use Rattle.dom_index.proofs.combinators.step_backward.Given as goal

-- each node is flagged by the last so many in the preorder
abbrev pub invariant-loop-i : goal.invariant-loop-i
invariant-loop-i l =
    let forest = l.preorder.tree.now in
    record {
      long : length l.flags.items ≡ length forest.content;
      answer : (m : ℕ) → m < length forest.content → Decides (in_set l.flags.items m) (DecidedBy forest l.combinator l.table l.preorder.places.items l.i m);
    }
