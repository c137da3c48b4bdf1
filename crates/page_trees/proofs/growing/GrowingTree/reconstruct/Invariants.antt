use Rattle.std.proofs.Common.{◌≡◌, ◌≤◌, false, length}
use Rattle.standard_trees.specs.GrowingTree.{GrowingTree}
use Rattle.page_trees.specs.Stands.{Builds}
use Rattle.page_trees.proofs.ClosedEntries.{IsHalfway}
use Rattle.page_trees.proofs.growing.GrowingTree.reconstruct.Given as goal

-- the entries up to the index are those of the definition
abbrev pub invariant-loop-index : goal.invariant-loop-index
invariant-loop-index l = l.placing.in_head ≡ false → length l.self.stack ≤ l.placing.max_depth → (t : GrowingTree) → t.fostering ≡ l.placing.foster → Builds l.initial.self t →
    IsHalfway l.placing l.initial.self l.self l.index t
