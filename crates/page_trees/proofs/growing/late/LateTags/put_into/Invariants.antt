use Rattle.std.proofs.Common.{◌≡◌, length}
use Rattle.page_trees.specs.TreeState.{completed, late_of}
use Rattle.page_trees.proofs.growing.late.LateTags.put_into.Given as goal

-- what is left is still to be put into the tree
abbrev pub invariant-loop-late : goal.invariant-loop-late
invariant-loop-late l = completed (late_of l.left.elements.items) l.tree ≡ completed (late_of l.fn.self.elements.items) l.fn.tree

abbrev pub decreases-loop-late : goal.decreases-loop-late
decreases-loop-late l = length l.left.elements.items
