use Rattle.std.proofs.Common.{◌≡◌, length}
use Rattle.page_trees.specs.Reopening.{stays}
use Rattle.page_trees.specs.Scopes.{last_place}
use Rattle.page_trees.proofs.growing.GrowingTree.first_closed.Given as goal

-- the entries that are left decide
abbrev pub invariant-loop-entry : goal.invariant-loop-entry
invariant-loop-entry l = last_place (stays l.self.stack) l.rest ≡ last_place (stays l.self.stack) l.self.formatting

abbrev pub decreases-loop-entry : goal.decreases-loop-entry
decreases-loop-entry l = length l.rest
