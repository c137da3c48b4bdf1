use Rattle.std.proofs.Common.{◌≡◌, false}
use Rattle.standard_trees.specs.Formatting.{adopt}
use Rattle.page_trees.specs.Scopes.{is_name}
use Rattle.page_trees.specs.declared.name.Name.{Name}
use Rattle.page_trees.proofs.AgencyRounds.{Halfway}
use Rattle.page_trees.proofs.growing.GrowingTree.adopt_again.Given as goal

-- the rounds that are left
abbrev pub invariant-loop-left : goal.invariant-loop-left
invariant-loop-left l = is_name l.name Name.Other ≡ false → Halfway (adopt 7) l.name l.foster l.left l.initial.self l.self

abbrev pub decreases-loop-left : goal.decreases-loop-left
decreases-loop-left l = l.left
