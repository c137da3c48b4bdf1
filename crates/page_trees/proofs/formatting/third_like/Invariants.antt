use Rattle.std.proofs.Common.{◌≡◌, length}
use Rattle.std.specs.Prelude.{slice_get}
use Rattle.page_trees.specs.Formatting.{places_alike, third_alike}
use Rattle.page_trees.proofs.formatting.third_like.Given as goal

-- the entries that are left decide, with `more` like elements to be passed over
abbrev pub invariant-loop-entry : goal.invariant-loop-entry
invariant-loop-entry l = slice_get (places_alike l.tree l.id l.rest) l.more ≡ third_alike l.tree l.id l.entries

abbrev pub decreases-loop-entry : goal.decreases-loop-entry
decreases-loop-entry l = length l.rest
