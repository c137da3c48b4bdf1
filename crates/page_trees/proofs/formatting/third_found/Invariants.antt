use Rattle.std.proofs.Common.{◌≡◌, length}
use Rattle.std.specs.Prelude.{slice_get, take}
use Rattle.page_trees.specs.Formatting.{places_alike, third_alike}
use Rattle.page_trees.proofs.formatting.third_found.Given as goal

-- the entries that are left are the first ones, and decide, with `to_pass` like elements to be passed over
abbrev pub invariant-loop-place : goal.invariant-loop-place
invariant-loop-place l = record {
  front : l.rest ≡ take (length l.rest) l.entries;
  left : slice_get (places_alike l.tree l.id l.rest) l.to_pass ≡ third_alike l.tree l.id l.entries;
}

abbrev pub decreases-loop-place : goal.decreases-loop-place
decreases-loop-place l = length l.rest
