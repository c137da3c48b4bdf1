use Rattle.std.proofs.Common.{◌≡◌, length}
use Rattle.page_trees.specs.KeyPlaces.{keys_of, last_key}
use Rattle.page_trees.proofs.formatting.places.last_by_walk.Given as goal

-- the keys that are left decide
abbrev pub invariant-loop-row : goal.invariant-loop-row
invariant-loop-row l = last_key l.key (keys_of l.rest) ≡ last_key l.key (keys_of l.rows)

abbrev pub decreases-loop-row : goal.decreases-loop-row
decreases-loop-row l = length l.rest
