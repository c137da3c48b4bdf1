use Rattle.std.proofs.Common.{ℕ, ◌<◌, ◌≡◌, Some}
use Rattle.std.specs.Prelude.{slice_get}
use Rattle.dom_links.specs.Forest.{arena_ids}
use Rattle.dom_links.proofs.validation.links.ids_are_indexes.Given as goal

-- so far each number is its place
abbrev pub invariant-loop-n : goal.invariant-loop-n
invariant-loop-n l = (k : ℕ) → k < l.n → slice_get (arena_ids l.nodes) k ≡ Some k
