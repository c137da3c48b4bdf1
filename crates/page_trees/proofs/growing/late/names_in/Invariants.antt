use Rattle.std.proofs.Common.{◌≡◌, ◌||◌, List, length, ℕ}
use Rattle.std.specs.BTreeSet.{contains_text}
use Rattle.page_trees.specs.LateAttrs.{is_present}
use Rattle.page_trees.proofs.growing.late.names_in.Given as goal

-- the names in the set and those that are left are all
abbrev pub invariant-loop-attr : goal.invariant-loop-attr
invariant-loop-attr l = (name : List ℕ) → (contains_text l.names name || is_present l.rest name) ≡ is_present l.attrs name

abbrev pub decreases-loop-attr : goal.decreases-loop-attr
decreases-loop-attr l = length l.rest
