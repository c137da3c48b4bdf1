use Rattle.std.proofs.Common.{◌≡◌, length}
use Rattle.page_trees.specs.Formatting.{is_of, last_place}
use Rattle.page_trees.proofs.formatting.last_entry_of.Given as goal

-- the entries that are left decide
abbrev pub invariant-loop-entry : goal.invariant-loop-entry
invariant-loop-entry l = last_place (is_of l.id) l.rest ≡ last_place (is_of l.id) l.entries

abbrev pub decreases-loop-entry : goal.decreases-loop-entry
decreases-loop-entry l = length l.rest
