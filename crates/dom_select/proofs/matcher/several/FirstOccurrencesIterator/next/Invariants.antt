use Rattle.std.proofs.Common.{◌≡◌, length}
use Rattle.dom_select.specs.Marks.{first_unmarked}
use Rattle.dom_select.proofs.matcher.several.FirstOccurrencesIterator.next.Given as goal

-- what has no mark yet stays
abbrev pub invariant-loop-id : goal.invariant-loop-id
invariant-loop-id l = first_unmarked l.self-inside.marks.items l.self-inside.walks ≡ first_unmarked l.initial.self-inside.marks.items l.initial.self-inside.walks

abbrev pub decreases-loop-id : goal.decreases-loop-id
decreases-loop-id l = length l.self-inside.walks
