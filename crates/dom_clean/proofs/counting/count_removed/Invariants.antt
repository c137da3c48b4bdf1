use Rattle.std.proofs.Common.{map, take}
use Rattle.dom_clean.specs.Counts.{Counts}
use Rattle.dom_clean.specs.Removals.{removal_of}
use Rattle.dom_clean.proofs.counting.count_removed.Given as goal

-- those before that place were counted
abbrev pub invariant-loop-at : goal.invariant-loop-at
invariant-loop-at l = Counts (map removal_of (take l.at l.removed)) l.counts
