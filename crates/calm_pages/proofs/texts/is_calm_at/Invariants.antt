use Rattle.std.proofs.Common.{◌≡◌, length}
use Rattle.calm_pages.specs.Calm.{is_calm_at}
use Rattle.calm_pages.proofs.texts.is_calm_at.Given as goal

-- what is left decides
abbrev pub invariant-loop-at : goal.invariant-loop-at
invariant-loop-at l = is_calm_at l.byte l.rest ≡ is_calm_at l.byte l.bytes

abbrev pub decreases-loop-at : goal.decreases-loop-at
decreases-loop-at l = length l.rest
