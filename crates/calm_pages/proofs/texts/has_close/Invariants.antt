use Rattle.std.proofs.Common.{◌≡◌, length}
use Rattle.calm_pages.specs.Calm.{has_close}
use Rattle.calm_pages.proofs.texts.has_close.Given as goal

-- what is left decides
abbrev pub invariant-loop-first : goal.invariant-loop-first
invariant-loop-first l = has_close l.rest ≡ has_close l.text

abbrev pub decreases-loop-first : goal.decreases-loop-first
decreases-loop-first l = length l.rest
