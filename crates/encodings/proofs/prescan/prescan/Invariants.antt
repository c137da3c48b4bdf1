use Rattle.std.proofs.Common.{◌≡◌, length}
use Rattle.encodings.specs.Prescan.{prescan}
use Rattle.encodings.proofs.prescan.prescan.Given as goal

-- what is left decides
abbrev pub invariant-loop-rest : goal.invariant-loop-rest
invariant-loop-rest l = prescan 0 l.rest ≡ prescan 0 l.bytes

abbrev pub decreases-loop-rest : goal.decreases-loop-rest
decreases-loop-rest l = length l.rest
