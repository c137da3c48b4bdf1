use Rattle.std.proofs.Common.{◌≡◌, ◌++◌, drop, take}
use Rattle.encodings.specs.Bytes.{after_while, front_while}
use Rattle.encodings.specs.Runs.{in_run}
use Rattle.encodings.proofs.places.Run.split.Given as goal

-- the bytes so far are of this kind, and what is left decides
abbrev pub invariant-loop-i : goal.invariant-loop-i
invariant-loop-i l =
    (after_while (in_run l.self) (drop l.i l.bytes) ≡ after_while (in_run l.self) l.bytes)
    × (front_while (in_run l.self) l.bytes ≡ take l.i l.bytes ++ front_while (in_run l.self) (drop l.i l.bytes))
