use Rattle.std.proofs.Common.{◌≡◌, drop, nat_eq}
use Rattle.std.specs.List.{starts_with}
use Rattle.encodings.specs.Bytes.{from_first}
use Rattle.encodings.proofs.places.from_text.Given as goal

-- what is left decides
abbrev pub invariant-loop-i : goal.invariant-loop-i
invariant-loop-i l = from_first (λ rest. starts_with nat_eq rest l.text) (drop l.i l.bytes) ≡ from_first (λ rest. starts_with nat_eq rest l.text) l.bytes
