use Rattle.std.proofs.Common.{◌≡◌, drop}
use Rattle.std.specs.Prelude.{◌==◌}
use Rattle.std.specs.List.{list_all}
use Rattle.dom_nodes.specs.Ascii.{equals_sign}
use Rattle.dom_md.proofs.chunks.is_underline.Given as goal

abbrev pub invariant-loop-byte : goal.invariant-loop-byte
invariant-loop-byte l = list_all (λ c. c == equals_sign) (drop l.byte-index l.bytes) ≡ list_all (λ c. c == equals_sign) l.bytes
