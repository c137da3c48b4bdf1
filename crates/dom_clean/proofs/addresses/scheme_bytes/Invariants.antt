use Rattle.std.proofs.Common.{◌≡◌, ◌+◌, drop}
use Rattle.std.specs.List.{prefix_len}
use Rattle.url.specs.Scheme.{is_scheme_byte}
use Rattle.dom_clean.proofs.addresses.scheme_bytes.Given as goal

abbrev pub invariant-loop-at : goal.invariant-loop-at
invariant-loop-at l = l.at + prefix_len is_scheme_byte (drop l.at l.bytes) ≡ prefix_len is_scheme_byte l.bytes
