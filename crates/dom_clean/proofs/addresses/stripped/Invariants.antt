use Rattle.std.proofs.Common.{◌≡◌, filter, not, take}
use Rattle.url.specs.Input.{is_tab_or_new_line}
use Rattle.dom_clean.proofs.addresses.stripped.Given as goal

abbrev pub invariant-loop-byte : goal.invariant-loop-byte
invariant-loop-byte l = l.made.items ≡ filter (λ b. not (is_tab_or_new_line b)) (take l.byte-index l.bytes)
