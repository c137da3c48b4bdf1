use Rattle.std.proofs.Common.{◌≡◌, false, string_bytes, take}
use Rattle.std.specs.List.{list_any}
use Rattle.std.specs.Str.{bytes_eq}
use Rattle.dom_clean.proofs.policy.has_own.Given as goal

-- none of the attributes so far has that name
abbrev pub invariant-loop-own : goal.invariant-loop-own
invariant-loop-own l = list_any (λ own. bytes_eq (string_bytes own.attribute) l.name) (take l.own-index l.names) ≡ false
