use Rattle.std.proofs.Common.{◌≡◌, false, string_bytes, take}
use Rattle.std.specs.List.{list_any}
use Rattle.std.specs.Str.{bytes_eq}
use Rattle.dom_clean.proofs.addresses.has_scheme.Given as goal

-- none of the schemes so far is it
abbrev pub invariant-loop-one : goal.invariant-loop-one
invariant-loop-one l = list_any (λ one. bytes_eq (string_bytes one) l.scheme) (take l.one-index l.schemes) ≡ false
