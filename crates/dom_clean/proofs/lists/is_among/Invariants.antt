use Rattle.std.proofs.Common.{◌≡◌, false, string_bytes, take}
use Rattle.std.specs.List.{list_any}
use Rattle.std.specs.Str.{bytes_eq}
use Rattle.dom_clean.proofs.lists.is_among.Given as goal

-- none of the names so far is the text
abbrev pub invariant-loop-name : goal.invariant-loop-name
invariant-loop-name l = list_any (λ name. bytes_eq (string_bytes name) l.text) (take l.name-index l.names) ≡ false
