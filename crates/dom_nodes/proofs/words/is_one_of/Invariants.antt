use Rattle.std.proofs.Common.{◌≡◌, false, take}
use Rattle.std.specs.List.{list_any}
use Rattle.std.specs.Str.{bytes_eq}
use Rattle.dom_nodes.proofs.words.is_one_of.Given as goal

-- none of the names so far is the text
abbrev pub invariant-loop-name : goal.invariant-loop-name
invariant-loop-name l = list_any (λ name. bytes_eq name.now l.text) (take l.name-index l.names) ≡ false
