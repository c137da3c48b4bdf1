use Rattle.std.proofs.Common.{◌≡◌, false, take}
use Rattle.std.specs.List.{list_any}
use Rattle.dom_clean.specs.Fates.{is_named}
use Rattle.dom_clean.proofs.attributes.has_named.Given as goal

-- none of the attributes so far has that name
abbrev pub invariant-loop-attr : goal.invariant-loop-attr
invariant-loop-attr l = list_any (is_named l.name) (take l.attr-index l.attrs) ≡ false
