use Rattle.std.proofs.Common.{◌≡◌, false, take}
use Rattle.std.specs.List.{list_any}
use Rattle.dom_clean.specs.Fates.{is_own}
use Rattle.dom_clean.specs.Policies.{own_of}
use Rattle.dom_clean.proofs.attributes.has_own.Given as goal

-- none of the attributes so far is such a one
abbrev pub invariant-loop-one : goal.invariant-loop-one
invariant-loop-one l = list_any (λ one. is_own l.element l.name l.value (own_of one)) (take l.one-index l.own) ≡ false
