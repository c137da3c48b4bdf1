-- The four bytes of a link, and the node id that they stand for.
use Rattle.std.specs.Prelude.{ℕ, ◌≡◌, ◌≤◌, Bool, true, false, Option, Some, None, ltb, if◌then◌else◌}
use Rattle.std.proofs.Common.{ap, refl}
use Rattle.std.proofs.Math.Nat.{le_antisymm}
use Rattle.std.proofs.lemmas.Bool.{ltb-false}
use Rattle.dom_nodes.specs.declared.link.Link.TheInside.{Inside}

-- The largest value, 4294967295, stands for no node; any other value is the id itself.
abbrev pub link_target : ℕ → Option ℕ
link_target value = if ltb value 4294967295 then Some value else None

-- The value that is stored for an optional id.
abbrev pub value_for : Option ℕ → ℕ
value_for (Some value) = value
value_for None = 4294967295

-- The link to an optional id.
abbrev pub link_of : Option ℕ → Inside
link_of id = record { value = value_for id }

value_same : (value : ℕ) → value ≤ 4294967295 → value_for (link_target value) ≡ value
value_same value small = at (ltb value 4294967295) refl
  where
    at : (below : Bool) → ltb value 4294967295 ≡ below → value_for (if below then Some value else None) ≡ value
    at true _ = refl
    at false past = le_antisymm (ltb-false value 4294967295 past) small

-- Every link is determined by the optional id that it stands for.
pub link_same : (link : Inside) → link.value ≤ 4294967295 → link_of (link_target link.value) ≡ link
link_same link small =
    let of : ℕ → Inside = λ value. record { value = value } in
    ap of (value_same link.value small)
