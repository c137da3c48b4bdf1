-- The attributes that a tag's reader has kept.
use Rattle.std.proofs.Common.{ℕ, ◌≡◌, Bool, true, false, List, [], ◌∷◌, ◌++◌, refl, sym, ap, ◌∙◌, map, ◌||◌}
use Rattle.std.specs.List.{list_any}
use Rattle.std.specs.Str.{bytes_eq}
use Rattle.std.proofs.lemmas.List.{map-append}
use Rattle.dom_nodes.specs.declared.name.Attr.{Attr}
use Rattle.dom_markup.specs.ValueTrees.{Attribute}
use Rattle.dom_markup.specs.Markup.{BeginsAttribute, EndsTag, has_name, kept_after}
use Rattle.dom_markup.specs.Numbered.{read_attr}
use Rattle.dom_markup.proofs.grammar.Reading.{one_first}

has_name-read : (name : List ℕ) (kept : List Attribute) → list_any (λ attr. bytes_eq attr.name.local name) (map read_attr kept) ≡ has_name name kept
has_name-read name [] = refl
has_name-read name (a ∷ kept) = ap (λ b. bytes_eq a.name name || b) (has_name-read name kept)

name_known : (attrs : List Attr) (kept : List Attribute) (name : List ℕ) → attrs ≡ map read_attr kept → list_any (λ attr. bytes_eq attr.name.local name) attrs ≡ has_name name kept
name_known attrs kept name e = ap (list_any (λ (attr : Attr). bytes_eq attr.name.local name)) e ∙ has_name-read name kept

-- an attribute whose name is known is left out
pub left_out : (attrs : List Attr) (a : Attribute) → list_any (λ attr. bytes_eq attr.name.local a.name) attrs ≡ true →
    (kept : List Attribute) → attrs ≡ map read_attr kept → attrs ≡ map read_attr (kept_after kept (a ∷ []))
left_out attrs a known kept e =
    let is : has_name a.name kept ≡ true = sym (name_known attrs kept a.name e) ∙ known in
    rw is e

-- another is added
pub added : (attrs : List Attr) (a : Attribute) → list_any (λ attr. bytes_eq attr.name.local a.name) attrs ≡ false →
    (kept : List Attribute) → attrs ≡ map read_attr kept → attrs ++ read_attr a ∷ [] ≡ map read_attr (kept_after kept (a ∷ []))
added attrs a new kept e =
    let is : has_name a.name kept ≡ false = sym (name_known attrs kept a.name e) ∙ new in
    rw is (ap (λ (xs : List Attr). xs ++ read_attr a ∷ []) e ∙ sym (map-append read_attr kept (a ∷ [])))

-- of the attributes in a text, those before the rest are kept
pub record AreKept (text rest : List ℕ) (attrs : List Attr) : Type 0 where
  pub first : List Attribute
  pub are : attrs ≡ map read_attr first
  pub later : (slash : Bool) (all : List Attribute) (end : List ℕ) → EndsTag slash text all end → (more : List Attribute) × EndsTag slash rest more end × (kept_after [] all ≡ kept_after first more)

pub kept_none : (text : List ℕ) (attrs : List Attr) → attrs ≡ [] → AreKept text text attrs
kept_none text attrs e = record { first = []; are = e; later = λ slash all end h. (all, h, refl) }

pub kept_one : (text rest after : List ℕ) (old new : List Attr) (a : Attribute) → BeginsAttribute rest a after → AreKept text rest old →
    ((kept : List Attribute) → old ≡ map read_attr kept → new ≡ map read_attr (kept_after kept (a ∷ []))) → AreKept text after new
kept_one text rest after old new a b h step = record {
  first = kept_after h.first (a ∷ []);
  are = step h.first h.are;
  later = λ slash all end ends.
      let now = h.later slash all end ends in
      let one = one_first slash rest after a b now.0 end now.1 in
      (one.0, one.1, now.2 ∙ ap (kept_after h.first) one.2);
}

pub kept_all : (text rest : List ℕ) (attrs : List Attr) → AreKept text rest attrs → ((a : Attribute) (after : List ℕ) → BeginsAttribute rest a after → ⊥) →
    (slash : Bool) (all : List Attribute) (end : List ℕ) → EndsTag slash text all end → attrs ≡ map read_attr (kept_after [] all)
kept_all text rest attrs h none slash all end ends = go (h.later slash all end ends).0 (h.later slash all end ends).1 (h.later slash all end ends).2
  where
    go : (more : List Attribute) → EndsTag slash rest more end → kept_after [] all ≡ kept_after h.first more → attrs ≡ map read_attr (kept_after [] all)
    go [] t e = h.are ∙ ap (map read_attr) (sym e)
    go (c ∷ cs) t e = absurd (none c t.0 t.1)
