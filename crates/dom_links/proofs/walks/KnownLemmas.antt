-- Counting siblings as far as one whose index is known.
use Rattle.std.proofs.Common.{ℕ, ◌≡◌, ◌<◌, ◌≤◌, ◌+◌, Bool, true, false, List, [], ◌∷◌, Option, Some, None, inl, inr, refl, sym, ap, ◌∙◌, subst, arith, cond, length, slice_get, get_or-set_same, get_or-set_other}
use Rattle.std.specs.Prelude.{◌==◌, count_by, slice_set}
use Rattle.std.specs.Option.{option_map_or}
use Rattle.std.proofs.lemmas.List.{set_past}
use Rattle.std.proofs.lemmas.Bool.{cases_Bool, eqb-true, eq-eqb, true≢false}
use Rattle.std.proofs.lemmas.Bool.{cases_lt}
use Rattle.dom_nodes.specs.NameLaws.{same_name-equiv}
use Rattle.dom_nodes.specs.Names.{same_name}
use Rattle.dom_nodes.specs.declared.name.NameParts.{NameParts}
use Rattle.dom_nodes.specs.declared.node_data.NodeData.{NodeData}
use Rattle.dom_nodes.specs.declared.node_data.NodeData.TheVariants.{Element}
use Rattle.dom_nodes.specs.declared.indexes.IndexKind.{IndexKind}
use Rattle.dom_nodes.specs.declared.indexes.IndexKind.TheVariants.{Child, LastChild, OfType, LastOfType}
use Rattle.dom_links.specs.Forest.{Forest}
use Rattle.dom_links.specs.Indexes.{AreIndexes, counts, index_at, index_known, is_from_first, of_one_type}
use Rattle.dom_links.specs.Walk.{later, row_on}
use Rattle.dom_links.proofs.walks.IndexLemmas.{Counting, one_more}

-- names that are the same are so to every other name

name_alike : (a b c : NameParts) → same_name a b ≡ true → same_name a c ≡ same_name b c
name_alike a b c h = same_name-equiv.congr a b c h

abbrev typed : Option NodeData → Option NodeData → Bool
typed a b = option_map_or (λ node. option_map_or (of_one_type node) b false) a false

types_alike : (a b c : Option NodeData) → typed a b ≡ true → typed a c ≡ typed b c
types_alike None b c h = absurd (true≢false (sym h))
types_alike (Some a) None c h = absurd (true≢false (sym h))
types_alike (Some (Element a)) (Some (Element b)) None h = refl
types_alike (Some (Element a)) (Some (Element b)) (Some (Element c)) h = name_alike a.name b.name c.name h
types_alike (Some (Element a)) (Some (Element b)) (Some _) h = refl
types_alike (Some _) (Some _) c h = absurd (true≢false (sym h))

-- a sibling that counts is counted with the same ones
counts_alike : (forest : Forest) (kind : IndexKind) (n at : ℕ) → counts kind forest n at ≡ true → (m : ℕ) → counts kind forest n m ≡ counts kind forest at m
counts_alike forest Child n at h m = refl
counts_alike forest LastChild n at h m = refl
counts_alike forest OfType n at h m = types_alike (slice_get forest.content n) (slice_get forest.content at) (slice_get forest.content m) h
counts_alike forest LastOfType n at h m = types_alike (slice_get forest.content n) (slice_get forest.content at) (slice_get forest.content m) h

count_alike : (p q : ℕ → Bool) → ((m : ℕ) → p m ≡ q m) → (ns : List ℕ) → count_by p ns ≡ count_by q ns
count_alike p q h [] = refl
count_alike p q h (n ∷ ns) = one_more p n ns (q n) (h n) ∙ ap (λ k. cond (q n) 1 0 + k) (count_alike p q h ns) ∙ sym (one_more q n ns (q n) refl)

count_few : (p : ℕ → Bool) (ns : List ℕ) → count_by p ns ≤ length ns
count_few p [] = omega arith
count_few p (n ∷ ns) =
    let few = count_few p ns in
    elim (cases_Bool (p n)) [
      | inl t ↦ let is = one_more p n ns true t in omega arith
      | inr f ↦ let is = one_more p n ns false f in omega arith
    ]

module _ (forest : Forest) (kind : IndexKind) (n at index : ℕ) (next : Option ℕ) (counting : Counting forest kind n next index) (some : next ≡ Some at) (counts_so : counts kind forest n at ≡ true) where
  -- the index of a sibling that counts, and how many were counted before it
  pub as_far : index + index_at kind forest at ≡ index_at kind forest n
  as_far =
      let row : count_by (counts kind forest n) (row_on forest (is_from_first kind) next) ≡ index_at kind forest at =
      ap (λ o. count_by (counts kind forest n) (row_on forest (is_from_first kind) o)) some
      ∙ one_more (counts kind forest n) at (later forest (is_from_first kind) at) true counts_so
      ∙ ap (λ k. 1 + k) (count_alike (counts kind forest n) (counts kind forest at) (counts_alike forest kind n at counts_so) (later forest (is_from_first kind) at)) in
      let same = counting.same in
      omega arith

pub never_many : (forest : Forest) (kind : IndexKind) (n index : ℕ) (next : Option ℕ) → Counting forest kind n next index → index_at kind forest n ≤ 4294967295
never_many forest kind n index next counting =
    let few = count_few (counts kind forest n) (row_on forest (is_from_first kind) next) in
    let same = counting.same in
    let room = counting.room in
    omega arith

-- one more index that is right
pub noted : (forest : Forest) (kind : IndexKind) (known : List ℕ) (at v : ℕ) → AreIndexes kind forest known → v ≡ index_at kind forest at → AreIndexes kind forest (slice_set known at v)
noted forest kind known at v right is m low =
    elim (cases_Bool (at == m)) [
      | inl t ↦ let here = eqb-true at m t in elim (cases_lt at (length known)) [
        | inl within ↦ ap (index_known (slice_set known at v)) (sym here) ∙ get_or-set_same known at v 0 within ∙ is ∙ ap (index_at kind forest) here
        | inr past ↦ let same = set_past known at v past in ap (λ k. index_known k m) same ∙ right m (subst (λ k. 0 < index_known k m) same low)
      ]
      | inr f ↦
          let other = get_or-set_other known at m v 0 (λ e. true≢false (sym (eq-eqb at m (sym e)) ∙ f)) in
          other ∙ right m (subst (λ k. 0 < k) other low)
    ]
