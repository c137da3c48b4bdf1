-- Numbers by name: one more, and what they are of all that was counted.
use Rattle.std.proofs.Common.{Global, ℕ, zero, suc, ◌≡◌, ◌+◌, ◌<◌, ◌≤◌, get_or, map, take, Bool, true, false, List, [], ◌∷◌, ◌++◌, Option, Some, refl, sym, ap, ◌∙◌, subst, length, cond, arith, append-nil, inl, inr}
use Rattle.std.specs.Prelude.{String, filter, string_bytes, unwrap_or}
use Rattle.std.specs.BTreeMap.{BTreeMap, UpdatesBy, get_by_text}
use Rattle.std.specs.Cmp.Lexicographic.{slice_cmp}
use Rattle.std.specs.Map.{lookup}
use Rattle.std.specs.Ordering.{is_eq, nat_cmp}
use Rattle.std.specs.Str.{bytes_eq}
use Rattle.std.specs.String.{string_cmp}
use Rattle.std.proofs.lemmas.Bool.{cases_Bool}
use Rattle.std.proofs.lemmas.List.{length-append, map-append, take_all, take_more}
use Rattle.std.proofs.lemmas.List.Elements.{filter-append}
use Rattle.std.proofs.lemmas.Map.Text.{btree_map_updates_text}
use Rattle.std.proofs.lemmas.Slice.Eq.{bytes_eq-Decides}
use Rattle.dom_clean.specs.Counts.{AddsOne, Counts, CountsBy, CountsOne, if_any, is_address, is_attribute, is_element}
use Rattle.dom_clean.specs.Removals.{Removal, an_address, an_attribute, an_element, removal_of}
use Rattle.dom_clean.specs.declared.removals.Removed.{Removed}
use Rattle.dom_clean.specs.declared.counting.RemovedCounts.{RemovedCounts}

-- the number of a name is set to one more
pub adds_one : {A : Type 0} (key : String A) (m n : BTreeMap (String A) ℕ) (name : List ℕ) (count before : ℕ) → string_bytes key ≡ name → count ≡ before + 1 → before ≡ unwrap_or (get_by_text m name) 0 →
    UpdatesBy string_cmp (λ k. slice_cmp nat_cmp (string_bytes key) (string_bytes k)) m n (Some count) → AddsOne name m n
adds_one key m n name count before spelt more was updates other =
    btree_map_updates_text (string_bytes key) m n (Some count) updates other
    ∙ ap (λ (w : List ℕ). cond (bytes_eq w other) (Some count) (get_by_text m other)) spelt
    ∙ ap (λ (k : ℕ). cond (bytes_eq name other) (Some k) (get_by_text m other)) (more ∙ ap (λ b. b + 1) was)

-- the number that is kept is the number
kept_is : (n : ℕ) → unwrap_or (if_any n) 0 ≡ n
kept_is zero = refl
kept_is (suc n) = refl

plus_one : (n : ℕ) → n + 1 ≡ suc n
plus_one n = omega arith

-- one thing more
module _ (has : List ℕ → Removal → Bool) (rs : List Removal) (r : Removal) where
  -- those that have the name, and then that thing, if it has it
  then : (name : List ℕ) → filter (has name) (rs ++ r ∷ []) ≡ filter (has name) rs ++ cond (has name r) (r ∷ []) []
  then name = filter-append (has name) rs (r ∷ [])

  -- it has none of the names
  same_times : (name : List ℕ) → has name r ≡ false → if_any (length (filter (has name) (rs ++ r ∷ []))) ≡ if_any (length (filter (has name) rs))
  same_times name other = ap (λ l. if_any (length l)) (then name ∙ ap (λ b. filter (has name) rs ++ cond b (r ∷ []) []) other ∙ append-nil (filter (has name) rs))

  one_more_time : (name : List ℕ) → has name r ≡ true → if_any (length (filter (has name) (rs ++ r ∷ []))) ≡ Some (length (filter (has name) rs) + 1)
  one_more_time name own =
      let n = length (filter (has name) rs) in
      ap (λ l. if_any (length l)) (then name ∙ ap (λ b. filter (has name) rs ++ cond b (r ∷ []) []) own)
      ∙ ap if_any (length-append (filter (has name) rs) (r ∷ []) ∙ plus_one n) ∙ ap Some (sym (plus_one n))

  -- another kind of names is counted as before
  pub others_counted : {A : Type 0} (m : BTreeMap (String A) ℕ) → ((name : List ℕ) → has name r ≡ false) → CountsBy has rs m → CountsBy has (rs ++ r ∷ []) m
  others_counted m none counts name = counts name ∙ sym (same_times name (none name))

  -- and its own has one more
  pub one_counted : {A : Type 0} (name : List ℕ) (m n : BTreeMap (String A) ℕ) → ((other : List ℕ) → has other r ≡ bytes_eq name other) → AddsOne name m n → CountsBy has rs m → CountsBy has (rs ++ r ∷ []) n
  one_counted name m n own adds counts other = elim (cases_Bool (bytes_eq name other)) [
    | inl t ↦
        adds other ∙ ap (λ b. cond b (Some (unwrap_or (get_by_text m name) 0 + 1)) (get_by_text m other)) t
        ∙ ap (λ (o : Option ℕ). Some (unwrap_or o 0 + 1)) (ap (get_by_text m) ((bytes_eq-Decides name other).0 t) ∙ counts other) ∙ ap (λ k. Some (k + 1)) (kept_is (length (filter (has other) rs)))
        ∙ sym (one_more_time other (own other ∙ t))
    | inr f ↦
        adds other ∙ ap (λ b. cond b (Some (unwrap_or (get_by_text m name) 0 + 1)) (get_by_text m other)) f
        ∙ counts other ∙ sym (same_times other (own other ∙ f))
  ]

-- ---- of each kind

pub element_counted : (old : RemovedCounts) (n : BTreeMap (String Global) ℕ) (name : List ℕ) (r : Removal) → r ≡ an_element name → AddsOne name old.elements n → CountsOne r old (record old { elements = n })
element_counted old n name r is adds = subst (λ (r : Removal). CountsOne r old (record old { elements = n })) (sym is) (λ removals counts. record {
  elements = one_counted is_element removals (an_element name) name old.elements n (λ other. refl) adds counts.elements;
  attributes = others_counted is_attribute removals (an_element name) old.attributes (λ other. refl) counts.attributes;
  addresses = others_counted is_address removals (an_element name) old.addresses (λ other. refl) counts.addresses;
})

pub attribute_counted : (old : RemovedCounts) (n : BTreeMap (String Global) ℕ) (name : List ℕ) (r : Removal) → r ≡ an_attribute name → AddsOne name old.attributes n → CountsOne r old (record old { attributes = n })
attribute_counted old n name r is adds = subst (λ (r : Removal). CountsOne r old (record old { attributes = n })) (sym is) (λ removals counts. record {
  elements = others_counted is_element removals (an_attribute name) old.elements (λ other. refl) counts.elements;
  attributes = one_counted is_attribute removals (an_attribute name) name old.attributes n (λ other. refl) adds counts.attributes;
  addresses = others_counted is_address removals (an_attribute name) old.addresses (λ other. refl) counts.addresses;
})

pub address_counted : (old : RemovedCounts) (n : BTreeMap (String Global) ℕ) (name : List ℕ) (r : Removal) → r ≡ an_address name → AddsOne name old.addresses n → CountsOne r old (record old { addresses = n })
address_counted old n name r is adds = subst (λ (r : Removal). CountsOne r old (record old { addresses = n })) (sym is) (λ removals counts. record {
  elements = others_counted is_element removals (an_address name) old.elements (λ other. refl) counts.elements;
  attributes = others_counted is_attribute removals (an_address name) old.attributes (λ other. refl) counts.attributes;
  addresses = one_counted is_address removals (an_address name) name old.addresses n (λ other. refl) adds counts.addresses;
})

-- ---- of a list

-- nothing was counted yet
none_by : {A : Type 0} (has : List ℕ → Removal → Bool) (m : BTreeMap (String A) ℕ) → m.entries ≡ [] → CountsBy has [] m
none_by has m none name = ap (lookup (λ k. is_eq (slice_cmp nat_cmp name (string_bytes k)))) none

pub none_counted : (counts : RemovedCounts) → counts.elements.entries ≡ [] → counts.attributes.entries ≡ [] → counts.addresses.entries ≡ [] → Counts [] counts
none_counted counts elements attributes addresses = record {
  elements = none_by is_element counts.elements elements;
  attributes = none_by is_attribute counts.attributes attributes;
  addresses = none_by is_address counts.addresses addresses;
}

-- one more of the list was counted
pub more_counted : (removed : List Removed) (at : ℕ) (d one : Removed) (old new : RemovedCounts) → at < length removed → one ≡ get_or removed at d → CountsOne (removal_of one) old new →
    Counts (map removal_of (take at removed)) old → Counts (map removal_of (take (at + 1) removed)) new
more_counted removed at d one old new h is counts before =
    let longer : map removal_of (take (at + 1) removed) ≡ map removal_of (take at removed) ++ removal_of one ∷ [] =
    ap (map removal_of) (take_more removed at d h) ∙ map-append removal_of (take at removed) (get_or removed at d ∷ []) ∙ ap (λ r. map removal_of (take at removed) ++ removal_of r ∷ []) (sym is) in
    subst (λ (l : List Removal). Counts l new) (sym longer) (counts (map removal_of (take at removed)) before)

-- all of them were
pub all_counted : (removed : List Removed) (at : ℕ) (counts : RemovedCounts) → length removed ≤ at → Counts (map removal_of (take at removed)) counts → Counts (map removal_of removed) counts
all_counted removed at counts all = subst (λ l. Counts (map removal_of l) counts) (take_all at removed all)
