-- What a sound policy names.
use Rattle.std.proofs.Common.{◌≡◌, ℕ, true, ◌&&◌, not, List, [], ◌∷◌, ◌++◌, map, Some, sym, ap, ◌∙◌, inl, inr, ◌⊎◌}
use Rattle.std.specs.Prelude.{codes, nat_eq, nat_le}
use Rattle.std.specs.List.{list_all, list_any, starts_with}
use Rattle.std.specs.Option.{option_map_or}
use Rattle.std.specs.Str.{bytes_eq}
use Rattle.std.proofs.lemmas.Bool.{and_parts, or_cases, or_left, or_right, not-true, true≢false}
use Rattle.std.proofs.lemmas.List.Folds.{list_any-append}
use Rattle.dom_nodes.specs.Words.{is_among}
use Rattle.dom_clean.specs.Fates.{allows_value, has_attribute, is_data_name, is_own}
use Rattle.dom_clean.specs.Joined.{IsMarkupName}
use Rattle.dom_clean.specs.Policy.{OwnAttribute, Policy, are_names_sound, attribute_names, is_class, is_rel, is_simple, is_simple_byte, is_sound, joins_well, keeps_tables, may_have, may_keep, may_lead, refused_attributes}
use Rattle.dom_clean.specs.Spelled.{IsQuietName}
use Rattle.dom_clean.proofs.Names.{among_passes, markup_name, quiet_name}

-- the tests that a sound policy passes
pub record Passes (policy : Policy) : Type 0 where
  pub elements : list_all may_keep policy.elements ≡ true
  pub attributes : list_all may_have (attribute_names policy) ≡ true
  pub rel : option_map_or (is_rel policy) policy.rel true ≡ true
  pub classes : option_map_or (list_all is_class) policy.classes true ≡ true
  pub id_prefix : list_all is_simple_byte policy.id_prefix ≡ true

pub passes : (policy : Policy) → is_sound policy ≡ true → Passes policy
passes policy sound =
    let a = and_parts (are_names_sound policy) _ sound in
    let e = and_parts (list_all may_keep policy.elements) _ a.0 in
    let t = and_parts (keeps_tables policy.elements) (list_all may_have (attribute_names policy)) e.1 in
    let s = and_parts (list_all may_lead policy.schemes) _ a.1 in
    let j = and_parts (joins_well policy.schemes policy.relative) _ s.1 in
    let r = and_parts (option_map_or (is_rel policy) policy.rel true) _ j.1 in
    let c = and_parts (option_map_or (list_all is_class) policy.classes true) _ r.1 in
    let p = and_parts (list_all is_simple_byte policy.id_prefix) (nat_le policy.depth 256) c.1 in
    record { elements = e.0; attributes = t.1; rel = r.0; classes = c.0; id_prefix = p.0 }

kept_name : (policy : Policy) (name : List ℕ) → is_sound policy ≡ true → is_among name policy.elements ≡ true → may_keep name ≡ true
kept_name policy name sound named = among_passes may_keep policy.elements name (passes policy sound).elements named

pub kept_markup : (policy : Policy) (name : List ℕ) → is_sound policy ≡ true → is_among name policy.elements ≡ true → IsMarkupName name
kept_markup policy name sound named = markup_name name (kept_name policy name sound named)

pub kept_quiet : (policy : Policy) (name : List ℕ) → is_sound policy ≡ true → is_among name policy.elements ≡ true → IsQuietName name
kept_quiet policy name sound named = quiet_name name (kept_name policy name sound named)

-- ---- attributes

among_left : (name : List ℕ) (xs ys : List (List ℕ)) → is_among name xs ≡ true → is_among name (xs ++ ys) ≡ true
among_left name xs ys is = list_any-append (λ word. bytes_eq word name) xs ys ∙ or_left (is_among name xs) (is_among name ys) is

among_right : (name : List ℕ) (xs ys : List (List ℕ)) → is_among name ys ≡ true → is_among name (xs ++ ys) ≡ true
among_right name xs ys is = list_any-append (λ word. bytes_eq word name) xs ys ∙ or_right (is_among name xs) (is_among name ys) is

own_named : (element name value : List ℕ) (own : List OwnAttribute) → list_any (is_own element name value) own ≡ true → is_among name (map (λ one. one.attribute) own) ≡ true
own_named element name value [] is = absurd (true≢false (sym is))
own_named element name value (one ∷ own) is = elim (or_cases (is_own element name value one) (list_any (is_own element name value) own) is) [
  | inl here ↦
      (let h = and_parts (bytes_eq one.attribute name) (allows_value value one.values) (and_parts (bytes_eq one.element element) _ here).1 in
      or_left (bytes_eq one.attribute name) (is_among name (map (λ one. one.attribute) own)) h.0)
  | inr later ↦ or_right (bytes_eq one.attribute name) (is_among name (map (λ one. one.attribute) own)) (own_named element name value own later)
]

-- an attribute that stays is named by the policy, or one for scripts
pub has_named : (policy : Policy) (element name value : List ℕ) → has_attribute policy element name value ≡ true → (is_among name (attribute_names policy) ≡ true) ⊎ (is_data_name name ≡ true)
has_named policy element name value has = elim (or_cases (is_among name policy.attributes) _ has) [
  | inl common ↦ inl (among_left name policy.attributes (map (λ one. one.attribute) policy.own_attributes) common)
  | inr other ↦ elim (or_cases (policy.data_attributes && is_data_name name) (list_any (is_own element name value) policy.own_attributes) other) [
    | inl data_name ↦ inr (and_parts policy.data_attributes (is_data_name name) data_name).1
    | inr own ↦ inl (among_right name policy.attributes (map (λ one. one.attribute) policy.own_attributes) (own_named element name value policy.own_attributes own))
  ]
]

data_simple : (name : List ℕ) → is_data_name name ≡ true → is_simple name ≡ true
data_simple [] is = absurd (true≢false (sym is))
data_simple (b ∷ name) is = (and_parts (starts_with nat_eq (b ∷ name) (codes "data-")) (list_all is_simple_byte (b ∷ name)) is).1

pub has_simple : (policy : Policy) (element name value : List ℕ) → is_sound policy ≡ true → has_attribute policy element name value ≡ true → is_simple name ≡ true
has_simple policy element name value sound has = elim (has_named policy element name value has) [
  | inl named ↦ (and_parts (is_simple name) _ (and_parts (is_simple name && not (starts_with nat_eq name (codes "on"))) (not (is_among name refused_attributes)) (among_passes may_have (attribute_names policy) name (passes policy sound).attributes named)).0).0
  | inr data_name ↦ data_simple name data_name
]

-- where links have a `rel` of the policy's, no other stays
pub no_rel : (policy : Policy) (rel element value : List ℕ) → is_sound policy ≡ true → policy.rel ≡ Some rel → has_attribute policy element (codes "rel") value ≡ true → ⊥
no_rel policy rel element value sound is has =
    let test : is_rel policy rel ≡ true = sym (ap (λ o. option_map_or (is_rel policy) o true) is) ∙ (passes policy sound).rel in
    let none = not-true (is_among (codes "rel") (attribute_names policy)) (and_parts _ (not (is_among (codes "rel") (attribute_names policy))) test).1 in
    elim (has_named policy element (codes "rel") value has) [
      | inl named ↦ true≢false (sym named ∙ none)
      | inr data_name ↦ true≢false (sym data_name)
    ]
