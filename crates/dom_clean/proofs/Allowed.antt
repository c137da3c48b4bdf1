-- What is left of attributes is allowed, and their addresses lead well.
use Rattle.std.proofs.Common.{◌≡◌, ℕ, true, false, cond, ◌&&◌, not, List, [], ◌∷◌, ◌++◌, Some, None, Ok, Err, refl, sym, ap, ◌∙◌, subst, inl, inr}
use Rattle.std.specs.Prelude.{Option, IfOk, IfSome, MatchOption, codes, nat_eq}
use Rattle.std.specs.List.{list_any, starts_with}
use Rattle.std.specs.Option.{option_and_then, option_map}
use Rattle.std.specs.Str.{bytes_eq}
use Rattle.std.proofs.lemmas.Bool.{cond_both, true≢false}
use Rattle.std.proofs.lemmas.Option.{none-some}
use Rattle.dom_nodes.specs.Elements.{Element}
use Rattle.dom_nodes.specs.Words.{is_among}
use Rattle.dom_nodes.specs.declared.name.Attr.{Attr}
use Rattle.dom_markup.specs.ValueTrees.{Attribute}
use Rattle.url.specs.Parser.{Parsed, parse_url}
use Rattle.url.specs.Parts.{Parts}
use Rattle.dom_clean.specs.Addresses.{HasSchemeOf, scheme_of}
use Rattle.dom_clean.specs.Fates.{allowed_address, attrs_behind, cleaned_address, cleaned_attr, cleaned_attrs, cleaned_classes, cleaned_value, has_attribute, is_named, is_nowhere, joined_address, judged, kept_attr, prefixed, relative_address, spellable, with_name}
use Rattle.dom_clean.specs.Laws.{AreAllowedAttributes, HasAllowedClasses, IsAllowedValue, LeadsWell}
use Rattle.dom_clean.specs.Policy.{Policy, Relative, address_names, link_names}
use Rattle.dom_clean.specs.Policy.Relative.{kept, dropped, resolved}
use Rattle.dom_clean.proofs.AgainValues.{classes-allowed, id-begins, judged-cases, value-again}
use Rattle.dom_clean.proofs.Schemes.{leads}

-- the address leads well, if it is one
abbrev AllWell : Policy → Option (List ℕ) → Type 0
AllWell policy found = IfSome found (LeadsWell policy)

well-ok : (policy : Policy) (base : Option Parts) (found : Option (List ℕ)) (parsed : Parsed Parts) → IfSome found (λ scheme. is_among scheme policy.schemes ≡ true) →
    IfOk parsed (λ url. MatchOption found (HasSchemeOf base url) (λ scheme. url.scheme ≡ scheme)) →
    IfOk parsed (λ url. MatchOption found (HasSchemeOf base url) (λ scheme. is_among url.scheme policy.schemes ≡ true))
well-ok policy base (Some scheme) (Ok url) allowed is = ap (λ s. is_among s policy.schemes) is ∙ allowed
well-ok policy base None (Ok url) allowed is = is
well-ok policy base found (Err e) allowed is = tt

well : (policy : Policy) (address : List ℕ) → IfSome (scheme_of address) (λ scheme. is_among scheme policy.schemes ≡ true) → LeadsWell policy address
well policy address allowed base = well-ok policy base (scheme_of address) (parse_url base address) allowed (leads address base)

-- an address is judged by the scheme that was found
judged-well : (policy : Policy) (address : List ℕ) (found : Option (List ℕ)) (other : Option (List ℕ)) → scheme_of address ≡ found → (found ≡ None → AllWell policy other) → AllWell policy (judged policy.schemes address found other)
judged-well policy address None other is wells = wells refl
judged-well policy address (Some scheme) other is wells =
    cond_both (is_among scheme policy.schemes) (Some address) None (AllWell policy)
    (λ among. well policy address (subst (λ found. IfSome found (λ scheme. is_among scheme policy.schemes ≡ true)) (sym is) among)) (λ _. tt)

joined-well : (policy : Policy) (found : Option (List ℕ)) → AllWell policy (option_and_then (allowed_address policy.schemes) (option_map spellable found))
joined-well policy None = tt
joined-well policy (Some url) = judged-well policy (spellable url) (scheme_of (spellable url)) None refl (λ _. tt)

relative-well : (policy : Policy) (relative : Relative) (address : List ℕ) → scheme_of address ≡ None → AllWell policy (relative_address policy relative address)
relative-well policy kept address none = well policy address (subst (λ found. IfSome found (λ scheme. is_among scheme policy.schemes ≡ true)) (sym none) tt)
relative-well policy dropped address none = tt
relative-well policy (resolved base) address none = joined-well policy (joined_address (parse_url (Some base) address))

address-well : (policy : Policy) (address : List ℕ) → AllWell policy (cleaned_address policy address)
address-well policy address = judged-well policy address (scheme_of address) _ refl (λ none. relative-well policy policy.relative address none)

-- what is left of a value that is an address
value-well : (policy : Policy) (name value : List ℕ) → is_among name address_names ≡ true → AllWell policy (cleaned_value policy name value)
value-well policy name value is = rw is (address-well policy value)

-- an address without a scheme that stays as it is, is one that the policy keeps
no-scheme : (policy : Policy) (found : Option (List ℕ)) (left : List ℕ) → scheme_of left ≡ None → option_and_then (allowed_address policy.schemes) (option_map spellable found) ≡ Some left → ⊥
no-scheme policy None left none is = none-some left is
no-scheme policy (Some url) left none is =
    elim (judged-cases policy.schemes (spellable url) left (scheme_of (spellable url)) None is) [
      | inl same ↦ none-some left (sym (ap (λ found. judged policy.schemes (spellable url) found None) (ap scheme_of same ∙ none)) ∙ is)
      | inr other ↦ none-some left other
    ]

relative-kept : (policy : Policy) (relative : Relative) (left : List ℕ) → scheme_of left ≡ None → relative_address policy relative left ≡ Some left → relative ≡ kept
relative-kept policy kept left none is = refl
relative-kept policy dropped left none is = absurd (none-some left is)
relative-kept policy (resolved base) left none is = absurd (no-scheme policy (joined_address (parse_url (Some base) left)) left none is)

address-kept : (policy : Policy) (left : List ℕ) → scheme_of left ≡ None → cleaned_address policy left ≡ Some left → policy.relative ≡ kept
address-kept policy left none is =
    relative-kept policy policy.relative left none
    (sym (ap (λ found. judged policy.schemes left found (relative_address policy policy.relative left)) none) ∙ is)

-- ---- the value that is left

class-is-none : is_among (codes "class") address_names ≡ false
unfolding address_names
class-is-none = refl

id-is-none : is_among (codes "id") address_names ≡ false
unfolding address_names
id-is-none = refl

module _ (policy : Policy) (name left : List ℕ) (stays : cleaned_value policy name left ≡ Some left) where
  as-address : is_among name address_names ≡ true → cleaned_address policy left ≡ Some left
  as-address is = sym (ap (λ b. cond b (cleaned_address policy left) (cond (bytes_eq name (codes "class")) (cleaned_classes policy.classes left) (cond (bytes_eq name (codes "id")) (Some (prefixed policy.id_prefix left)) (Some left)))) is) ∙ stays

  pub as-classes : name ≡ codes "class" → HasAllowedClasses policy.classes left
  as-classes is =
      classes-allowed policy.classes left
      (sym (ap (λ b. cond b (cleaned_address policy left) (cleaned_classes policy.classes left)) class-is-none) ∙ subst (λ (n : List ℕ). cleaned_value policy n left ≡ Some left) is stays)

  pub as-id : name ≡ codes "id" → starts_with nat_eq left policy.id_prefix ≡ true
  as-id is =
      id-begins policy left
      (sym (ap (λ b. cond b (cleaned_address policy left) (Some (prefixed policy.id_prefix left))) id-is-none) ∙ subst (λ (n : List ℕ). cleaned_value policy n left ≡ Some left) is stays)

  pub value-allowed : (is_among name address_names ≡ true → LeadsWell policy left) → IsAllowedValue policy name left
  value-allowed wells = record { leads = wells; relative = λ is none. address-kept policy left none (as-address is); classes = as-classes; prefix = as-id }

kept-allowed : (policy : Policy) (element name raw : List ℕ) (found : Option (List ℕ)) → cleaned_value policy name raw ≡ found → (is_among name address_names ≡ true → AllWell policy found) → AreAllowedAttributes policy element (kept_attr policy element name found)
kept-allowed policy element name raw None is wells = tt
kept-allowed policy element name raw (Some value) is wells =
    cond_both (has_attribute policy element name value) _ [] (AreAllowedAttributes policy element)
    (λ has. (record { named = inl has; value = value-allowed policy name value (value-again policy name raw value is) wells }, tt)) (λ _. tt)

attr-allowed : (policy : Policy) (element : List ℕ) (before : List Attr) (attr : Attr) → AreAllowedAttributes policy element (cleaned_attr policy element before attr)
attr-allowed policy element before attr =
    cond_both (is_nowhere attr.name.ns && not (list_any (is_named attr.name.local) before)) _ [] (AreAllowedAttributes policy element)
    (λ _. kept-allowed policy element attr.name.local (spellable attr.value) _ refl (value-well policy attr.name.local (spellable attr.value))) (λ _. tt)

both-allowed : (policy : Policy) (element : List ℕ) (ones others : List Attribute) → AreAllowedAttributes policy element ones → AreAllowedAttributes policy element others → AreAllowedAttributes policy element (ones ++ others)
both-allowed policy element [] others p q = q
both-allowed policy element (a ∷ ones) others p q = (p.0, both-allowed policy element ones others p.1 q)

attrs-allowed : (policy : Policy) (element : List ℕ) (before attrs : List Attr) → AreAllowedAttributes policy element (attrs_behind policy element before attrs)
attrs-allowed policy element before [] = tt
attrs-allowed policy element before (attr ∷ attrs) =
    both-allowed policy element (cleaned_attr policy element before attr) _ (attr-allowed policy element before attr) (attrs-allowed policy element (before ++ attr ∷ []) attrs)

rel-is-none : is_among (codes "rel") address_names ≡ false
unfolding address_names
rel-is-none = refl

-- `rel` is none of the names whose values are looked at
rel-value : (policy : Policy) (value : List ℕ) → IsAllowedValue policy (codes "rel") value
rel-value policy value = record {
  leads = λ is. absurd (true≢false (sym is ∙ rel-is-none));
  relative = λ is. absurd (true≢false (sym is ∙ rel-is-none));
  classes = λ is. absurd (true≢false (sym (ap (λ (n : List ℕ). bytes_eq n (codes "class")) is)));
  prefix = λ is. absurd (true≢false (sym (ap (λ (n : List ℕ). bytes_eq n (codes "id")) is)));
}

rel-allowed : (policy : Policy) (element : List ℕ) (rel : Option (List ℕ)) → policy.rel ≡ rel → is_among element link_names ≡ true → AreAllowedAttributes policy element (with_name (codes "rel") rel)
rel-allowed policy element None is link = tt
rel-allowed policy element (Some value) is link = (record { named = inr (link, refl, is); value = rel-value policy value }, tt)

pub all-allowed : (policy : Policy) (e : Element) → AreAllowedAttributes policy e.name.local (cleaned_attrs policy e)
all-allowed policy e = both-allowed policy e.name.local (attrs_behind policy e.name.local [] e.attrs) _ (attrs-allowed policy e.name.local [] e.attrs)
    (cond_both (is_among e.name.local link_names) _ [] (AreAllowedAttributes policy e.name.local) (λ link. rel-allowed policy e.name.local policy.rel refl link) (λ _. tt))
