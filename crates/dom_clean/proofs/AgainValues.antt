-- The value of an attribute that was cleaned stays as it is when it is cleaned again.
use Rattle.std.proofs.Common.{◌≡◌, ℕ, Bool, true, false, ◌==◌, ◌||◌, not, cond, List, [], ◌∷◌, ◌++◌, filter, Some, None, refl, sym, ap, ◌∙◌, subst, inl, inr, ◌⊎◌}
use Rattle.std.specs.Prelude.{Option, codes, encode_utf8, nat_eq}
use Rattle.std.specs.List.{flat_map, list_all, starts_with}
use Rattle.std.specs.Option.{option_and_then, option_map}
use Rattle.std.specs.Str.{bytes_eq, chars, encode_utf8_all}
use Rattle.std.proofs.Math.Utf8.{scalar, scalars}
use Rattle.std.proofs.lemmas.Bool.{and_from, and_parts, cases_Bool, eq-eqb}
use Rattle.std.proofs.lemmas.Option.{none-some, same_Some}
use Rattle.std.proofs.lemmas.Str.{encodes-chars, scalars-chars}
use Rattle.dom_nodes.specs.Words.{is_among, words_of}
use Rattle.url.specs.Parser.{parse_url}
use Rattle.dom_clean.specs.Addresses.{scheme_of}
use Rattle.dom_clean.specs.Fates.{allowed_address, cleaned_address, cleaned_classes, cleaned_value, is_spelled, joined_address, judged, prefixed, relative_address, spellable, spelled_char, unless_empty, with_words}
use Rattle.dom_clean.specs.Joined.{IsWritable}
use Rattle.dom_clean.specs.Laws.{HasAllowedClasses}
use Rattle.dom_clean.specs.Policy.{Policy, Relative, address_names}
use Rattle.dom_clean.specs.Policy.Relative.{kept, dropped, resolved}
use Rattle.dom_clean.specs.Spelled.{AreSpelled}
use Rattle.dom_clean.proofs.AgainWords.{filter-twice, words-again, words-filter, words-words}

-- ---- texts

spelled_all : (cs : List ℕ) → AreSpelled cs → scalars cs ≡ true → flat_map spelled_char cs ≡ encode_utf8_all cs
spelled_all [] are all = refl
spelled_all (c ∷ cs) are all =
    let h = and_parts (scalar c) (scalars cs) all in
    let other : not (c == 0 || c == 13) ≡ true = rw (are.0.0, are.0.1) refl in
    let is : is_spelled c ≡ true = and_from (not (c == 0 || c == 13)) (scalar c) other h.0 in
    ap (λ b. cond b (encode_utf8 c) [] ++ flat_map spelled_char cs) is ∙ ap (λ (l : List ℕ). encode_utf8 c ++ l) (spelled_all cs are.1 h.1)

-- a text that can be written is written whole
pub spellable_stays : (text : List ℕ) → IsWritable text → spellable text ≡ text
spellable_stays text is = spelled_all (chars text) is.spelled (scalars-chars text is.utf8) ∙ encodes-chars text is.utf8

-- ---- addresses

-- what is chosen by a test
chosen : (b : Bool) (value left : List ℕ) → cond b (Some value) None ≡ Some left → value ≡ left
chosen true value left is = same_Some value left is
chosen false value left is = absurd (none-some left is)

pub judged-cases : (schemes : List (List ℕ)) (address left : List ℕ) (found other : Option (List ℕ)) → judged schemes address found other ≡ Some left → (address ≡ left) ⊎ (other ≡ Some left)
judged-cases schemes address left None other is = inr is
judged-cases schemes address left (Some scheme) other is = inl (chosen (is_among scheme schemes) address left is)

-- what has an allowed scheme doesn't depend on what others become
judged-kept : (schemes : List (List ℕ)) (address left : List ℕ) (found other : Option (List ℕ)) → judged schemes address found None ≡ Some left → judged schemes address found other ≡ Some left
judged-kept schemes address left None other is = absurd (none-some left is)
judged-kept schemes address left (Some scheme) other is = is

same-again : (policy : Policy) (address left : List ℕ) → address ≡ left → cleaned_address policy address ≡ Some left → cleaned_address policy left ≡ Some left
same-again policy address left same is = subst (λ (t : List ℕ). cleaned_address policy t ≡ Some left) same is

allowed-again : (policy : Policy) (address left : List ℕ) → allowed_address policy.schemes address ≡ Some left → cleaned_address policy left ≡ Some left
allowed-again policy address left is = elim (judged-cases policy.schemes address left (scheme_of address) None is) [
  | inl same ↦ same-again policy address left same (judged-kept policy.schemes address left (scheme_of address) (relative_address policy policy.relative address) is)
  | inr none ↦ absurd (none-some left none)
]

resolved-again : (policy : Policy) (found : Option (List ℕ)) (left : List ℕ) → option_and_then (allowed_address policy.schemes) (option_map spellable found) ≡ Some left → cleaned_address policy left ≡ Some left
resolved-again policy None left is = absurd (none-some left is)
resolved-again policy (Some url) left is = allowed-again policy (spellable url) left is

relative-again : (policy : Policy) (relative : Relative) (address left : List ℕ) → (address ≡ left → cleaned_address policy left ≡ Some left) → relative_address policy relative address ≡ Some left → cleaned_address policy left ≡ Some left
relative-again policy kept address left same is = same (same_Some address left is)
relative-again policy dropped address left same is = absurd (none-some left is)
relative-again policy (resolved base) address left same is = resolved-again policy (joined_address (parse_url (Some base) address)) left is

address-again : (policy : Policy) (address left : List ℕ) → cleaned_address policy address ≡ Some left → cleaned_address policy left ≡ Some left
address-again policy address left is =
    let stays = λ (same : address ≡ left). same-again policy address left same is in
    elim (judged-cases policy.schemes address left (scheme_of address) (relative_address policy policy.relative address) is) [
      | inl same ↦ stays same
      | inr other ↦ relative-again policy policy.relative address left stays other
    ]

-- ---- classes and ids

unless_some : (text left : List ℕ) → unless_empty text ≡ Some left → text ≡ left
unless_some [] left is = absurd (none-some left is)
unless_some (b ∷ text) left is = same_Some (b ∷ text) left is

classes-again : (classes : Option (List (List ℕ))) (value left : List ℕ) → cleaned_classes classes value ≡ Some left → cleaned_classes classes left ≡ Some left
classes-again None value left is = refl
classes-again (Some classes) value left is =
    let allowed : List ℕ → Bool = λ word. is_among word classes in
    let words = filter allowed (words_of value) in
    let text = with_words [] words in
    let same : text ≡ left = unless_some text left is in
    let again : filter allowed (words_of left) ≡ words =
    ap (λ (t : List ℕ). filter allowed (words_of t)) (sym same) ∙ ap (filter allowed) (words-again words (words-filter allowed (words_of value) (words-words value))) ∙ filter-twice allowed (words_of value) in
    ap (λ ws. unless_empty (with_words [] ws)) again ∙ is

-- those that pass a test all pass it
all-pass : (p : List ℕ → Bool) (words : List (List ℕ)) → list_all p (filter p words) ≡ true
all-pass p [] = refl
all-pass p (word ∷ words) = elim (cases_Bool (p word)) [
  | inl t ↦ ap (λ b. list_all p (cond b (word ∷ filter p words) (filter p words))) t ∙ and_from (p word) (list_all p (filter p words)) t (all-pass p words)
  | inr f ↦ ap (λ b. list_all p (cond b (word ∷ filter p words) (filter p words))) f ∙ all-pass p words
]

-- the classes of a value that stays as it is are all among those that stay
pub classes-allowed : (classes : Option (List (List ℕ))) (left : List ℕ) → cleaned_classes classes left ≡ Some left → HasAllowedClasses classes left
classes-allowed None left is = tt
classes-allowed (Some classes) left is =
    let allowed : List ℕ → Bool = λ word. is_among word classes in
    let words = filter allowed (words_of left) in
    let same : with_words [] words ≡ left = unless_some (with_words [] words) left is in
    let are : words_of left ≡ words =
    ap words_of (sym same) ∙ words-again words (words-filter allowed (words_of left) (words-words left)) in
    ap (list_all allowed) are ∙ all-pass allowed (words_of left)

front_begins : (front value : List ℕ) → starts_with nat_eq (front ++ value) front ≡ true
front_begins [] value = refl
front_begins (b ∷ front) value = and_from (b == b) (starts_with nat_eq (front ++ value) front) (eq-eqb b b refl) (front_begins front value)

prefix_begins : (front value : List ℕ) → starts_with nat_eq (prefixed front value) front ≡ true
prefix_begins front value = elim (cases_Bool (starts_with nat_eq value front)) [
  | inl t ↦ ap (λ b. starts_with nat_eq (cond b value (front ++ value)) front) t ∙ t
  | inr f ↦ ap (λ b. starts_with nat_eq (cond b value (front ++ value)) front) f ∙ front_begins front value
]

-- an id that stays as it is begins with the prefix
pub id-begins : (policy : Policy) (left : List ℕ) → Some (prefixed policy.id_prefix left) ≡ Some left → starts_with nat_eq left policy.id_prefix ≡ true
id-begins policy left is =
    sym (ap (λ (t : List ℕ). starts_with nat_eq t policy.id_prefix) (same_Some (prefixed policy.id_prefix left) left is)) ∙ prefix_begins policy.id_prefix left

prefixed-again : (front value left : List ℕ) → Some (prefixed front value) ≡ Some left → Some (prefixed front left) ≡ Some left
prefixed-again front value left is =
    let same : prefixed front value ≡ left = same_Some (prefixed front value) left is in
    let begins : starts_with nat_eq left front ≡ true = sym (ap (λ (t : List ℕ). starts_with nat_eq t front) same) ∙ prefix_begins front value in
    ap (λ b. Some (cond b left (front ++ left))) begins

-- ---- any value

pub value-again : (policy : Policy) (name value left : List ℕ) → cleaned_value policy name value ≡ Some left → cleaned_value policy name left ≡ Some left
value-again policy name value left is =
    by_name (is_among name address_names) (bytes_eq name (codes "class")) (bytes_eq name (codes "id")) is
  where
    by_name : (address class id : Bool) →
        cond address (cleaned_address policy value) (cond class (cleaned_classes policy.classes value) (cond id (Some (prefixed policy.id_prefix value)) (Some value))) ≡ Some left →
        cond address (cleaned_address policy left) (cond class (cleaned_classes policy.classes left) (cond id (Some (prefixed policy.id_prefix left)) (Some left))) ≡ Some left
    by_name true class id e = address-again policy value left e
    by_name false true id e = classes-again policy.classes value left e
    by_name false false true e = prefixed-again policy.id_prefix value left e
    by_name false false false e = refl
