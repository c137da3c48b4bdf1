-- What is left of attributes can be written.
use Rattle.std.proofs.Common.{◌≡◌, ◌==◌, ◌<◌, ℕ, zero, suc, Bool, true, false, ◌&&◌, ◌||◌, not, List, [], ◌∷◌, ◌++◌, filter, slice_index, Option, Some, None, refl, sym, ap, ◌∙◌, subst, arith, inl, inr, append-nil}
use Rattle.std.specs.Prelude.{codes, IfSome, nat_eq, nat_lt}
use Rattle.std.specs.List.{list_all, list_any, starts_with}
use Rattle.std.specs.Option.{option_and_then, option_map, option_map_or}
use Rattle.std.specs.Str.{bytes_eq}
use Rattle.std.proofs.lemmas.Bool.{and_from, and_parts, cases_Bool, cond_both, eqb-true, lt-ltb, ltb-true, ne_eqb, not-true, or_cases, or_from, or_left, or_parts, or_right, true≢false}
use Rattle.std.proofs.lemmas.List.Folds.{list_all-append, list_any-append}
use Rattle.std.proofs.lemmas.Slice.Eq.{bytes_eq-Decides}
use Rattle.std.proofs.lemmas.Str.{IsUtf8-from_ascii, chars-IsAscii}
use Rattle.dom_nodes.specs.Classes.{with_word}
use Rattle.dom_nodes.specs.Elements.{Element}
use Rattle.dom_nodes.specs.Words.{is_among, words_of}
use Rattle.dom_nodes.specs.declared.name.Attr.{Attr}
use Rattle.dom_markup.specs.Markup.{has_name}
use Rattle.dom_markup.specs.ValueTrees.{Attribute}
use Rattle.url.specs.Parser.{parse_url}
use Rattle.dom_clean.specs.Addresses.{scheme_of}
use Rattle.dom_clean.specs.Fates.{allowed_address, allowed_attr, attrs_behind, cleaned_address, cleaned_attr, cleaned_attrs, cleaned_classes, cleaned_value, has_attribute, is_named, is_nowhere, joined_address, judged, kept_attr, prefixed, relative_address, spellable, unless_empty, with_name}
use Rattle.dom_clean.specs.Fates.{with_words}
use Rattle.dom_clean.specs.Joined.{AreTidyAttributes, IsWritable}
use Rattle.dom_clean.specs.Policy.{Policy, Relative, address_names, attribute_names, is_class, is_class_byte, is_rel, is_simple, is_simple_byte, is_sound, is_word_byte, is_worded, link_names}
use Rattle.dom_clean.specs.Policy.Relative.{kept, dropped, resolved}
use Rattle.dom_clean.specs.Spelled.{AreSpelled}
use Rattle.dom_clean.proofs.Names.{among_passes, simple_name_front, simple_plain}
use Rattle.dom_markup.proofs.plain.WrittenTrees.{bytes_eq-swapped}
use Rattle.dom_clean.proofs.SoundNames.{has_simple, no_rel, passes}
use Rattle.dom_clean.proofs.Spellings.{spellable_spelled, spellable_utf8}
use Rattle.dom_clean.proofs.Writable.{writable_append}

-- ---- texts of ASCII without controls

abbrev is_written_byte : ℕ → Bool
is_written_byte b = nat_lt 31 b && nat_lt b 127

written_low : (b : ℕ) → is_written_byte b ≡ true → b < 128
written_low b is = let low = ltb-true b 127 (and_parts (nat_lt 31 b) (nat_lt b 127) is).1 in omega (arith, low)

all_low : (text : List ℕ) → list_all is_written_byte text ≡ true → (i : ℕ) → slice_index text i < 128
all_low [] all zero = omega arith
all_low [] all (suc i) = omega arith
all_low (b ∷ text) all zero = written_low b (and_parts (is_written_byte b) (list_all is_written_byte text) all).0
all_low (b ∷ text) all (suc i) = all_low text (and_parts (is_written_byte b) (list_all is_written_byte text) all).1 i

all_spelled : (text : List ℕ) → list_all is_written_byte text ≡ true → AreSpelled text
all_spelled [] all = tt
all_spelled (b ∷ text) all =
    let h = and_parts (is_written_byte b) (list_all is_written_byte text) all in
    let above = ltb-true 31 b (and_parts (nat_lt 31 b) (nat_lt b 127) h.0).0 in
    ((ne_eqb b 0 (λ e. absurd (omega (arith, above, e))), ne_eqb b 13 (λ e. absurd (omega (arith, above, e)))), all_spelled text h.1)

pub ascii_writable : (text : List ℕ) → list_all is_written_byte text ≡ true → IsWritable text
ascii_writable text all =
    record { utf8 = IsUtf8-from_ascii text (all_low text all); spelled = subst AreSpelled (sym (chars-IsAscii text (all_low text all))) (all_spelled text all) }

all_stronger : (p q : ℕ → Bool) → ((b : ℕ) → p b ≡ true → q b ≡ true) → (text : List ℕ) → list_all p text ≡ true → list_all q text ≡ true
all_stronger p q each [] all = refl
all_stronger p q each (b ∷ text) all =
    let h = and_parts (p b) (list_all p text) all in
    and_from (q b) (list_all q text) (each b h.0) (all_stronger p q each text h.1)

written_simple : (b : ℕ) → is_simple_byte b ≡ true → is_written_byte b ≡ true
written_simple b is = elim (or_cases (nat_lt 96 b && nat_lt b 123) _ is) [
  | inl letter ↦
      (let h = and_parts (nat_lt 96 b) (nat_lt b 123) letter in
      let low = ltb-true 96 b h.0 in let high = ltb-true b 123 h.1 in
      and_from (nat_lt 31 b) (nat_lt b 127) (lt-ltb 31 b (omega (arith, low))) (lt-ltb b 127 (omega (arith, high))))
  | inr other ↦ elim (or_cases (nat_lt 47 b && nat_lt b 58) _ other) [
    | inl digit ↦
        (let h = and_parts (nat_lt 47 b) (nat_lt b 58) digit in
        let low = ltb-true 47 b h.0 in let high = ltb-true b 58 h.1 in
        and_from (nat_lt 31 b) (nat_lt b 127) (lt-ltb 31 b (omega (arith, low))) (lt-ltb b 127 (omega (arith, high))))
    | inr mark ↦ elim (or_cases (b == 45) (b == 95) mark) [
      | inl is ↦ ap is_written_byte (eqb-true b 45 is)
      | inr is ↦ ap is_written_byte (eqb-true b 95 is)
    ]
  ]
]

written_word : (b : ℕ) → is_word_byte b ≡ true → is_written_byte b ≡ true
written_word b is = elim (or_cases (is_simple_byte b) (b == 32) is) [
  | inl simple ↦ written_simple b simple
  | inr space ↦ ap is_written_byte (eqb-true b 32 space)
]

written_class : (b : ℕ) → is_class_byte b ≡ true → is_written_byte b ≡ true
written_class b is =
    let h = and_parts (nat_lt 32 b) (nat_lt b 127) is in
    let low = ltb-true 32 b h.0 in
    and_from (nat_lt 31 b) (nat_lt b 127) (lt-ltb 31 b (omega (arith, low))) h.1

class_written : (name : List ℕ) → is_class name ≡ true → list_all is_written_byte name ≡ true
class_written [] is = refl
class_written (b ∷ name) is = all_stronger is_class_byte is_written_byte written_class (b ∷ name) is

-- ---- values

abbrev MayWrite : Option (List ℕ) → Type 0
MayWrite found = IfSome found IsWritable

judged_writable : (schemes : List (List ℕ)) (address : List ℕ) (found other : Option (List ℕ)) → IsWritable address → MayWrite other → MayWrite (judged schemes address found other)
judged_writable schemes address None other is may = may
judged_writable schemes address (Some scheme) other is may = cond_both (is_among scheme schemes) (Some address) None MayWrite (λ _. is) (λ _. tt)

pub spellable_writable : (text : List ℕ) → IsWritable (spellable text)
spellable_writable text = record { utf8 = spellable_utf8 text; spelled = spellable_spelled text }

resolved_writable : (schemes : List (List ℕ)) (found : Option (List ℕ)) → MayWrite (option_and_then (allowed_address schemes) (option_map spellable found))
resolved_writable schemes None = tt
resolved_writable schemes (Some url) = judged_writable schemes (spellable url) (scheme_of (spellable url)) None (spellable_writable url) tt

relative_writable : (policy : Policy) (relative : Relative) (address : List ℕ) → IsWritable address → MayWrite (relative_address policy relative address)
relative_writable policy kept address is = is
relative_writable policy dropped address is = tt
relative_writable policy (resolved base) address is = resolved_writable policy.schemes (joined_address (parse_url (Some base) address))

word_written : (text word : List ℕ) → list_all is_written_byte text ≡ true → list_all is_written_byte word ≡ true → list_all is_written_byte (with_word text word) ≡ true
word_written [] word p q = q
word_written (b ∷ text) word p q = list_all-append is_written_byte (b ∷ text) (32 ∷ word) ∙ and_from (list_all is_written_byte (b ∷ text)) (list_all is_written_byte word) p q

words_written : (classes : List (List ℕ)) (text : List ℕ) (words : List (List ℕ)) → list_all is_class classes ≡ true → list_all is_written_byte text ≡ true →
    list_all is_written_byte (with_words text (filter (λ word. is_among word classes) words)) ≡ true
words_written classes text [] all is = is
words_written classes text (word ∷ words) all is = elim (cases_Bool (is_among word classes)) as (λ t. list_all is_written_byte (with_words text (filter (λ word. is_among word classes) (word ∷ words))) ≡ true) [
  | inl t ↦ rw t (words_written classes (with_word text word) words all (word_written text word is (class_written word (among_passes is_class classes word all t))))
  | inr f ↦ rw f (words_written classes text words all is)
]

unless_writable : (text : List ℕ) → IsWritable text → MayWrite (unless_empty text)
unless_writable [] is = tt
unless_writable (b ∷ text) is = is

classes_writable : (classes : Option (List (List ℕ))) (value : List ℕ) → option_map_or (list_all is_class) classes true ≡ true → IsWritable value → MayWrite (cleaned_classes classes value)
classes_writable None value all is = is
classes_writable (Some classes) value all is = unless_writable _ (ascii_writable _ (words_written classes [] (words_of value) all refl))

prefixed_writable : (front value : List ℕ) → list_all is_simple_byte front ≡ true → IsWritable value → IsWritable (prefixed front value)
prefixed_writable front value simple is =
    cond_both (starts_with nat_eq value front) value (front ++ value) IsWritable (λ _. is)
    (λ _. writable_append front value (ascii_writable front (all_stronger is_simple_byte is_written_byte written_simple front simple)) is)

value_writable : (policy : Policy) (name value : List ℕ) → is_sound policy ≡ true → IsWritable value → MayWrite (cleaned_value policy name value)
value_writable policy name value sound is =
    let pass = passes policy sound in
    cond_both (is_among name address_names) (cleaned_address policy value) _ MayWrite
    (λ _. judged_writable policy.schemes value (scheme_of value) _ is (relative_writable policy policy.relative value is))
    (λ _. cond_both (bytes_eq name (codes "class")) (cleaned_classes policy.classes value) _ MayWrite (λ _. classes_writable policy.classes value pass.classes is)
    (λ _. cond_both (bytes_eq name (codes "id")) (Some (prefixed policy.id_prefix value)) (Some value) MayWrite (λ _. prefixed_writable policy.id_prefix value pass.id_prefix is) (λ _. is)))

-- ---- attributes

has_name-append : (name : List ℕ) (xs ys : List Attribute) → has_name name (xs ++ ys) ≡ (has_name name xs || has_name name ys)
has_name-append name xs ys = list_any-append (λ (a : Attribute). bytes_eq a.name name) xs ys

-- what is left of an attribute of another name
kept-other : (policy : Policy) (element name other : List ℕ) (found : Option (List ℕ)) → bytes_eq other name ≡ false → has_name name (kept_attr policy element other found) ≡ false
kept-other policy element name other None differ = refl
kept-other policy element name other (Some value) differ =
    cond_both (has_attribute policy element other value) _ [] (λ (l : List Attribute). has_name name l ≡ false) (λ _. or_from (bytes_eq other name) false differ refl) (λ _. refl)

allowed-other : (policy : Policy) (element name other value : List ℕ) → bytes_eq other name ≡ false → has_name name (allowed_attr policy element other value) ≡ false
allowed-other policy element name other value differ = kept-other policy element name other (cleaned_value policy other value) differ

-- a name that attributes before have doesn't come again
cleaned-again : (policy : Policy) (element name : List ℕ) (before : List Attr) (attr : Attr) → list_any (is_named name) before ≡ true → has_name name (cleaned_attr policy element before attr) ≡ false
cleaned-again policy element name before attr known =
    cond_both (is_nowhere attr.name.ns && not (list_any (is_named attr.name.local) before)) _ [] (λ (l : List Attribute). has_name name l ≡ false)
    (λ first. elim (cases_Bool (bytes_eq attr.name.local name)) [
      | inl same ↦
          (let is : attr.name.local ≡ name = (bytes_eq-Decides attr.name.local name).0 same in
          let fresh = not-true (list_any (is_named attr.name.local) before) (and_parts (is_nowhere attr.name.ns) _ first).1 in
          absurd (true≢false (sym known ∙ ap (λ n. list_any (is_named n) before) (sym is) ∙ fresh)))
      | inr differ ↦ allowed-other policy element name attr.name.local (spellable attr.value) differ
    ])
    (λ _. refl)

behind-again : (policy : Policy) (element name : List ℕ) (before attrs : List Attr) → list_any (is_named name) before ≡ true → has_name name (attrs_behind policy element before attrs) ≡ false
behind-again policy element name before [] known = refl
behind-again policy element name before (attr ∷ attrs) known =
    has_name-append name (cleaned_attr policy element before attr) _
    ∙ or_from (has_name name (cleaned_attr policy element before attr)) _ (cleaned-again policy element name before attr known)
    (behind-again policy element name (before ++ attr ∷ []) attrs (list_any-append (is_named name) before (attr ∷ []) ∙ or_left (list_any (is_named name) before) _ known))

-- a name that the policy hasn't doesn't come
never-kept : (policy : Policy) (element name other : List ℕ) (found : Option (List ℕ)) → other ≡ name → ((value : List ℕ) → has_attribute policy element name value ≡ true → ⊥) → has_name name (kept_attr policy element other found) ≡ false
never-kept policy element name other None is never = refl
never-kept policy element name other (Some value) is never =
    cond_both (has_attribute policy element other value) _ [] (λ (l : List Attribute). has_name name l ≡ false)
    (λ has. absurd (never value (ap (λ n. has_attribute policy element n value) (sym is) ∙ has))) (λ _. refl)

never-cleaned : (policy : Policy) (element name : List ℕ) (before : List Attr) (attr : Attr) → ((value : List ℕ) → has_attribute policy element name value ≡ true → ⊥) → has_name name (cleaned_attr policy element before attr) ≡ false
never-cleaned policy element name before attr never =
    cond_both (is_nowhere attr.name.ns && not (list_any (is_named attr.name.local) before)) _ [] (λ (l : List Attribute). has_name name l ≡ false)
    (λ _. elim (cases_Bool (bytes_eq attr.name.local name)) [
      | inl same ↦
          never-kept policy element name attr.name.local (cleaned_value policy attr.name.local (spellable attr.value)) ((bytes_eq-Decides attr.name.local name).0 same) never
      | inr differ ↦ allowed-other policy element name attr.name.local (spellable attr.value) differ
    ])
    (λ _. refl)

never-behind : (policy : Policy) (element name : List ℕ) (before attrs : List Attr) → ((value : List ℕ) → has_attribute policy element name value ≡ true → ⊥) → has_name name (attrs_behind policy element before attrs) ≡ false
never-behind policy element name before [] never = refl
never-behind policy element name before (attr ∷ attrs) never =
    has_name-append name (cleaned_attr policy element before attr) _
    ∙ or_from (has_name name (cleaned_attr policy element before attr)) _ (never-cleaned policy element name before attr never) (never-behind policy element name (before ++ attr ∷ []) attrs never)

-- an attribute in front of others
kept-tidy : (policy : Policy) (element name : List ℕ) (found : Option (List ℕ)) (later : List Attribute) → is_sound policy ≡ true → MayWrite found → has_name name later ≡ false → AreTidyAttributes later →
    AreTidyAttributes (kept_attr policy element name found ++ later)
kept-tidy policy element name None later sound may new tidy = tidy
kept-tidy policy element name (Some value) later sound may new tidy =
    cond_both (has_attribute policy element name value) _ [] (λ (l : List Attribute). AreTidyAttributes (l ++ later))
    (λ has. let simple = has_simple policy element name value sound has in (simple_plain name simple, simple_name_front name simple, may, new, tidy)) (λ _. tidy)

allowed-tidy : (policy : Policy) (element name value : List ℕ) (later : List Attribute) → is_sound policy ≡ true → IsWritable value → has_name name later ≡ false → AreTidyAttributes later →
    AreTidyAttributes (allowed_attr policy element name value ++ later)
allowed-tidy policy element name value later sound is new tidy = kept-tidy policy element name (cleaned_value policy name value) later sound (value_writable policy name value sound is) new tidy

named-here : (before : List Attr) (attr : Attr) → is_nowhere attr.name.ns ≡ true → list_any (is_named attr.name.local) (before ++ attr ∷ []) ≡ true
named-here before attr nowhere =
    list_any-append (is_named attr.name.local) before (attr ∷ [])
    ∙ or_right (list_any (is_named attr.name.local) before) _ (or_left (is_named attr.name.local attr) false (and_from (is_nowhere attr.name.ns) (bytes_eq attr.name.local attr.name.local) nowhere ((bytes_eq-Decides attr.name.local attr.name.local).1 refl)))

behind-tidy : (policy : Policy) (element : List ℕ) (before attrs : List Attr) → is_sound policy ≡ true → AreTidyAttributes (attrs_behind policy element before attrs)
behind-tidy policy element before [] sound = tt
behind-tidy policy element before (attr ∷ attrs) sound =
    let later = attrs_behind policy element (before ++ attr ∷ []) attrs in
    let tidy = behind-tidy policy element (before ++ attr ∷ []) attrs sound in
    cond_both (is_nowhere attr.name.ns && not (list_any (is_named attr.name.local) before)) _ [] (λ (l : List Attribute). AreTidyAttributes (l ++ later))
    (λ first. allowed-tidy policy element attr.name.local (spellable attr.value) later sound (spellable_writable attr.value)
    (behind-again policy element attr.name.local (before ++ attr ∷ []) attrs (named-here before attr (and_parts (is_nowhere attr.name.ns) _ first).0)) tidy)
    (λ _. tidy)

-- one more at the end
tidy-more : (attributes : List Attribute) (name value : List ℕ) → is_simple name ≡ true → IsWritable value → has_name name attributes ≡ false → AreTidyAttributes attributes → AreTidyAttributes (attributes ++ record { name = name; value = value } ∷ [])
tidy-more [] name value simple is none tidy = (simple_plain name simple, simple_name_front name simple, is, refl, tt)
tidy-more (a ∷ attributes) name value simple is none tidy =
    let h = or_parts (bytes_eq a.name name) (has_name name attributes) none in (
      tidy.0,
      tidy.1,
      tidy.2,
      has_name-append a.name attributes (record { name = name; value = value } ∷ []) ∙ or_from (has_name a.name attributes) _ tidy.3 (or_from (bytes_eq name a.name) false (bytes_eq-swapped name a.name ∙ h.0) refl),
      tidy-more attributes name value simple is h.1 tidy.4,
    )

rel-tidy : (policy : Policy) (element : List ℕ) (attrs : List Attr) (rel : Option (List ℕ)) → is_sound policy ≡ true → policy.rel ≡ rel → AreTidyAttributes (attrs_behind policy element [] attrs ++ with_name (codes "rel") rel)
rel-tidy policy element attrs None sound is = subst AreTidyAttributes (sym (append-nil (attrs_behind policy element [] attrs))) (behind-tidy policy element [] attrs sound)
rel-tidy policy element attrs (Some rel) sound is =
    let test : is_rel policy rel ≡ true = sym (ap (λ o. option_map_or (is_rel policy) o true) is) ∙ (passes policy sound).rel in
    let worded = (and_parts (is_worded rel) (not (is_among (codes "rel") (attribute_names policy))) test).0 in
    tidy-more (attrs_behind policy element [] attrs) (codes "rel") rel refl (ascii_writable rel (all_stronger is_word_byte is_written_byte written_word rel worded))
    (never-behind policy element (codes "rel") [] attrs (λ value has. no_rel policy rel element value sound is has)) (behind-tidy policy element [] attrs sound)

pub attrs_tidy : (policy : Policy) (e : Element) → is_sound policy ≡ true → AreTidyAttributes (cleaned_attrs policy e)
attrs_tidy policy e sound =
    cond_both (is_among e.name.local link_names) (with_name (codes "rel") policy.rel) [] (λ (l : List Attribute). AreTidyAttributes (attrs_behind policy e.name.local [] e.attrs ++ l))
    (λ _. rel-tidy policy e.name.local e.attrs policy.rel sound refl)
    (λ _. subst AreTidyAttributes (sym (append-nil (attrs_behind policy e.name.local [] e.attrs))) (behind-tidy policy e.name.local [] e.attrs sound))
