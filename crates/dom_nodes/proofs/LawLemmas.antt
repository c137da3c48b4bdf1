-- What attributes and classes are after a change.
use Rattle.std.proofs.Common.{◌≡◌, ℕ, List, [], ◌∷◌, ◌++◌, Bool, true, false, not, cond, codes, Option, None, Some, is_some, refl, sym, ap, ◌∙◌, subst, inl, inr}
use Rattle.std.proofs.lemmas.Bool.{cases_Bool, false≢true}
use Rattle.std.proofs.lemmas.Slice.Eq.{bytes_eq-Decides}
use Rattle.std.specs.Char.{is_ascii_whitespace}
use Rattle.std.specs.List.{filter, find}
use Rattle.std.specs.Option.{option_map, option_map_or}
use Rattle.std.specs.Str.{bytes_eq}
use Rattle.dom_nodes.specs.declared.name.Attr.{Attr}
use Rattle.dom_nodes.specs.Attrs.{attr_of}
use Rattle.dom_nodes.specs.Words.{pieces_of, with_byte, has_bytes, words_of, class_words, is_among}
use Rattle.dom_nodes.specs.Changes.{is_attr_named, with_value, with_attr, without_name, plain_attr}
use Rattle.dom_nodes.specs.Classes.{words_joined, distinct, words_with, words_without, is_blank, with_classes, without_classes}
use Rattle.dom_nodes.proofs.AttrLemmas.{with_value-none}
use Rattle.dom_nodes.proofs.ClassLemmas.{words-split}

attr_of-with_value : (name value : List ℕ) (attrs : List Attr) → is_some (attr_of attrs name) ≡ true → attr_of (with_value name value attrs) name ≡ Some value
attr_of-with_value name value [] some = absurd (false≢true some)
attr_of-with_value name value (attr ∷ attrs) some =
    let changed = λ (b : Bool). attr_of (cond b (record attr { value = value } ∷ attrs) (attr ∷ with_value name value attrs)) name in
    elim (cases_Bool (is_attr_named name attr)) [
      | inl t ↦ ap changed t
          ∙ ap (λ b. option_map (λ one. one.value) (cond b (Some (record attr { value = value })) (find (is_attr_named name) attrs))) t
      | inr f ↦ ap changed f
          ∙ ap (λ b. option_map (λ one. one.value) (cond b (Some attr) (find (is_attr_named name) (with_value name value attrs)))) f
          ∙ attr_of-with_value name value attrs (sym (ap (λ b. is_some (option_map (λ one. one.value) (cond b (Some attr) (find (is_attr_named name) attrs)))) f) ∙ some)
    ]

attr_of-added : (name : List ℕ) (attrs : List Attr) (last : Attr) → is_some (attr_of attrs name) ≡ false → attr_of (attrs ++ last ∷ []) name ≡ attr_of (last ∷ []) name
attr_of-added name [] last none = refl
attr_of-added name (attr ∷ attrs) last none =
    elim (cases_Bool (is_attr_named name attr)) [
      | inl t ↦ absurd (false≢true (sym none ∙ ap (λ b. is_some (option_map (λ one. one.value) (cond b (Some attr) (find (is_attr_named name) attrs)))) t))
      | inr f ↦ ap (λ b. option_map (λ one. one.value) (cond b (Some attr) (find (is_attr_named name) (attrs ++ last ∷ [])))) f
          ∙ attr_of-added name attrs last (sym (ap (λ b. is_some (option_map (λ one. one.value) (cond b (Some attr) (find (is_attr_named name) attrs)))) f) ∙ none)
    ]

same_name : (name : List ℕ) → bytes_eq name name ≡ true
same_name name = (bytes_eq-Decides name name).1 refl

pub attr_of-with_attr : (name value : List ℕ) (attrs : List Attr) → attr_of (with_attr name value attrs) name ≡ Some value
attr_of-with_attr name value attrs =
    let changed = λ (b : Bool). attr_of (cond b (with_value name value attrs) (attrs ++ plain_attr name value ∷ [])) name in
    elim (cases_Bool (is_some (attr_of attrs name))) [
      | inl t ↦ ap changed t ∙ attr_of-with_value name value attrs t
      | inr f ↦ ap changed f ∙ attr_of-added name attrs (plain_attr name value) f
          ∙ ap (λ b. option_map (λ one. one.value) (cond b (Some (plain_attr name value)) None)) (same_name name)
    ]

other_name : (name other : List ℕ) (attr : Attr) → bytes_eq name other ≡ false → is_attr_named name attr ≡ true → is_attr_named other attr ≡ false
other_name name other attr apart here = ap (λ text. bytes_eq text other) ((bytes_eq-Decides attr.name.local name).0 here) ∙ apart

attr_of-with_value-other : (name other value : List ℕ) (attrs : List Attr) → bytes_eq name other ≡ false → attr_of (with_value name value attrs) other ≡ attr_of attrs other
attr_of-with_value-other name other value [] apart = refl
attr_of-with_value-other name other value (attr ∷ attrs) apart =
    let changed = λ (b : Bool). attr_of (cond b (record attr { value = value } ∷ attrs) (attr ∷ with_value name value attrs)) other in
    let more = attr_of-with_value-other name other value attrs apart in
    elim (cases_Bool (is_attr_named name attr)) [
      | inl t ↦ ap changed t
          ∙ ap (λ b. option_map (λ one. one.value) (cond b (Some (record attr { value = value })) (find (is_attr_named other) attrs))) (other_name name other attr apart t)
          ∙ sym (ap (λ b. option_map (λ one. one.value) (cond b (Some attr) (find (is_attr_named other) attrs))) (other_name name other attr apart t))
      | inr f ↦ ap changed f ∙ elim (cases_Bool (is_attr_named other attr)) [
        | inl here ↦ ap (λ b. option_map (λ one. one.value) (cond b (Some attr) (find (is_attr_named other) (with_value name value attrs)))) here
            ∙ sym (ap (λ b. option_map (λ one. one.value) (cond b (Some attr) (find (is_attr_named other) attrs))) here)
        | inr gone ↦ ap (λ b. option_map (λ one. one.value) (cond b (Some attr) (find (is_attr_named other) (with_value name value attrs)))) gone
            ∙ more
            ∙ sym (ap (λ b. option_map (λ one. one.value) (cond b (Some attr) (find (is_attr_named other) attrs))) gone)
      ]
    ]

attr_of-added-other : (other : List ℕ) (attrs : List Attr) (last : Attr) → is_attr_named other last ≡ false → attr_of (attrs ++ last ∷ []) other ≡ attr_of attrs other
attr_of-added-other other [] last apart = ap (λ b. option_map (λ one. one.value) (cond b (Some last) None)) apart
attr_of-added-other other (attr ∷ attrs) last apart =
    elim (cases_Bool (is_attr_named other attr)) [
      | inl here ↦ ap (λ b. option_map (λ one. one.value) (cond b (Some attr) (find (is_attr_named other) (attrs ++ last ∷ [])))) here
          ∙ sym (ap (λ b. option_map (λ one. one.value) (cond b (Some attr) (find (is_attr_named other) attrs))) here)
      | inr gone ↦ ap (λ b. option_map (λ one. one.value) (cond b (Some attr) (find (is_attr_named other) (attrs ++ last ∷ [])))) gone
          ∙ attr_of-added-other other attrs last apart
          ∙ sym (ap (λ b. option_map (λ one. one.value) (cond b (Some attr) (find (is_attr_named other) attrs))) gone)
    ]

pub attr_of-with_attr-other : (name other value : List ℕ) (attrs : List Attr) → bytes_eq name other ≡ false → attr_of (with_attr name value attrs) other ≡ attr_of attrs other
attr_of-with_attr-other name other value attrs apart =
    let changed = λ (b : Bool). attr_of (cond b (with_value name value attrs) (attrs ++ plain_attr name value ∷ [])) other in
    elim (cases_Bool (is_some (attr_of attrs name))) [
      | inl t ↦ ap changed t ∙ attr_of-with_value-other name other value attrs apart
      | inr f ↦ ap changed f ∙ attr_of-added-other other attrs (plain_attr name value) apart
    ]

pub attr_of-without_name : (name : List ℕ) (attrs : List Attr) → attr_of (without_name name attrs) name ≡ None
attr_of-without_name name [] = refl
attr_of-without_name name (attr ∷ attrs) =
    let left = λ (b : Bool). attr_of (cond (not b) (attr ∷ without_name name attrs) (without_name name attrs)) name in
    elim (cases_Bool (is_attr_named name attr)) [
      | inl t ↦ ap left t ∙ attr_of-without_name name attrs
      | inr f ↦ ap left f
          ∙ ap (λ b. option_map (λ one. one.value) (cond b (Some attr) (find (is_attr_named name) (without_name name attrs)))) f
          ∙ attr_of-without_name name attrs
    ]

abbrev IsDark : List ℕ → Type 0
IsDark [] = Unit {0}
IsDark (c ∷ text) = (is_ascii_whitespace c ≡ false) × IsDark text

abbrev AllDark : List (List ℕ) → Type 0
AllDark [] = Unit {0}
AllDark (piece ∷ pieces) = IsDark piece × AllDark pieces

abbrev AllWords : List (List ℕ) → Type 0
AllWords [] = Unit {0}
AllWords (word ∷ words) = ((has_bytes word ≡ true) × IsDark word) × AllWords words

with_byte-dark : (c : ℕ) (pieces : List (List ℕ)) → is_ascii_whitespace c ≡ false → AllDark pieces → AllDark (with_byte c pieces)
with_byte-dark c [] dark h = ((dark, tt), tt)
with_byte-dark c (piece ∷ pieces) dark h = ((dark, h.0), h.1)

pieces-dark : (text : List ℕ) → AllDark (pieces_of text)
pieces-dark [] = (tt, tt)
pieces-dark (c ∷ text) =
    let more = pieces-dark text in
    let pick = λ (b : Bool). cond b ([] ∷ pieces_of text) (with_byte c (pieces_of text)) in
    let P : List (List ℕ) → Type 0 = λ pieces. AllDark pieces in
    elim (cases_Bool (is_ascii_whitespace c)) [
      | inl t ↦ subst P (sym (ap pick t)) (tt, more)
      | inr f ↦ subst P (sym (ap pick f)) (with_byte-dark c (pieces_of text) f more)
    ]

pieces-words : (pieces : List (List ℕ)) → AllDark pieces → AllWords (filter has_bytes pieces)
pieces-words [] h = tt
pieces-words ([] ∷ pieces) h = pieces-words pieces h.1
pieces-words ((c ∷ text) ∷ pieces) h = ((refl, h.0), pieces-words pieces h.1)

words-words : (text : List ℕ) → AllWords (words_of text)
words-words text = pieces-words (pieces_of text) (pieces-dark text)

pieces-one : (word : List ℕ) → IsDark word → pieces_of word ≡ word ∷ []
pieces-one [] h = refl
pieces-one (c ∷ word) h = ap (λ b. cond b ([] ∷ pieces_of word) (with_byte c (pieces_of word))) h.0 ∙ ap (with_byte c) (pieces-one word h.1)

words-one : (word : List ℕ) → (has_bytes word ≡ true) × IsDark word → words_of word ≡ word ∷ []
words-one [] h = absurd (false≢true h.0)
words-one (c ∷ word) h = ap (filter has_bytes) (pieces-one (c ∷ word) h.1)

-- words that are joined are the words of the text
words-joined : (words : List (List ℕ)) → AllWords words → words_of (words_joined words) ≡ words
words-joined [] h = refl
words-joined (word ∷ []) h = words-one word h.0
words-joined (word ∷ second ∷ words) h =
    words-split word 32 (words_joined (second ∷ words)) refl
    ∙ ap (λ ws. ws ++ words_of (words_joined (second ∷ words))) (words-one word h.0)
    ∙ ap (λ ws. word ∷ ws) (words-joined (second ∷ words) h.1)

words-filter : (p : List ℕ → Bool) (words : List (List ℕ)) → AllWords words → AllWords (filter p words)
words-filter p [] h = tt
words-filter p (word ∷ words) h =
    let more = words-filter p words h.1 in
    let pick = λ (b : Bool). cond b (word ∷ filter p words) (filter p words) in
    let P : List (List ℕ) → Type 0 = λ ws. AllWords ws in
    elim (cases_Bool (p word)) [
      | inl t ↦ subst P (sym (ap pick t)) (h.0, more)
      | inr f ↦ subst P (sym (ap pick f)) more
    ]

words-distinct : (words : List (List ℕ)) → AllWords words → AllWords (distinct words)
words-distinct [] h = tt
words-distinct (word ∷ words) h = (h.0, words-filter (λ other. not (bytes_eq word other)) (distinct words) (words-distinct words h.1))

words-append : (words others : List (List ℕ)) → AllWords words → AllWords others → AllWords (words ++ others)
words-append [] others h k = k
words-append (word ∷ words) others h k = (h.0, words-append words others h.1 k)

words-value : (value : Option (List ℕ)) → AllWords (option_map_or words_of value [])
words-value None = tt
words-value (Some text) = words-words text

words-class : (attrs : List Attr) → AllWords (class_words attrs)
words-class attrs = words-value (attr_of attrs (codes "class"))

none_of : (value : Option (List ℕ)) → is_some value ≡ false → option_map_or words_of value [] ≡ []
none_of None none = refl
none_of (Some text) none = absurd (false≢true (sym none))

pub class_words-with_classes : (text : List ℕ) (attrs : List Attr) → is_blank text ≡ false → class_words (with_classes text attrs) ≡ words_with (class_words attrs) (words_of text)
class_words-with_classes text attrs dark =
    let words = words_with (class_words attrs) (words_of text) in
    let new = with_attr (codes "class") (words_joined words) attrs in
    ap (λ b. class_words (cond b attrs new)) dark
    ∙ ap (λ value. option_map_or words_of value []) (attr_of-with_attr (codes "class") (words_joined words) attrs)
    ∙ words-joined words (words-append (class_words attrs) _ (words-class attrs) (words-filter (λ word. not (is_among word (class_words attrs))) (distinct (words_of text)) (words-distinct (words_of text) (words-words text))))

pub class_words-without_classes : (text : List ℕ) (attrs : List Attr) → is_blank text ≡ false → class_words (without_classes text attrs) ≡ words_without (class_words attrs) (words_of text)
class_words-without_classes text attrs dark =
    let words = words_without (class_words attrs) (words_of text) in
    let new = with_value (codes "class") (words_joined words) attrs in
    ap (λ b. class_words (cond b attrs new)) dark
    ∙ elim (cases_Bool (is_some (attr_of attrs (codes "class")))) [
      | inl t ↦ ap (λ value. option_map_or words_of value []) (attr_of-with_value (codes "class") (words_joined words) attrs t)
          ∙ words-joined words (words-filter (λ word. not (is_among word (words_of text))) (class_words attrs) (words-class attrs))
      | inr f ↦ ap class_words (with_value-none (codes "class") (words_joined words) attrs f)
          ∙ none_of (attr_of attrs (codes "class")) f
          ∙ sym (ap (λ ws. words_without ws (words_of text)) (none_of (attr_of attrs (codes "class")) f))
    ]
