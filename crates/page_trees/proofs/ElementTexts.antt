-- Elements with the same name and the same attributes, in whatever order, have the same text, and so the same number.
use Rattle.std.specs.Prelude.{◌≡◌, ◌&&◌, ◌||◌, ◌++◌, ◌∷◌, [], refl, Bool, false, List, Option, String, map, string_bytes, true, ℕ}
use Rattle.std.proofs.Common.{inl, inr}
use Rattle.std.specs.BTreeSet.{insert_key}
use Rattle.std.specs.List.{concat, list_all, list_any}
use Rattle.std.specs.Option.{option_map_or}
use Rattle.std.specs.Ordering.{match_ordering}
use Rattle.std.specs.Str.{bytes_eq}
use Rattle.std.specs.String.{string_cmp}
use Rattle.std.specs.declared.cmp.Ordering.{Ordering}
use Rattle.std.specs.declared.cmp.Ordering.TheVariants.{Equal, Greater, Less}
use Rattle.std.proofs.lemmas.Bool.{and_parts, or_cases, or_left, or_right}
use Rattle.std.proofs.lemmas.Option.{same_Some}
use Rattle.std.proofs.lemmas.Slice.Eq.{bytes_eq-Decides}
use mathlib.Core.Path.{◌∙◌, sym, ap}
use Rattle.dom_nodes.specs.Elements.{Element}
use Rattle.dom_nodes.specs.Names.{same_name, same_namespace, same_prefix}
use Rattle.dom_nodes.specs.declared.name.Attr.{Attr}
use Rattle.dom_nodes.specs.declared.name.NameParts.{NameParts}
use Rattle.dom_links.specs.Forest.{Forest}
use Rattle.dom_trees.specs.Views.{node_element}
use Rattle.page_trees.specs.Formatting.{are_alike, has_attr, same_attr, same_element}
use Rattle.page_trees.specs.Likeness.{HasNumber, attr_text, element_text, texts_with}
use Rattle.page_trees.specs.NameNumbers.{number_in}
use Rattle.page_trees.proofs.SortedTexts.{AreSorted, has, has_with, order, same_sorted, sorted_with, with_text}

-- a text is that of one of the attributes
abbrev is_text_in : List Attr → List ℕ → Bool
is_text_in attrs text = list_any (λ a. bytes_eq text (attr_text a)) attrs

sorted_texts : (texts : List (List ℕ)) (attrs : List Attr) → AreSorted texts → AreSorted (texts_with texts attrs)
sorted_texts texts [] sorted = sorted
sorted_texts texts (a ∷ attrs) sorted = sorted_texts (with_text texts (attr_text a)) attrs (sorted_with (attr_text a) texts sorted)

or_back : (b : Bool) → b ≡ b || false
or_back true = refl
or_back false = refl

or_moved : (a b c : Bool) → (a || b) || c ≡ b || (a || c)
or_moved true true c = refl
or_moved true false c = refl
or_moved false b c = refl

has_texts : (texts : List (List ℕ)) (attrs : List Attr) (q : List ℕ) → has (texts_with texts attrs) q ≡ has texts q || is_text_in attrs q
has_texts texts [] q = or_back (has texts q)
has_texts texts (a ∷ attrs) q =
    has_texts (with_text texts (attr_text a)) attrs q ∙ ap (λ b. b || is_text_in attrs q) (has_with (attr_text a) texts q)
    ∙ or_moved (bytes_eq q (attr_text a)) (has texts q) (is_text_in attrs q)

-- ---- the texts as they are made

spelt_with : {A : Type 0} → (keys : List (String A)) (key : String A) →
    map string_bytes (insert_key string_cmp keys key) ≡ with_text (map string_bytes keys) (string_bytes key)
spelt_with [] key = refl
spelt_with (k ∷ keys) key = by (order (string_bytes key) (string_bytes k)) (spelt_with keys key)
  where
    by : (r : Ordering) → map string_bytes (insert_key string_cmp keys key) ≡ with_text (map string_bytes keys) (string_bytes key) →
        map string_bytes (match_ordering r (key ∷ k ∷ keys) (k ∷ keys) (k ∷ insert_key string_cmp keys key))
        ≡ match_ordering r (string_bytes key ∷ string_bytes k ∷ map string_bytes keys) (string_bytes k ∷ map string_bytes keys)
        (string_bytes k ∷ with_text (map string_bytes keys) (string_bytes key))
    by Less more = refl
    by Equal more = refl
    by Greater more = ap (λ ks. string_bytes k ∷ ks) more

-- the text of one more attribute is added
pub text_added : {A : Type 0} → (old new : List (String A)) (key : String A) (attr : Attr) (rest others : List Attr) (all : List (List ℕ)) →
    new ≡ insert_key string_cmp old key → string_bytes key ≡ attr_text attr → rest ≡ attr ∷ others → texts_with (map string_bytes old) rest ≡ all →
    texts_with (map string_bytes new) others ≡ all
text_added old new key attr rest others all made spelt first is =
    ap (λ ks. texts_with ks others) (ap (λ ks. map string_bytes ks) made ∙ spelt_with old key ∙ ap (with_text (map string_bytes old)) spelt)
    ∙ ap (texts_with (map string_bytes old)) (sym first) ∙ is

-- ---- the same attributes

same_local : (one other : NameParts) → same_name one other ≡ true → one.local ≡ other.local
same_local one other e =
    let locals = and_parts (same_prefix one.prefix other.prefix && same_namespace one.ns other.ns) (bytes_eq one.local other.local) e in
    (bytes_eq-Decides one.local other.local).0 locals.1

same_texts : (a b : Attr) → same_attr a b ≡ true → attr_text a ≡ attr_text b
same_texts a b e =
    let parts = and_parts (same_name a.name b.name) (bytes_eq a.value b.value) e in
    ap (λ local. 0 ∷ local ++ 0 ∷ a.value) (same_local a.name b.name parts.0)
    ∙ ap (λ value. 0 ∷ b.name.local ++ 0 ∷ value) ((bytes_eq-Decides a.value b.value).0 parts.1)

text_there : (a : Attr) (bs : List Attr) (q : List ℕ) → has_attr bs a ≡ true → bytes_eq q (attr_text a) ≡ true → is_text_in bs q ≡ true
text_there a [] q found at = cc
text_there a (b ∷ bs) q found at = elim (or_cases (same_attr a b) (has_attr bs a) found) [
  | inl here ↦ or_left (bytes_eq q (attr_text b)) (is_text_in bs q) (ap (bytes_eq q) (sym (same_texts a b here)) ∙ at)
  | inr later ↦ or_right (bytes_eq q (attr_text b)) (is_text_in bs q) (text_there a bs q later at)
]

texts_within : (xs bs : List Attr) → list_all (has_attr bs) xs ≡ true → (q : List ℕ) → is_text_in xs q ≡ true → is_text_in bs q ≡ true
texts_within [] bs all q at = cc
texts_within (a ∷ xs) bs all q at =
    let parts = and_parts (has_attr bs a) (list_all (has_attr bs) xs) all in
    elim (or_cases (bytes_eq q (attr_text a)) (is_text_in xs q) at) [
      | inl here ↦ text_there a bs q parts.0 here
      | inr later ↦ texts_within xs bs parts.1 q later
    ]

both_ways : (b c : Bool) → (b ≡ true → c ≡ true) → (c ≡ true → b ≡ true) → b ≡ c
both_ways true true f g = refl
both_ways true false f g = sym (f refl)
both_ways false true f g = g refl
both_ways false false f g = refl

same_element_text : (one other : Element) → same_element one other ≡ true → element_text one ≡ element_text other
same_element_text one other e =
    let parts = and_parts (same_name one.name other.name) (list_all (has_attr other.attrs) one.attrs && list_all (has_attr one.attrs) other.attrs) e in
    let attrs = and_parts (list_all (has_attr other.attrs) one.attrs) (list_all (has_attr one.attrs) other.attrs) parts.1 in
    let texts : texts_with [] one.attrs ≡ texts_with [] other.attrs =
    same_sorted (texts_with [] one.attrs) (texts_with [] other.attrs) (sorted_texts [] one.attrs tt) (sorted_texts [] other.attrs tt) (λ q.
    has_texts [] one.attrs q
    ∙ both_ways (is_text_in one.attrs q) (is_text_in other.attrs q) (texts_within one.attrs other.attrs attrs.0 q) (texts_within other.attrs one.attrs attrs.1 q)
    ∙ sym (has_texts [] other.attrs q)) in
    ap (λ local. local ++ concat (texts_with [] one.attrs)) (same_local one.name other.name parts.0)
    ∙ ap (λ ts. other.name.local ++ concat ts) texts

-- ---- the same number

pub same_number : (forest : Forest) (numbers : List (List ℕ × ℕ)) (one other key number : ℕ) → HasNumber forest numbers one key →
    HasNumber forest numbers other number → are_alike forest one other ≡ true → key ≡ number
same_number forest numbers one other key number a b alike =
    let same : same_element a.element b.element ≡ true =
    sym (ap (λ (o : Option Element). option_map_or (λ x. option_map_or (same_element x) (node_element forest other) false) o false) a.there
    ∙ ap (λ (o : Option Element). option_map_or (same_element a.element) o false) b.there) ∙ alike in
    same_Some key number (sym a.known ∙ ap (number_in numbers) (same_element_text a.element b.element same) ∙ b.known)
