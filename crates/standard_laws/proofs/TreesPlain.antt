-- The items of trees are plain markup.
use Rattle.std.specs.Prelude.{◌≡◌, ℕ, Bool, true, false, ◌&&◌, List, [], ◌∷◌, ◌++◌, map, bytes_eq, codes, refl, if◌then◌else◌}
use Rattle.std.proofs.Common.{inl, inr}
use Rattle.std.specs.List.{list_all}
use Rattle.std.specs.Str.{chars, IsUtf8}
use Rattle.std.specs.Cmp.Derive.{both_true}
use Rattle.std.proofs.lemmas.Bool.{cases_Bool}
use Rattle.std.proofs.lemmas.List.Folds.{list_all-append}
use mathlib.Core.Path.{◌∙◌, subst}
use Rattle.dom_nodes.specs.Words.{is_among}
use Rattle.dom_markup.specs.Bytes.{folded}
use Rattle.dom_markup.specs.Markup.{IsTagName}
use Rattle.dom_markup.specs.Names.{Mode, markup, text_of, raw_text_of, mode_in, raw_names, text_names, void_names}
use Rattle.dom_markup.specs.Plain.{ArePlain, IsPlainIn, IsPlainTrees}
use Rattle.dom_markup.specs.ValueTrees.{Attribute, ValueTrees}
use Rattle.dom_markup.specs.ValueTrees.ValueTrees.{no_trees, text_node, comment_node, doctype_node, element_node}
use Rattle.standard_tokens.specs.PlainMarkup.{Piece, Item, CharItem, EndTag, is_letter_name, is_own_char, is_plain_attr, is_plain_item, is_plain_piece, is_raw_char, is_tag_name, is_text_char, is_value_char, lacks_end}
use Rattle.standard_laws.proofs.NameChars.{name_chars, of_each, tag_name_chars}
use Rattle.standard_laws.proofs.Pieces.{plain_all, text_plain_all}
use Rattle.standard_laws.specs.ReadableTrees.{AreKept, AreReadable, EndsByTag, kind_of}
use Rattle.standard_laws.specs.TreeItems.{element_items, items_of, own_text, plain_attr, text_piece}
use Rattle.standard_laws.specs.Values.{WritesValues}
use Rattle.dom_markup.specs.WrittenTrees.{ValueChar}

attrs_plain : (by : ValueChar) (piece : ℕ → Piece) → WritesValues by piece → (attributes : List Attribute) → ArePlain attributes → AreKept attributes →
    list_all is_plain_attr (map (plain_attr piece) attributes) ≡ true
attrs_plain by piece writes [] plain kept = refl
attrs_plain by piece writes (attribute ∷ later) plain kept =
    both_true (both_true (name_chars attribute.name kept.0 plain.0.0 plain.0.1 plain.0.2) (plain_all piece is_value_char writes.plain (chars attribute.value) kept.1)) (attrs_plain by piece writes later plain.3 kept.2)

chars_plain : (pieces : List Piece) → list_all (is_plain_piece is_text_char) pieces ≡ true → list_all is_plain_item (map CharItem pieces) ≡ true
chars_plain [] h = refl
chars_plain (piece ∷ pieces) h = h_of (is_plain_piece is_text_char piece) (list_all (is_plain_piece is_text_char) pieces) h (chars_plain pieces)
  where
    h_of : (a b : Bool) → (a && b) ≡ true → (b ≡ true → list_all is_plain_item (map CharItem pieces) ≡ true) → (a && list_all is_plain_item (map CharItem pieces)) ≡ true
    h_of true b h later = later h
    h_of false b h later = h

both : (front back : List Item) → list_all is_plain_item front ≡ true → list_all is_plain_item back ≡ true → list_all is_plain_item (front ++ back) ≡ true
both front back h k = list_all-append is_plain_item front back ∙ both_true h k

-- ---- elements of their own kinds

abbrev has_letters : List ℕ → Bool
has_letters name = is_letter_name (chars name)

raw_letters : (name : List ℕ) → is_among name raw_names ≡ true → is_letter_name (chars name) ≡ true
unfolding raw_names chars
raw_letters name h = of_each has_letters name raw_names refl h

text_letters : (name : List ℕ) → is_among name text_names ≡ true → is_letter_name (chars name) ≡ true
unfolding text_names chars
text_letters name h = of_each has_letters name text_names refl h

raw_chars : (name text : List ℕ) → list_all is_raw_char text ≡ true → list_all (is_own_char (kind_of name)) text ≡ true
raw_chars name text h = elim (cases_Bool (bytes_eq name (codes "script"))) [ inl script ↦ rw script h | inr no_script ↦ rw no_script h ]

nothing_lacks : (name : List ℕ) → lacks_end (kind_of name) (chars name) [] ≡ true
nothing_lacks name = elim (cases_Bool (bytes_eq name (codes "script"))) [ inl script ↦ rw script refl | inr no_script ↦ rw no_script refl ]

-- what a raw text needs
record IsRawText (name text : List ℕ) : Type 0 where
  pub own : list_all (is_own_char (kind_of name)) text ≡ true
  pub lacks : lacks_end (kind_of name) (chars name) text ≡ true

raw_text : (name : List ℕ) (children : ValueTrees) → IsPlainIn (raw_text_of name) children → EndsByTag (raw_text_of name) children → AreReadable children → IsRawText name (own_text children)
raw_text name no_trees inside ends readable = record { own = refl; lacks = nothing_lacks name }
raw_text name (text_node contents no_trees) inside ends readable = record { own = raw_chars name (chars contents) readable.0; lacks = ends.1 }
raw_text name _ inside ends readable = absurd inside

own_plain : (name : List ℕ) (children : ValueTrees) → IsPlainIn (text_of name) children → AreReadable children → list_all (is_plain_piece is_text_char) (map text_piece (own_text children)) ≡ true
own_plain name no_trees inside readable = refl
own_plain name (text_node contents no_trees) inside readable = text_plain_all (chars contents) readable.0
own_plain name _ inside readable = absurd inside

-- the mode of an element, by what its name is among
abbrev pub mode_by : Bool → Bool → List ℕ → Mode
mode_by raw text name = if raw then raw_text_of name else if text then text_of name else markup

element_plain : (by : ValueChar) (piece : ℕ → Piece) → WritesValues by piece → (name : List ℕ) → IsUtf8 name → IsTagName name → folded name ≡ name →
    (attributes : List Attribute) → ArePlain attributes → AreKept attributes → (children : ValueTrees) → IsPlainIn (mode_in name) children → EndsByTag (mode_in name) children →
    AreReadable children → list_all is_plain_item (items_of piece children) ≡ true →
    list_all is_plain_item (element_items piece (mode_in name) name attributes children (items_of piece children)) ≡ true
element_plain by piece writes name utf8 named low attributes plain kept children inside ends readable inner =
    let attrs : list_all is_plain_attr (map (plain_attr piece) attributes) ≡ true = attrs_plain by piece writes attributes plain kept in
    let tag : is_tag_name (chars name) ≡ true = tag_name_chars name utf8 named low in
    elim (cases_Bool (is_among name raw_names)) [
      | inl raw ↦
          let as_raw : IsPlainIn (raw_text_of name) children = subst (λ b. IsPlainIn (mode_by b (is_among name text_names) name) children) raw inside in
          let as_ends : EndsByTag (raw_text_of name) children = subst (λ b. EndsByTag (mode_by b (is_among name text_names) name) children) raw ends in
          let text : IsRawText name (own_text children) = raw_text name children as_raw as_ends readable in
          rw raw (both_true (both_true (raw_letters name raw) (both_true attrs (both_true text.own text.lacks))) refl)
      | inr no_raw ↦ elim (cases_Bool (is_among name text_names)) [
        | inl text ↦
            let once : IsPlainIn (mode_by false (is_among name text_names) name) children = subst (λ b. IsPlainIn (mode_by b (is_among name text_names) name) children) no_raw inside in
            let as_text : IsPlainIn (text_of name) children = subst (λ b. IsPlainIn (mode_by false b name) children) text once in
            rw (no_raw, text) (both_true (both_true (text_letters name text) (both_true attrs (own_plain name children as_text readable))) refl)
        | inr no_text ↦ rw (no_raw, no_text) (both_true (both_true tag attrs) (elim (cases_Bool (is_among name void_names)) [
          | inl void ↦ rw void refl
          | inr no_void ↦ rw no_void (both (items_of piece children) (EndTag (chars name) ∷ []) inner (both_true tag refl))
        ]))
      ]
    ]

pub trees_plain : (by : ValueChar) (piece : ℕ → Piece) → WritesValues by piece → (top : Bool) (trees : ValueTrees) → IsPlainTrees top trees → AreReadable trees →
    list_all is_plain_item (items_of piece trees) ≡ true
trees_plain by piece writes top no_trees plain readable = refl
trees_plain by piece writes top (text_node contents later) plain readable =
    both (map CharItem (map text_piece (chars contents))) (items_of piece later) (chars_plain (map text_piece (chars contents)) (text_plain_all (chars contents) readable.0)) (trees_plain by piece writes top later plain.3 readable.1)
trees_plain by piece writes top (comment_node contents later) plain readable = both_true readable.1 (trees_plain by piece writes top later plain.1 readable.2)
trees_plain by piece writes top (doctype_node name public system later) plain readable =
    both_true (name_chars name readable.0 plain.1.0 plain.1.1 plain.1.2) (trees_plain by piece writes top later plain.4 readable.1)
trees_plain by piece writes top (element_node name attributes children later) plain readable =
    both (element_items piece (mode_in name) name attributes children (items_of piece children)) (items_of piece later)
    (element_plain by piece writes name readable.0 plain.0 plain.1 attributes plain.2 readable.1 children plain.4 readable.2 readable.3 (trees_plain by piece writes false children plain.5 readable.3))
    (trees_plain by piece writes top later plain.6 readable.4)
