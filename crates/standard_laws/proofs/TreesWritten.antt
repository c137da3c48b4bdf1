-- The text of trees is that of their items.
use Rattle.std.specs.Prelude.{◌≡◌, ℕ, Bool, true, false, not, List, [], ◌∷◌, ◌++◌, map, codes, refl, if◌then◌else◌}
use Rattle.std.proofs.Common.{inl, inr}
use Rattle.std.specs.List.{flat_map}
use Rattle.std.specs.Str.{chars, IsUtf8}
use Rattle.std.proofs.lemmas.Bool.{cases_Bool}
use Rattle.std.proofs.lemmas.List.{append-nil, append_assoc}
use Rattle.std.proofs.lemmas.Grind.{flat_map-append}
use lib.Utf8.{encode}
use mathlib.Core.Path.{◌∙◌, sym, ap, subst}
use Rattle.dom_nodes.specs.Words.{is_among}
use Rattle.dom_markup.specs.Escaping.{escaped_text}
use Rattle.dom_markup.specs.Names.{markup, text_of, raw_text_of, mode_in, raw_names, text_names, void_names}
use Rattle.dom_markup.specs.Plain.{ArePlain, IsPlainIn, IsPlainTrees}
use Rattle.dom_markup.specs.ValueTrees.{Attribute, ValueTrees}
use Rattle.dom_markup.specs.ValueTrees.ValueTrees.{no_trees, text_node, comment_node, doctype_node, element_node}
use Rattle.standard_tokens.specs.PlainMarkup.{Piece, Item, CharItem, EndTag, TextElement, RawElement, written, written_attr, written_end, written_piece, written_start}
use Rattle.standard_laws.proofs.Encodings.{Encodes, encodes_both, encodes_chars, nothing}
use Rattle.standard_laws.proofs.NameChars.{of_each}
use Rattle.standard_laws.proofs.Pieces.{text_encodes, value_encodes}
use Rattle.standard_laws.specs.ReadableTrees.{AreKept, AreReadable, kind_of}
use Rattle.standard_laws.specs.TreeItems.{element_items, items_of, own_text, plain_attr, text_piece}
use Rattle.standard_laws.specs.Values.{WritesValues}
use Rattle.dom_markup.specs.Html.{end_tag}
use Rattle.dom_markup.specs.WrittenTrees.{ValueChar, attr_by, start_by, text_by}

-- ---- text that is the same in both

space_is : Encodes (codes " ") (codes " ")
unfolding encode
space_is = record { scalars = refl; same = refl }

equals_is : Encodes (codes "=\"") (codes "=\"")
unfolding encode
equals_is = record { scalars = refl; same = refl }

quote_is : Encodes (codes "\"") (codes "\"")
unfolding encode
quote_is = record { scalars = refl; same = refl }

less_is : Encodes (codes "<") (codes "<")
unfolding encode
less_is = record { scalars = refl; same = refl }

greater_is : Encodes (codes ">") (codes ">")
unfolding encode
greater_is = record { scalars = refl; same = refl }

close_is : Encodes (codes "</") (codes "</")
unfolding encode
close_is = record { scalars = refl; same = refl }

comment_is : Encodes (codes "<!--") (codes "<!--")
unfolding encode
comment_is = record { scalars = refl; same = refl }

comment_end_is : Encodes (codes "-->") (codes "-->")
unfolding encode
comment_end_is = record { scalars = refl; same = refl }

doctype_is : Encodes (codes "<!DOCTYPE ") (codes "<!DOCTYPE ")
unfolding encode
doctype_is = record { scalars = refl; same = refl }

-- ---- tags

attrs_written : (by : ValueChar) (piece : ℕ → Piece) → WritesValues by piece → (attributes : List Attribute) → ArePlain attributes → AreKept attributes →
    Encodes (flat_map written_attr (map (plain_attr piece) attributes)) (flat_map (attr_by by) attributes)
attrs_written by piece writes [] plain kept = nothing
attrs_written by piece writes (attribute ∷ later) plain kept =
    let name : Encodes (chars attribute.name) attribute.name = encodes_chars attribute.name kept.0 in
    let value : Encodes (flat_map written_piece (map piece (chars attribute.value))) (flat_map by (chars attribute.value)) =
    value_encodes by piece writes (chars attribute.value) (encodes_chars attribute.value plain.1).scalars in
    encodes_both (encodes_both space_is (encodes_both name (encodes_both equals_is (encodes_both value quote_is)))) (attrs_written by piece writes later plain.3 kept.2)

start_written : (by : ValueChar) (piece : ℕ → Piece) → WritesValues by piece → (name : List ℕ) → IsUtf8 name → (attributes : List Attribute) → ArePlain attributes → AreKept attributes →
    Encodes (written_start (chars name) (map (plain_attr piece) attributes)) (start_by by name attributes)
start_written by piece writes name utf8 attributes plain kept =
    encodes_both less_is (encodes_both (encodes_chars name utf8) (encodes_both (attrs_written by piece writes attributes plain kept) greater_is))

end_written : (name : List ℕ) → IsUtf8 name → Encodes (written_end (chars name)) (end_tag name)
end_written name utf8 = encodes_both close_is (encodes_both (encodes_chars name utf8) greater_is)

-- ---- texts

chars_written : (pieces : List Piece) → flat_map written (map CharItem pieces) ≡ flat_map written_piece pieces
chars_written [] = refl
chars_written (piece ∷ pieces) = ap (λ text. written_piece piece ++ text) (chars_written pieces)

-- ---- elements

-- an element that is read in a mode of its own is no void one, and its text is raw or not
abbrev is_no_void : List ℕ → Bool
is_no_void name = not (is_among name void_names)

abbrev is_no_raw : List ℕ → Bool
is_no_raw name = not (is_among name raw_names)

no_longer : (b : Bool) → not b ≡ true → b ≡ false
no_longer true h = cc
no_longer false h = refl

pub raw_is_no_void : (name : List ℕ) → is_among name raw_names ≡ true → is_among name void_names ≡ false
unfolding raw_names void_names
raw_is_no_void name h = no_longer (is_among name void_names) (of_each is_no_void name raw_names refl h)

pub text_is_no_void : (name : List ℕ) → is_among name text_names ≡ true → is_among name void_names ≡ false
unfolding text_names void_names
text_is_no_void name h = no_longer (is_among name void_names) (of_each is_no_void name text_names refl h)

-- behind nothing
behind_nothing : {cs bytes : List ℕ} → Encodes cs bytes → Encodes cs (bytes ++ [])
behind_nothing {cs} {bytes} e = subst (λ x. Encodes cs x) (sym (append-nil bytes)) e

raw_written : (by : ValueChar) (name : List ℕ) (children : ValueTrees) → IsPlainIn (raw_text_of name) children → IsPlainTrees false children → Encodes (own_text children) (text_by by true children)
raw_written by name no_trees inside plain = nothing
raw_written by name (text_node contents no_trees) inside plain = behind_nothing (encodes_chars contents plain.1)
raw_written by name _ inside plain = absurd inside

text_written : (by : ValueChar) (name : List ℕ) (children : ValueTrees) → IsPlainIn (text_of name) children → IsPlainTrees false children →
    Encodes (flat_map written_piece (map text_piece (own_text children))) (text_by by false children)
text_written by name no_trees inside plain = nothing
text_written by name (text_node contents no_trees) inside plain = behind_nothing (text_encodes (chars contents) (encodes_chars contents plain.1).scalars)
text_written by name _ inside plain = absurd inside

-- behind its last item
alone : (item : Item) (bytes : List ℕ) → Encodes (written item) bytes → Encodes (flat_map written (item ∷ [])) bytes
alone item bytes e = subst (λ cs. Encodes cs bytes) (sym (append-nil (written item))) e

-- an element, up to its end
abbrev element_text : ValueChar → List ℕ → List Attribute → ValueTrees → List ℕ
element_text by name attributes children =
    start_by by name attributes ++ (if is_among name void_names then [] else text_by by (is_among name raw_names) children ++ end_tag name)

element_written : (by : ValueChar) (piece : ℕ → Piece) → WritesValues by piece → (name : List ℕ) → IsUtf8 name → (attributes : List Attribute) → ArePlain attributes → AreKept attributes →
    (children : ValueTrees) → IsPlainIn (mode_in name) children → IsPlainTrees false children → Encodes (flat_map written (items_of piece children)) (text_by by false children) →
    Encodes (flat_map written (element_items piece (mode_in name) name attributes children (items_of piece children))) (element_text by name attributes children)
element_written by piece writes name utf8 attributes plain kept children inside below inner =
    let start : Encodes (written_start (chars name) (map (plain_attr piece) attributes)) (start_by by name attributes) = start_written by piece writes name utf8 attributes plain kept in
    let end : Encodes (written_end (chars name)) (end_tag name) = end_written name utf8 in
    elim (cases_Bool (is_among name raw_names)) [
      | inl raw ↦
          let as_raw : IsPlainIn (raw_text_of name) children = subst (λ b. IsPlainIn (if b then raw_text_of name else if is_among name text_names then text_of name else markup) children) raw inside in
          rw (raw, raw_is_no_void name raw)
          (alone (RawElement (kind_of name) (chars name) (map (plain_attr piece) attributes) (own_text children)) (start_by by name attributes ++ (text_by by true children ++ end_tag name))
          (encodes_both start (encodes_both (raw_written by name children as_raw below) end)))
      | inr no_raw ↦ elim (cases_Bool (is_among name text_names)) [
        | inl text ↦
            let once : IsPlainIn (if is_among name text_names then text_of name else markup) children =
            subst (λ b. IsPlainIn (if b then raw_text_of name else if is_among name text_names then text_of name else markup) children) no_raw inside in
            let as_text : IsPlainIn (text_of name) children = subst (λ b. IsPlainIn (if b then text_of name else markup) children) text once in
            rw (no_raw, text, text_is_no_void name text)
            (alone (TextElement (chars name) (map (plain_attr piece) attributes) (map text_piece (own_text children))) (start_by by name attributes ++ (text_by by false children ++ end_tag name))
            (encodes_both start (encodes_both (text_written by name children as_text below) end)))
        | inr no_text ↦ rw (no_raw, no_text) (elim (cases_Bool (is_among name void_names)) [
          | inl void ↦ rw void (encodes_both start nothing)
          | inr no_void ↦ rw no_void (encodes_both start
              (subst (λ cs. Encodes cs (text_by by false children ++ end_tag name)) (sym (flat_map-append written (items_of piece children) (EndTag (chars name) ∷ [])))
              (encodes_both inner (alone (EndTag (chars name)) (end_tag name) end))))
        ])
      ]
    ]

pub trees_written : (by : ValueChar) (piece : ℕ → Piece) → WritesValues by piece → (top : Bool) (trees : ValueTrees) → IsPlainTrees top trees → AreReadable trees →
    Encodes (flat_map written (items_of piece trees)) (text_by by false trees)
trees_written by piece writes top no_trees plain readable = nothing
trees_written by piece writes top (text_node contents later) plain readable =
    let pieces : List Piece = map text_piece (chars contents) in
    let text : Encodes (flat_map written_piece pieces) (escaped_text contents) = text_encodes (chars contents) (encodes_chars contents plain.1).scalars in
    let more : Encodes (flat_map written (items_of piece later)) (text_by by false later) = trees_written by piece writes top later plain.3 readable.1 in
    subst (λ cs. Encodes cs (escaped_text contents ++ text_by by false later))
    (sym (flat_map-append written (map CharItem pieces) (items_of piece later) ∙ ap (λ t. t ++ flat_map written (items_of piece later)) (chars_written pieces))) (encodes_both text more)
trees_written by piece writes top (comment_node contents later) plain readable =
    let comment : Encodes (codes "<!--" ++ (chars contents ++ codes "-->")) (codes "<!--" ++ (contents ++ codes "-->")) =
    encodes_both comment_is (encodes_both (encodes_chars contents readable.0) comment_end_is) in
    let more : Encodes (flat_map written (items_of piece later)) (text_by by false later) = trees_written by piece writes top later plain.1 readable.2 in
    subst (λ bytes. Encodes (flat_map written (items_of piece (comment_node contents later))) (codes "<!--" ++ bytes)) (append_assoc contents (codes "-->") (text_by by false later)) (encodes_both comment more)
trees_written by piece writes top (doctype_node name public system later) plain readable =
    let doctype : Encodes (codes "<!DOCTYPE " ++ (chars name ++ codes ">")) (codes "<!DOCTYPE " ++ (name ++ codes ">")) = encodes_both doctype_is (encodes_both (encodes_chars name readable.0) greater_is) in
    let more : Encodes (flat_map written (items_of piece later)) (text_by by false later) = trees_written by piece writes top later plain.4 readable.1 in
    subst (λ bytes. Encodes (flat_map written (items_of piece (doctype_node name public system later))) (codes "<!DOCTYPE " ++ bytes)) (append_assoc name (codes ">") (text_by by false later)) (encodes_both doctype more)
trees_written by piece writes top (element_node name attributes children later) plain readable =
    let inner : Encodes (flat_map written (items_of piece children)) (text_by by false children) = trees_written by piece writes false children plain.5 readable.3 in
    let more : Encodes (flat_map written (items_of piece later)) (text_by by false later) = trees_written by piece writes top later plain.6 readable.4 in
    let element : Encodes (flat_map written (element_items piece (mode_in name) name attributes children (items_of piece children))) (element_text by name attributes children) =
    element_written by piece writes name readable.0 attributes plain.2 readable.1 children plain.4 plain.5 inner in
    let middle : List ℕ = if is_among name void_names then [] else text_by by (is_among name raw_names) children ++ end_tag name in
    subst (λ cs. Encodes cs (text_by by false (element_node name attributes children later)))
    (sym (flat_map-append written (element_items piece (mode_in name) name attributes children (items_of piece children)) (items_of piece later)))
    (subst (λ bytes. Encodes (flat_map written (element_items piece (mode_in name) name attributes children (items_of piece children)) ++ flat_map written (items_of piece later)) bytes)
    (append_assoc (start_by by name attributes) middle (text_by by false later)) (encodes_both element more))
