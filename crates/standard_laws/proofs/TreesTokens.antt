-- The tokens of trees are those of their items.
use Rattle.std.specs.Prelude.{◌≡◌, ℕ, Bool, false, List, [], ◌∷◌, ◌++◌, map, bytes_eq, refl, if◌then◌else◌}
use Rattle.std.proofs.Common.{inl, inr}
use Rattle.std.specs.List.{flat_map, list_any}
use Rattle.std.specs.Str.{chars, encode_utf8_all, IsUtf8}
use Rattle.std.proofs.lemmas.Bool.{cases_Bool, or_from, or_parts, true≢false}
use Rattle.std.proofs.lemmas.Grind.{flat_map-append}
use Rattle.std.proofs.lemmas.List.{append-nil}
use Rattle.std.proofs.lemmas.Slice.Eq.{bytes_eq-Decides}
use mathlib.Core.Path.{◌∙◌, sym, ap, subst}
use Rattle.dom_nodes.specs.Words.{is_among}
use Rattle.dom_markup.specs.Markup.{has_name}
use Rattle.dom_markup.specs.Names.{text_of, raw_text_of, mode_in, raw_names, text_names, void_names}
use Rattle.dom_markup.specs.Plain.{ArePlain, IsPlainIn, IsPlainTrees}
use Rattle.dom_markup.specs.ValueTrees.{Attribute, ValueTrees}
use Rattle.dom_markup.specs.ValueTrees.ValueTrees.{no_trees, text_node, comment_node, doctype_node, element_node}
use Rattle.standard_tokens.specs.Machine.{distinct, distinct_behind}
use Rattle.standard_tokens.specs.PlainMarkup.{Piece, CharItem, EndTag, attr_of, character, start_token, tokens}
use Rattle.standard_tokens.specs.Tokens.{Attr, Token, AChar, AComment, AStart, AnEnd}
use Rattle.standard_laws.proofs.Encodings.{encodes_chars}
use Rattle.standard_laws.proofs.Pieces.{means_all, text_means_all}
use Rattle.standard_laws.proofs.TreesPlain.{mode_by}
use Rattle.standard_laws.proofs.TreesWritten.{raw_is_no_void, text_is_no_void}
use Rattle.standard_laws.specs.ReadableTrees.{AreKept, AreReadable}
use Rattle.standard_laws.specs.TreeItems.{element_items, items_of, own_text, plain_attr, text_piece}
use Rattle.standard_laws.specs.TreeTokens.{attr_token, doctype_of, start_of, tokens_in}
use Rattle.standard_laws.specs.Values.{WritesValues}
use Rattle.dom_markup.specs.WrittenTrees.{ValueChar}

-- ---- attributes

attrs_same : (by : ValueChar) (piece : ℕ → Piece) → WritesValues by piece → (attributes : List Attribute) → map attr_of (map (plain_attr piece) attributes) ≡ map attr_token attributes
attrs_same by piece writes [] = refl
attrs_same by piece writes (attribute ∷ later) =
    ap (λ value. record { name = chars attribute.name; value = value } ∷ map attr_of (map (plain_attr piece) later)) (means_all piece writes.means (chars attribute.value))
    ∙ ap (λ attrs. attr_token attribute ∷ attrs) (attrs_same by piece writes later)

-- names that differ have characters that differ
chars_differ : (x y : List ℕ) → IsUtf8 x → IsUtf8 y → bytes_eq y x ≡ false → bytes_eq (chars x) (chars y) ≡ false
chars_differ x y utf8-x utf8-y h =
    elim (cases_Bool (bytes_eq (chars x) (chars y))) [
      | inl same ↦
          let chars_same : chars x ≡ chars y = (bytes_eq-Decides (chars x) (chars y)).0 same in
          let is : y ≡ x = sym (encodes_chars y utf8-y).same ∙ ap encode_utf8_all (sym chars_same) ∙ (encodes_chars x utf8-x).same in
          absurd (true≢false (sym ((bytes_eq-Decides y x).1 is) ∙ h))
      | inr differ ↦ differ
    ]

-- none of the attributes before has the name of one of these
abbrev Apart : List Attr → List Attribute → Type 0
Apart before [] = Unit {0}
Apart before (attribute ∷ later) = (list_any (λ b. bytes_eq b.name (chars attribute.name)) before ≡ false) × Apart before later

apart_from : (attribute : Attribute) (before : List Attr) (later : List Attribute) → IsUtf8 attribute.name → AreKept later → has_name attribute.name later ≡ false → Apart before later →
    Apart (attr_token attribute ∷ before) later
apart_from attribute before [] utf8 kept h apart = tt
apart_from attribute before (other ∷ later) utf8 kept h apart =
    let parts : (bytes_eq other.name attribute.name ≡ false) × (has_name attribute.name later ≡ false) = or_parts (bytes_eq other.name attribute.name) (has_name attribute.name later) h in (
      or_from (bytes_eq (chars attribute.name) (chars other.name)) (list_any (λ b. bytes_eq b.name (chars other.name)) before) (chars_differ attribute.name other.name utf8 kept.0 parts.0) apart.0,
      apart_from attribute before later utf8 kept.2 parts.1 apart.1,
    )

all_stay : (before : List Attr) (attributes : List Attribute) → ArePlain attributes → AreKept attributes → Apart before attributes → distinct_behind before (map attr_token attributes) ≡ map attr_token attributes
all_stay before [] plain kept apart = refl
all_stay before (attribute ∷ later) plain kept apart =
    rw apart.0 (ap (λ attrs. attr_token attribute ∷ attrs) (all_stay (attr_token attribute ∷ before) later plain.3 kept.2 (apart_from attribute before later kept.0 kept.2 plain.2 apart.1)))

none_before : (attributes : List Attribute) → Apart [] attributes
none_before [] = tt
none_before (attribute ∷ later) = (refl, none_before later)

pub start_same : (by : ValueChar) (piece : ℕ → Piece) → WritesValues by piece → (name : List ℕ) (attributes : List Attribute) → ArePlain attributes → AreKept attributes →
    start_token (chars name) (map (plain_attr piece) attributes) ≡ start_of name attributes
start_same by piece writes name attributes plain kept =
    ap (λ attrs. AStart (chars name) (distinct attrs) false) (attrs_same by piece writes attributes)
    ∙ ap (λ attrs. AStart (chars name) attrs false) (all_stay [] attributes plain kept (none_before attributes))

-- ---- texts

chars_tokens : (cs : List ℕ) → flat_map tokens (map CharItem (map text_piece cs)) ≡ map AChar cs
chars_tokens cs = by_pieces (map text_piece cs) ∙ ap (map AChar) (text_means_all cs)
  where
    by_pieces : (pieces : List Piece) → flat_map tokens (map CharItem pieces) ≡ map AChar (map character pieces)
    by_pieces [] = refl
    by_pieces (piece ∷ pieces) = ap (λ ts. AChar (character piece) ∷ ts) (by_pieces pieces)

raw_tokens : (name : List ℕ) (children : ValueTrees) → IsPlainIn (raw_text_of name) children → map AChar (own_text children) ≡ tokens_in children
raw_tokens name no_trees inside = refl
raw_tokens name (text_node contents no_trees) inside = sym (append-nil (map AChar (chars contents)))
raw_tokens name _ inside = absurd inside

text_tokens : (name : List ℕ) (children : ValueTrees) → IsPlainIn (text_of name) children → map AChar (map character (map text_piece (own_text children))) ≡ tokens_in children
text_tokens name no_trees inside = refl
text_tokens name (text_node contents no_trees) inside = ap (map AChar) (text_means_all (chars contents)) ∙ sym (append-nil (map AChar (chars contents)))
text_tokens name _ inside = absurd inside

-- ---- elements

abbrev element_tokens : List ℕ → List Attribute → ValueTrees → List Token
element_tokens name attributes children = start_of name attributes ∷ (if is_among name void_names then [] else tokens_in children ++ AnEnd (chars name) ∷ [])

element_same : (by : ValueChar) (piece : ℕ → Piece) → WritesValues by piece → (name : List ℕ) (attributes : List Attribute) → ArePlain attributes → AreKept attributes →
    (children : ValueTrees) → IsPlainIn (mode_in name) children → flat_map tokens (items_of piece children) ≡ tokens_in children →
    flat_map tokens (element_items piece (mode_in name) name attributes children (items_of piece children)) ≡ element_tokens name attributes children
element_same by piece writes name attributes plain kept children inside inner =
    let start : start_token (chars name) (map (plain_attr piece) attributes) ≡ start_of name attributes = start_same by piece writes name attributes plain kept in
    let end : List Token = AnEnd (chars name) ∷ [] in
    let began : Token = start_token (chars name) (map (plain_attr piece) attributes) in
    elim (cases_Bool (is_among name raw_names)) [
      | inl raw ↦
          let as_raw : IsPlainIn (raw_text_of name) children = subst (λ b. IsPlainIn (mode_by b (is_among name text_names) name) children) raw inside in
          rw (raw, raw_is_no_void name raw)
          (append-nil (began ∷ (map AChar (own_text children) ++ end)) ∙ ap (λ ts. began ∷ (ts ++ end)) (raw_tokens name children as_raw) ∙ ap (λ t. t ∷ (tokens_in children ++ end)) start)
      | inr no_raw ↦ elim (cases_Bool (is_among name text_names)) [
        | inl text ↦
            let once : IsPlainIn (mode_by false (is_among name text_names) name) children = subst (λ b. IsPlainIn (mode_by b (is_among name text_names) name) children) no_raw inside in
            let as_text : IsPlainIn (text_of name) children = subst (λ b. IsPlainIn (mode_by false b name) children) text once in
            rw (no_raw, text, text_is_no_void name text)
            (append-nil (began ∷ (map AChar (map character (map text_piece (own_text children))) ++ end)) ∙ ap (λ ts. began ∷ (ts ++ end)) (text_tokens name children as_text)
            ∙ ap (λ t. t ∷ (tokens_in children ++ end)) start)
        | inr no_text ↦ rw (no_raw, no_text) (elim (cases_Bool (is_among name void_names)) [
          | inl void ↦ rw void (ap (λ t. t ∷ []) start)
          | inr no_void ↦ rw no_void
              (ap (λ ts. began ∷ ts) (flat_map-append tokens (items_of piece children) (EndTag (chars name) ∷ [])) ∙ ap (λ ts. began ∷ (ts ++ end)) inner ∙ ap (λ t. t ∷ (tokens_in children ++ end)) start)
        ])
      ]
    ]

pub trees_tokens : (by : ValueChar) (piece : ℕ → Piece) → WritesValues by piece → (top : Bool) (trees : ValueTrees) → IsPlainTrees top trees → AreReadable trees →
    flat_map tokens (items_of piece trees) ≡ tokens_in trees
trees_tokens by piece writes top no_trees plain readable = refl
trees_tokens by piece writes top (text_node contents later) plain readable =
    flat_map-append tokens (map CharItem (map text_piece (chars contents))) (items_of piece later)
    ∙ ap (λ ts. ts ++ flat_map tokens (items_of piece later)) (chars_tokens (chars contents)) ∙ ap (λ ts. map AChar (chars contents) ++ ts) (trees_tokens by piece writes top later plain.3 readable.1)
trees_tokens by piece writes top (comment_node contents later) plain readable = ap (λ ts. AComment (chars contents) ∷ ts) (trees_tokens by piece writes top later plain.1 readable.2)
trees_tokens by piece writes top (doctype_node name public system later) plain readable = ap (λ ts. doctype_of name ∷ ts) (trees_tokens by piece writes top later plain.4 readable.1)
trees_tokens by piece writes top (element_node name attributes children later) plain readable =
    flat_map-append tokens (element_items piece (mode_in name) name attributes children (items_of piece children)) (items_of piece later)
    ∙ ap (λ ts. ts ++ flat_map tokens (items_of piece later))
    (element_same by piece writes name attributes plain.2 readable.1 children plain.4 (trees_tokens by piece writes false children plain.5 readable.3))
    ∙ ap (λ ts. element_tokens name attributes children ++ ts) (trees_tokens by piece writes top later plain.6 readable.4)
