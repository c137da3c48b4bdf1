-- Tree construction that leaves every element in the HTML namespace answers as plain trees need it.
use Rattle.std.specs.Prelude.{◌≡◌, ℕ, true, false, List, [], ◌∷◌, ◌++◌, map, None, Some, bytes_eq, codes, refl}
use Rattle.std.proofs.Common.{inl, inr}
use Rattle.std.specs.List.{flat_map}
use Rattle.std.specs.Str.{chars, encode_utf8_all, IsUtf8}
use Rattle.std.proofs.lemmas.Bool.{cases_Bool, or_cases, or_parts, true≢false}
use Rattle.std.proofs.lemmas.List.{append-nil, append_assoc}
use Rattle.std.proofs.lemmas.Slice.Eq.{bytes_eq-Decides}
use lib.Utf8.{encode}
use mathlib.Core.Path.{◌∙◌, sym, ap, subst}
use Rattle.dom_nodes.specs.Words.{is_among}
use Rattle.dom_markup.specs.Names.{raw_text_of, mode_in, raw_names, text_names, void_names}
use Rattle.dom_markup.specs.ValueTrees.{Attribute, ValueTrees}
use Rattle.dom_markup.specs.ValueTrees.ValueTrees.{no_trees, text_node, comment_node, doctype_node, element_node}
use Rattle.standard_tokens.specs.PlainMarkup.{AreAnswered, character, Piece, Item, CharItem, EndTag, start_token, state_of, tokens}
use Rattle.standard_tokens.specs.Reading.{Feedback, IsFeedback, switch_at}
use Rattle.standard_tokens.specs.States.{RCDATA}
use Rattle.standard_tokens.specs.Tokens.{Token, AChar, AComment, ADoctype, AStart, AnEnd, AnEof}
use Rattle.standard_agreement.proofs.Telling.{no_state}
use Rattle.standard_laws.proofs.Encodings.{encodes_chars}
use Rattle.standard_laws.proofs.TreesPlain.{mode_by}
use Rattle.standard_laws.specs.TokenLaws.{FollowsHtml, HtmlAnswers}
use Rattle.standard_laws.specs.ReadableTrees.{AreReadable, EndsByTag, kind_of}
use Rattle.standard_laws.specs.TreeTokens.{doctype_of}
use Rattle.standard_laws.specs.TreeItems.{element_items, items_of, plain_attr, text_piece}

-- ---- names

-- a word in ASCII is no text's characters where it is not the text
in_chars : (word name : List ℕ) → encode_utf8_all word ≡ word → IsUtf8 name → bytes_eq word name ≡ false → bytes_eq word (chars name) ≡ false
in_chars word name ascii utf8 h =
    elim (cases_Bool (bytes_eq word (chars name))) [
      | inl same ↦
          let is : word ≡ name = sym ascii ∙ ap encode_utf8_all ((bytes_eq-Decides word (chars name)).0 same) ∙ (encodes_chars name utf8).same in
          absurd (true≢false (sym ((bytes_eq-Decides word name).1 is) ∙ h))
      | inr differ ↦ differ
    ]

-- a name in bytes that is none of those
plain_name : (name : List ℕ) → IsUtf8 name → is_among name raw_names ≡ false → is_among name text_names ≡ false → switch_at (chars name) ≡ None
unfolding raw_names text_names encode
plain_name name utf8 no_raw no_text =
    let style = or_parts (bytes_eq (codes "style") name) _ no_raw in
    let script = or_parts (bytes_eq (codes "script") name) _ style.1 in
    let xmp = or_parts (bytes_eq (codes "xmp") name) _ script.1 in
    let iframe = or_parts (bytes_eq (codes "iframe") name) _ xmp.1 in
    let noembed = or_parts (bytes_eq (codes "noembed") name) _ iframe.1 in
    let noframes = or_parts (bytes_eq (codes "noframes") name) _ noembed.1 in
    let plaintext = or_parts (bytes_eq (codes "plaintext") name) _ noframes.1 in
    let title = or_parts (bytes_eq (codes "title") name) _ no_text in
    let textarea = or_parts (bytes_eq (codes "textarea") name) _ title.1 in
    rw (
      in_chars (codes "title") name refl utf8 title.0,
      in_chars (codes "textarea") name refl utf8 textarea.0,
      in_chars (codes "style") name refl utf8 style.0,
      in_chars (codes "xmp") name refl utf8 xmp.0,
      in_chars (codes "iframe") name refl utf8 iframe.0,
      in_chars (codes "noembed") name refl utf8 noembed.0,
      in_chars (codes "noframes") name refl utf8 noframes.0,
      in_chars (codes "script") name refl utf8 script.0,
      in_chars (codes "plaintext") name refl utf8 plaintext.0,
    ) refl

-- it is so of each name
abbrev All : (List ℕ → Type 0) → List (List ℕ) → Type 0
All P [] = Unit {0}
All P (name ∷ names) = P name × All P names

of_all : (P : List ℕ → Type 0) (name : List ℕ) (names : List (List ℕ)) → All P names → is_among name names ≡ true → P name
of_all P name [] all among = cc
of_all P name (one ∷ names) all among =
    elim (or_cases (bytes_eq one name) (is_among name names) among) [
      | inl same ↦ subst P ((bytes_eq-Decides one name).0 same) all.0
      | inr later ↦ of_all P name names all.1 later
    ]

raw_state : (name : List ℕ) → is_among name raw_names ≡ true → bytes_eq name (codes "plaintext") ≡ false → switch_at (chars name) ≡ Some (state_of (kind_of name))
unfolding raw_names chars
raw_state name h =
    of_all (λ n. bytes_eq n (codes "plaintext") ≡ false → switch_at (chars n) ≡ Some (state_of (kind_of n))) name raw_names
    (λ k. refl, (λ k. refl, (λ k. refl, (λ k. refl, (λ k. refl, (λ k. refl, (λ k. absurd (true≢false k), tt))))))) h

text_state : (name : List ℕ) → is_among name text_names ≡ true → switch_at (chars name) ≡ Some RCDATA
unfolding text_names chars
text_state name h = of_all (λ n. switch_at (chars n) ≡ Some RCDATA) name text_names (refl, (refl, tt)) h

-- ---- answers

-- it switches behind start tags of those names alone
honest : (f : Feedback) → FollowsHtml f → IsFeedback f
honest f follows seen (AStart name attrs self_closing) h = follows seen (AStart name attrs self_closing) ∙ no_state name h
honest f follows seen (AnEnd name) h = follows seen (AnEnd name)
honest f follows seen (AChar c) h = follows seen (AChar c)
honest f follows seen (AComment text) h = follows seen (AComment text)
honest f follows seen (ADoctype doctype) h = follows seen (ADoctype doctype)
honest f follows seen AnEof h = follows seen AnEof

both : (f : Feedback) (seen : List Token) (front back : List Item) → AreAnswered f seen front → AreAnswered f (seen ++ flat_map tokens front) back → AreAnswered f seen (front ++ back)
both f seen [] back h k = subst (λ ts. AreAnswered f ts back) (append-nil seen) k
both f seen (item ∷ front) back h k =
    (h.0, both f (seen ++ tokens item) front back h.1 (subst (λ ts. AreAnswered f ts back) (sym (append_assoc seen (tokens item) (flat_map tokens front))) k))

chars_answered : (f : Feedback) (seen : List Token) (pieces : List Piece) → AreAnswered f seen (map CharItem pieces)
chars_answered f seen [] = tt
chars_answered f seen (piece ∷ pieces) = (tt, chars_answered f (seen ++ AChar (character piece) ∷ []) pieces)

no_plaintext : (name : List ℕ) (children : ValueTrees) → EndsByTag (raw_text_of name) children → bytes_eq name (codes "plaintext") ≡ false
no_plaintext name (text_node contents no_trees) ends = ends.0
no_plaintext name _ ends = ends

element_answered : (f : Feedback) → FollowsHtml f → (piece : ℕ → Piece) (name : List ℕ) → IsUtf8 name → (attributes : List Attribute) (children : ValueTrees) → EndsByTag (mode_in name) children →
    (seen : List Token) → ((more : List Token) → AreAnswered f more (items_of piece children)) →
    AreAnswered f seen (element_items piece (mode_in name) name attributes children (items_of piece children))
element_answered f follows piece name utf8 attributes children ends seen inner =
    let start : Token = start_token (chars name) (map (plain_attr piece) attributes) in
    let said : f.switch (seen ++ start ∷ []) ≡ switch_at (chars name) = follows seen start in
    elim (cases_Bool (is_among name raw_names)) [
      | inl raw ↦
          let as_ends : EndsByTag (raw_text_of name) children = subst (λ b. EndsByTag (mode_by b (is_among name text_names) name) children) raw ends in
          rw raw (said ∙ raw_state name raw (no_plaintext name children as_ends), tt)
      | inr no_raw ↦ elim (cases_Bool (is_among name text_names)) [
        | inl text ↦ rw (no_raw, text) (said ∙ text_state name text, tt)
        | inr no_text ↦ rw (no_raw, no_text) (
          said ∙ plain_name name utf8 no_raw no_text,
          elim (cases_Bool (is_among name void_names)) [
            | inl void ↦ rw void tt
            | inr no_void ↦ rw no_void (both f (seen ++ start ∷ []) (items_of piece children) (EndTag (chars name) ∷ []) (inner (seen ++ start ∷ [])) (tt, tt))
          ],
        )
      ]
    ]

trees_answered : (f : Feedback) → FollowsHtml f → (piece : ℕ → Piece) (trees : ValueTrees) → AreReadable trees → (seen : List Token) → AreAnswered f seen (items_of piece trees)
trees_answered f follows piece no_trees readable seen = tt
trees_answered f follows piece (text_node contents later) readable seen =
    let pieces : List Piece = map text_piece (chars contents) in
    both f seen (map CharItem pieces) (items_of piece later) (chars_answered f seen pieces) (trees_answered f follows piece later readable.1 (seen ++ flat_map tokens (map CharItem pieces)))
trees_answered f follows piece (comment_node contents later) readable seen = (tt, trees_answered f follows piece later readable.2 (seen ++ AComment (chars contents) ∷ []))
trees_answered f follows piece (doctype_node name public system later) readable seen = (tt, trees_answered f follows piece later readable.1 (seen ++ doctype_of name ∷ []))
trees_answered f follows piece (element_node name attributes children later) readable seen =
    let items : List Item = element_items piece (mode_in name) name attributes children (items_of piece children) in
    both f seen items (items_of piece later)
    (element_answered f follows piece name readable.0 attributes children readable.2 seen (λ more. trees_answered f follows piece children readable.3 more))
    (trees_answered f follows piece later readable.4 (seen ++ flat_map tokens items))

pub html_answers : HtmlAnswers
html_answers f follows piece trees readable seen = (honest f follows, trees_answered f follows piece trees readable seen)
