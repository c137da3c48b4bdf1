-- Texts of words with one space between any two, and lists of words.
use Rattle.std.proofs.Common.{◌≡◌, ℕ, ◌+◌, ◌<◌, ◌≤◌, List, [], ◌∷◌, ◌++◌, length, Bool, true, false, not, ◌&&◌, ◌||◌, cond, codes, is_some, refl, sym, ap, ◌∙◌, inl, inr, append_assoc, append-nil, arith}
use Rattle.std.proofs.lemmas.Bool.{cases_Bool}
use Rattle.std.proofs.lemmas.List.Elements.{filter-append}
use Rattle.std.proofs.lemmas.List.Folds.{list_any-append}
use Rattle.std.proofs.lemmas.Slice.Eq.{bytes_eq-Decides}
use Rattle.std.specs.Char.{is_ascii_whitespace}
use Rattle.std.specs.List.{AllPass, filter}
use Rattle.std.specs.Str.{NoCharPasses, bytes_eq}
use Rattle.std.specs.Str.Iter.{IsAsciiSeparator}
use Rattle.dom_nodes.specs.declared.name.Attr.{Attr}
use Rattle.dom_nodes.specs.declared.case_sensitivity.CaseSensitivity.{CaseSensitivity}
use Rattle.dom_nodes.specs.Attrs.{attr_of}
use Rattle.dom_nodes.specs.Changes.{with_value}
use Rattle.dom_nodes.specs.Words.{pieces_of, with_byte, has_bytes, words_of, class_words, is_among}
use Rattle.dom_nodes.specs.Classes.{words_joined, with_word, distinct, words_with, words_without, is_among_by, is_blank, same_bytes, without_classes}
use Rattle.dom_nodes.proofs.AttrLemmas.{with_value-none}
use Rattle.dom_nodes.proofs.WordLemmas.{words-cut}

pieces_some : (text : List ℕ) → (piece : List ℕ) × (pieces : List (List ℕ)) × (pieces_of text ≡ piece ∷ pieces)
pieces_some [] = ([], [], refl)
pieces_some (c ∷ text) =
    let more = pieces_some text in
    elim (cases_Bool (is_ascii_whitespace c)) [
      | inl t ↦ ([], pieces_of text, ap (λ b. cond b ([] ∷ pieces_of text) (with_byte c (pieces_of text))) t)
      | inr f ↦ (c ∷ more.0, more.1, ap (λ b. cond b ([] ∷ pieces_of text) (with_byte c (pieces_of text))) f ∙ ap (with_byte c) more.2)
    ]

with_byte-append : (c : ℕ) (pieces more : List (List ℕ)) (piece : List ℕ) (others : List (List ℕ)) → pieces ≡ piece ∷ others →
    with_byte c (pieces ++ more) ≡ with_byte c pieces ++ more
with_byte-append c pieces more piece others e = ap (λ ps. with_byte c (ps ++ more)) e ∙ sym (ap (λ ps. with_byte c ps ++ more) e)

pieces-split : (text : List ℕ) (space : ℕ) (rest : List ℕ) → is_ascii_whitespace space ≡ true →
    pieces_of (text ++ space ∷ rest) ≡ pieces_of text ++ pieces_of rest
pieces-split [] space rest white = ap (λ b. cond b ([] ∷ pieces_of rest) (with_byte space (pieces_of rest))) white
pieces-split (c ∷ text) space rest white =
    let more = pieces-split text space rest white in
    let some = pieces_some text in
    elim (cases_Bool (is_ascii_whitespace c)) [
      | inl t ↦ ap (λ b. cond b ([] ∷ pieces_of (text ++ space ∷ rest)) (with_byte c (pieces_of (text ++ space ∷ rest)))) t
          ∙ ap (λ ps. [] ∷ ps) more
          ∙ sym (ap (λ b. cond b ([] ∷ pieces_of text) (with_byte c (pieces_of text)) ++ pieces_of rest) t)
      | inr f ↦ ap (λ b. cond b ([] ∷ pieces_of (text ++ space ∷ rest)) (with_byte c (pieces_of (text ++ space ∷ rest)))) f
          ∙ ap (with_byte c) more
          ∙ with_byte-append c (pieces_of text) (pieces_of rest) some.0 some.1 some.2
          ∙ sym (ap (λ b. cond b ([] ∷ pieces_of text) (with_byte c (pieces_of text)) ++ pieces_of rest) f)
    ]

-- the words before a space and the words after it
pub words-split : (text : List ℕ) (space : ℕ) (rest : List ℕ) → is_ascii_whitespace space ≡ true →
    words_of (text ++ space ∷ rest) ≡ words_of text ++ words_of rest
words-split text space rest white =
    ap (filter has_bytes) (pieces-split text space rest white) ∙ filter-append has_bytes (pieces_of text) (pieces_of rest)

-- a text that is one word
pub record IsWord (word : List ℕ) : Type 0 where
  pub some : 0 < length word
  pub dark : NoCharPasses is_ascii_whitespace word

-- what an iterator over the words of a text says of a word that it gives, and of the text that is left
abbrev pub CutsWord : List ℕ → List ℕ → List ℕ → Type 0
CutsWord text word rest =
    (0 < length word) × NoCharPasses is_ascii_whitespace word × (length word + length rest ≤ length text)
    × ((gap : List ℕ) × (sep : List ℕ) × (text ≡ gap ++ (word ++ (sep ++ rest))) × AllPass is_ascii_whitespace gap × IsAsciiSeparator sep rest)

pub record IsFirstWord (text word rest : List ℕ) : Type 0 where
  pub is_word : IsWord word
  pub words : words_of text ≡ word ∷ words_of rest

pub first_word : (text word rest : List ℕ) → CutsWord text word rest → IsFirstWord text word rest
first_word text word rest h = record {
  is_word = record { some = h.0; dark = h.1 };
  words = words-cut text h.3.0 word h.3.1 rest h.3.2 h.0 h.1 h.3.3 h.3.4;
}

pub words-one : (word : List ℕ) → IsWord word → words_of word ≡ word ∷ []
words-one word h = words-cut word [] word [] [] (sym (append-nil word)) h.some h.dark (λ k c low. absurd (omega arith)) (λ k c low. absurd (omega arith), omega arith, λ e. refl)

pub words-with_word : (text word : List ℕ) → IsWord word → words_of (with_word text word) ≡ words_of text ++ word ∷ []
words-with_word [] word h = words-one word h
words-with_word (c ∷ text) word h = words-split (c ∷ text) 32 word refl ∙ ap (λ ws. words_of (c ∷ text) ++ ws) (words-one word h)

-- a text that is its words with one space between any two
abbrev pub IsJoined : List ℕ → Type 0
IsJoined text = words_joined (words_of text) ≡ text

joined-push : (first : List ℕ) (words : List (List ℕ)) (word : List ℕ) → words_joined (first ∷ (words ++ word ∷ [])) ≡ words_joined (first ∷ words) ++ 32 ∷ word
joined-push first [] word = refl
joined-push first (second ∷ words) word =
    ap (λ rest. first ++ (32 ∷ rest)) (joined-push second words word) ∙ sym (append_assoc first (32 ∷ words_joined (second ∷ words)) (32 ∷ word))

joined-after : (words : List (List ℕ)) (c : ℕ) (text word : List ℕ) → words_joined words ≡ c ∷ text → words_joined (words ++ word ∷ []) ≡ (c ∷ text) ++ 32 ∷ word
joined-after [] c text word e = cc
joined-after (first ∷ words) c text word e = joined-push first words word ∙ ap (λ joined. joined ++ 32 ∷ word) e

joined-more : (text word : List ℕ) → IsJoined text → words_joined (words_of text ++ word ∷ []) ≡ with_word text word
joined-more [] word h = refl
joined-more (c ∷ text) word h = joined-after (words_of (c ∷ text)) c text word h

pub joined-with_word : (text word : List ℕ) → IsWord word → IsJoined text → IsJoined (with_word text word)
joined-with_word text word h joined = ap words_joined (words-with_word text word h) ∙ joined-more text word joined

filter-both : (p q r : List ℕ → Bool) (words : List (List ℕ)) → ((word : List ℕ) → r word ≡ (q word && p word)) → filter p (filter q words) ≡ filter r words
filter-both p q r [] h = refl
filter-both p q r (word ∷ words) h =
    let more = filter-both p q r words h in
    elim (cases_Bool (q word)) [
      | inl t ↦ ap (λ b. filter p (cond b (word ∷ filter q words) (filter q words))) t
          ∙ ap (λ ws. cond (p word) (word ∷ ws) ws) more
          ∙ sym (ap (λ b. cond b (word ∷ filter r words) (filter r words)) (h word ∙ ap (λ b. b && p word) t))
      | inr f ↦ ap (λ b. filter p (cond b (word ∷ filter q words) (filter q words))) f
          ∙ more
          ∙ sym (ap (λ b. cond b (word ∷ filter r words) (filter r words)) (h word ∙ ap (λ b. b && p word) f))
    ]

pub filter-all : (words : List (List ℕ)) → words_without words [] ≡ words
filter-all [] = refl
filter-all (word ∷ words) = ap (λ ws. word ∷ ws) (filter-all words)

not_among-more : (words : List (List ℕ)) (word other : List ℕ) →
    not (is_among other (words ++ word ∷ [])) ≡ (not (bytes_eq word other) && not (is_among other words))
not_among-more words word other =
    ap not (list_any-append (λ one. bytes_eq one other) words (word ∷ []))
    ∙ elim (bytes_eq word other) as (λ same. not (is_among other words || (same || false)) ≡ (not same && not (is_among other words))) [
      | true ↦ elim (is_among other words) as (λ b. not (b || true) ≡ false) [ true ↦ refl | false ↦ refl ]
      | false ↦ elim (is_among other words) as (λ b. not (b || false) ≡ not b) [ true ↦ refl | false ↦ refl ]
    ]

not_among-same : (words : List (List ℕ)) (word other : List ℕ) → is_among word words ≡ true →
    not (is_among other words) ≡ (not (bytes_eq word other) && not (is_among other words))
not_among-same words word other among =
    elim (cases_Bool (bytes_eq word other)) [
      | inl t ↦ ap (λ text. not (is_among text words)) (sym ((bytes_eq-Decides word other).0 t)) ∙ ap not among
          ∙ sym (ap (λ b. not b && not (is_among other words)) t)
      | inr f ↦ sym (ap (λ b. not b && not (is_among other words)) f)
    ]

pub words_with-known : (words : List (List ℕ)) (word : List ℕ) (added : List (List ℕ)) → is_among word words ≡ true →
    words_with words (word ∷ added) ≡ words_with words added
words_with-known words word added among =
    ap (λ ws. words ++ ws)
    (ap (λ b. cond (not b) (word ∷ words_without (filter (λ other. not (bytes_eq word other)) (distinct added)) words) (words_without (filter (λ other. not (bytes_eq word other)) (distinct added)) words)) among
    ∙ filter-both (λ other. not (is_among other words)) (λ other. not (bytes_eq word other)) (λ other. not (is_among other words)) (distinct added) (λ other. not_among-same words word other among))

pub words_with-new : (words : List (List ℕ)) (word : List ℕ) (added : List (List ℕ)) → is_among word words ≡ false →
    words_with words (word ∷ added) ≡ words_with (words ++ word ∷ []) added
words_with-new words word added among =
    ap (λ ws. words ++ ws)
    (ap (λ b. cond (not b) (word ∷ words_without (filter (λ other. not (bytes_eq word other)) (distinct added)) words) (words_without (filter (λ other. not (bytes_eq word other)) (distinct added)) words)) among
    ∙ ap (λ ws. word ∷ ws) (filter-both (λ other. not (is_among other words)) (λ other. not (bytes_eq word other)) (λ other. not (is_among other (words ++ word ∷ []))) (distinct added) (λ other. not_among-more words word other)))
    ∙ sym (append_assoc words (word ∷ []) (words_without (distinct added) (words ++ word ∷ [])))

pub words_without-gone : (word : List ℕ) (words others : List (List ℕ)) → is_among word others ≡ true →
    words_without (word ∷ words) others ≡ words_without words others
words_without-gone word words others among = ap (λ b. cond (not b) (word ∷ words_without words others) (words_without words others)) among

pub words_without-stays : (word : List ℕ) (words others : List (List ℕ)) → is_among word others ≡ false →
    words_without (word ∷ words) others ≡ word ∷ words_without words others
words_without-stays word words others among = ap (λ b. cond (not b) (word ∷ words_without words others) (words_without words others)) among

pub among_by-here : (case : CaseSensitivity) (name word : List ℕ) (words : List (List ℕ)) → same_bytes case word name ≡ true →
    is_among_by case name (word ∷ words) ≡ true
among_by-here case name word words e = ap (λ b. b || is_among_by case name words) e

pub among_by-later : (case : CaseSensitivity) (name word : List ℕ) (words : List (List ℕ)) → same_bytes case word name ≡ false →
    is_among_by case name (word ∷ words) ≡ is_among_by case name words
among_by-later case name word words e = ap (λ b. b || is_among_by case name words) e

-- no attribute `class`: nothing is taken out
pub without_classes-none : (text : List ℕ) (attrs : List Attr) → is_blank text ≡ false → is_some (attr_of attrs (codes "class")) ≡ false → without_classes text attrs ≡ attrs
without_classes-none text attrs dark none =
    let value = words_joined (words_without (class_words attrs) (words_of text)) in
    ap (λ b. cond b attrs (with_value (codes "class") value attrs)) dark ∙ with_value-none (codes "class") value attrs none
