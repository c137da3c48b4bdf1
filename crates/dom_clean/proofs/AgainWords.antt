-- The words of a list of classes that was cleaned are those that stayed.
use Rattle.std.proofs.Common.{◌≡◌, ℕ, Bool, true, false, cond, List, [], ◌∷◌, ◌++◌, filter, refl, sym, ap, ◌∙◌, subst, inl, inr, append-nil, append_assoc}
use Rattle.std.specs.Char.{is_ascii_whitespace}
use Rattle.std.proofs.lemmas.Bool.{cases_Bool, true≢false}
use Rattle.dom_nodes.specs.Classes.{with_word}
use Rattle.dom_nodes.specs.Words.{has_bytes, pieces_of, with_byte, words_of}
use Rattle.dom_nodes.proofs.ClassLemmas.{words-split}
use Rattle.dom_clean.specs.Fates.{with_words}

abbrev IsDark : List ℕ → Type 0
IsDark [] = Unit {0}
IsDark (c ∷ text) = (is_ascii_whitespace c ≡ false) × IsDark text

abbrev AllDark : List (List ℕ) → Type 0
AllDark [] = Unit {0}
AllDark (piece ∷ pieces) = IsDark piece × AllDark pieces

-- words without whitespace, none of them empty
abbrev pub AllWords : List (List ℕ) → Type 0
AllWords [] = Unit {0}
AllWords (word ∷ words) = ((has_bytes word ≡ true) × IsDark word) × AllWords words

with_byte-dark : (c : ℕ) (pieces : List (List ℕ)) → is_ascii_whitespace c ≡ false → AllDark pieces → AllDark (with_byte c pieces)
with_byte-dark c [] dark all = ((dark, tt), tt)
with_byte-dark c (piece ∷ pieces) dark all = ((dark, all.0), all.1)

pieces-dark : (text : List ℕ) → AllDark (pieces_of text)
pieces-dark [] = (tt, tt)
pieces-dark (c ∷ text) =
    let more = pieces-dark text in
    let pick = λ (b : Bool). cond b ([] ∷ pieces_of text) (with_byte c (pieces_of text)) in
    let all : List (List ℕ) → Type 0 = λ pieces. AllDark pieces in
    elim (cases_Bool (is_ascii_whitespace c)) [
      | inl t ↦ subst all (sym (ap pick t)) (tt, more)
      | inr f ↦ subst all (sym (ap pick f)) (with_byte-dark c (pieces_of text) f more)
    ]

pieces-words : (pieces : List (List ℕ)) → AllDark pieces → AllWords (filter has_bytes pieces)
pieces-words [] all = tt
pieces-words ([] ∷ pieces) all = pieces-words pieces all.1
pieces-words ((c ∷ text) ∷ pieces) all = ((refl, all.0), pieces-words pieces all.1)

pub words-words : (text : List ℕ) → AllWords (words_of text)
words-words text = pieces-words (pieces_of text) (pieces-dark text)

pub words-filter : (p : List ℕ → Bool) (words : List (List ℕ)) → AllWords words → AllWords (filter p words)
words-filter p [] all = tt
words-filter p (word ∷ words) all =
    let more = words-filter p words all.1 in
    let pick = λ (b : Bool). cond b (word ∷ filter p words) (filter p words) in
    let are : List (List ℕ) → Type 0 = λ ws. AllWords ws in
    elim (cases_Bool (p word)) [
      | inl t ↦ subst are (sym (ap pick t)) (all.0, more)
      | inr f ↦ subst are (sym (ap pick f)) more
    ]

pieces-one : (word : List ℕ) → IsDark word → pieces_of word ≡ word ∷ []
pieces-one [] dark = refl
pieces-one (c ∷ word) dark = ap (λ b. cond b ([] ∷ pieces_of word) (with_byte c (pieces_of word))) dark.0 ∙ ap (with_byte c) (pieces-one word dark.1)

words-one : (word : List ℕ) → (has_bytes word ≡ true) × IsDark word → words_of word ≡ word ∷ []
words-one [] is = absurd (true≢false (sym is.0))
words-one (c ∷ word) is = ap (filter has_bytes) (pieces-one (c ∷ word) is.1)

words-more : (text word : List ℕ) → (has_bytes word ≡ true) × IsDark word → words_of (with_word text word) ≡ words_of text ++ word ∷ []
words-more [] word is = words-one word is
words-more (c ∷ text) word is = words-split (c ∷ text) 32 word refl ∙ ap (λ ws. words_of (c ∷ text) ++ ws) (words-one word is)

words-behind : (text : List ℕ) (words : List (List ℕ)) → AllWords words → words_of (with_words text words) ≡ words_of text ++ words
words-behind text [] all = sym (append-nil (words_of text))
words-behind text (word ∷ words) all =
    words-behind (with_word text word) words all.1 ∙ ap (λ ws. ws ++ words) (words-more text word all.0) ∙ append_assoc (words_of text) (word ∷ []) words

-- words with spaces between are these words
pub words-again : (words : List (List ℕ)) → AllWords words → words_of (with_words [] words) ≡ words
words-again words all = words-behind [] words all

-- those that pass a test all pass it
pub filter-twice : (p : List ℕ → Bool) (words : List (List ℕ)) → filter p (filter p words) ≡ filter p words
filter-twice p [] = refl
filter-twice p (word ∷ words) =
    let more = filter-twice p words in
    let pick : Bool → List (List ℕ) → List (List ℕ) = λ b ws. cond b (word ∷ ws) ws in
    elim (cases_Bool (p word)) [
      | inl t ↦
          (let front : filter p (word ∷ words) ≡ word ∷ filter p words = ap (λ b. pick b (filter p words)) t in
          ap (filter p) front ∙ ap (λ b. pick b (filter p (filter p words))) t ∙ ap (λ ws. word ∷ ws) more ∙ sym front)
      | inr f ↦
          (let front : filter p (word ∷ words) ≡ filter p words = ap (λ b. pick b (filter p words)) f in
          ap (filter p) front ∙ more ∙ sym front)
    ]
