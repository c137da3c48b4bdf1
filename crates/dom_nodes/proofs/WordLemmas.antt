-- The words of a text that is cut after its first word.
use Rattle.std.proofs.Common.{◌≡◌, ℕ, suc, ◌+◌, ◌<◌, ◌≤◌, List, [], ◌∷◌, ◌++◌, length, true, false, Bool, ◌&&◌, ◌||◌, cond, get_or, take, drop, refl, sym, ap, ◌∙◌, inl, inr, arith}
use Rattle.std.proofs.lemmas.Bool.{cases_lt}
use Rattle.std.proofs.lemmas.Bool.Decides.{nat_tests, same_from_decides, Decides-and, Decides-at, Decides-like}
use Rattle.std.proofs.lemmas.List.{length-drop, take_all, take-append-drop, take-take}
use Rattle.std.proofs.lemmas.Slice.Eq.{bytes_eq-Decides}
use Rattle.std.proofs.lemmas.Str.{NoCharPasses-byte}
use Rattle.std.specs.Bool.{Decides}
use Rattle.std.specs.Char.{is_ascii_whitespace}
use Rattle.std.specs.List.{AllPass, filter}
use Rattle.std.specs.Str.{NoCharPasses, bytes_eq}
use Rattle.std.specs.Str.Iter.{IsAsciiSeparator}
use Rattle.dom_nodes.specs.Words.{pieces_of, with_byte, has_bytes, words_of, is_among}

front : (c : ℕ) (text : List ℕ) → AllPass is_ascii_whitespace (c ∷ text) → is_ascii_whitespace c ≡ true
front c text h = h 0 c (omega arith)

back : (c : ℕ) (text : List ℕ) → AllPass is_ascii_whitespace (c ∷ text) → AllPass is_ascii_whitespace text
back c text h = λ k d low. h (suc k) d (omega arith)

pub words-gap : (gap text : List ℕ) → AllPass is_ascii_whitespace gap → words_of (gap ++ text) ≡ words_of text
words-gap [] text h = refl
words-gap (c ∷ gap) text h =
    ap (λ b. filter has_bytes (cond b ([] ∷ pieces_of (gap ++ text)) (with_byte c (pieces_of (gap ++ text))))) (front c gap h) ∙ words-gap gap text (back c gap h)

pub words-white : (text : List ℕ) → AllPass is_ascii_whitespace text → words_of text ≡ []
words-white [] h = refl
words-white (c ∷ text) h =
    ap (λ b. filter has_bytes (cond b ([] ∷ pieces_of text) (with_byte c (pieces_of text)))) (front c text h) ∙ words-white text (back c text h)

abbrev NoneWhite : List ℕ → Type 0
NoneWhite text = (k : ℕ) → k < length text → is_ascii_whitespace (get_or text k 0) ≡ false

high : (c : ℕ) → 128 ≤ c → is_ascii_whitespace c ≡ false
high c h = grind (arith, nat_tests)

none_white : (text : List ℕ) → NoCharPasses is_ascii_whitespace text → NoneWhite text
none_white text h k low =
    elim (cases_lt (get_or text k 0) 128) [
      | inl l ↦ NoCharPasses-byte is_ascii_whitespace text k h low l
      | inr m ↦ high (get_or text k 0) m
    ]

pieces-word : (word rest : List ℕ) (pieces : List (List ℕ)) → NoneWhite word → pieces_of rest ≡ [] ∷ pieces → pieces_of (word ++ rest) ≡ word ∷ pieces
pieces-word [] rest pieces h e = e
pieces-word (c ∷ word) rest pieces h e =
    ap (λ b. cond b ([] ∷ pieces_of (word ++ rest)) (with_byte c (pieces_of (word ++ rest)))) (h 0 (omega arith))
    ∙ ap (with_byte c) (pieces-word word rest pieces (λ k low. h (suc k) (omega arith)) e)

some_word : (word : List ℕ) (pieces : List (List ℕ)) → 0 < length word → filter has_bytes (word ∷ pieces) ≡ word ∷ filter has_bytes pieces
some_word [] pieces h = absurd (omega arith)
some_word (c ∷ word) pieces h = refl

words-word : (word sep rest : List ℕ) → 0 < length word → NoneWhite word → IsAsciiSeparator sep rest → words_of (word ++ (sep ++ rest)) ≡ word ∷ words_of rest
words-word word [] [] some none h = ap (filter has_bytes) (pieces-word word [] [] none refl) ∙ some_word word [] some
words-word word [] (d ∷ rest) some none h = absurd (omega (arith, h.2 refl))
words-word word (s ∷ []) rest some none h =
    let white : pieces_of (s ∷ rest) ≡ [] ∷ pieces_of rest = ap (λ b. cond b ([] ∷ pieces_of rest) (with_byte s (pieces_of rest))) (front s [] h.0) in
    ap (filter has_bytes) (pieces-word word (s ∷ rest) (pieces_of rest) none white) ∙ some_word word (pieces_of rest) some
words-word word (s ∷ t ∷ sep) rest some none h = absurd (omega (arith, h.1))

-- whitespace is passed over, and a word comes off the front
pub words-cut : (text gap word sep rest : List ℕ) → text ≡ gap ++ (word ++ (sep ++ rest)) → 0 < length word → NoCharPasses is_ascii_whitespace word → AllPass is_ascii_whitespace gap → IsAsciiSeparator sep rest →
    words_of text ≡ word ∷ words_of rest
words-cut text gap word sep rest e some none white cut =
    ap words_of e ∙ words-gap gap (word ++ (sep ++ rest)) white ∙ words-word word sep rest some (none_white word none) cut

pub among-here : (text word : List ℕ) (words : List (List ℕ)) → bytes_eq word text ≡ true → is_among text (word ∷ words) ≡ true
among-here text word words e = ap (λ b. b || is_among text words) e

pub among-later : (text word : List ℕ) (words : List (List ℕ)) → bytes_eq word text ≡ false → is_among text (word ∷ words) ≡ is_among text words
among-later text word words e = ap (λ b. b || is_among text words) e

last_of : (xs : List ℕ) (k at : ℕ) → length xs ≡ at + k → take k (drop at xs) ≡ drop at xs
last_of xs k at e = take_all k (drop at xs) (omega (arith, length-drop at xs))

joined : (xs ys : List ℕ) (k at : ℕ) → at ≤ k → length xs ≡ at + k → length ys ≡ at + k
    → take k xs ≡ take k ys → take k (drop at xs) ≡ take k (drop at ys) → xs ≡ ys
joined xs ys k at low e f first last =
    let front : take at xs ≡ take at ys = sym (take-take at k xs low) ∙ ap (take at) first ∙ take-take at k ys low in
    let back : drop at xs ≡ drop at ys = sym (last_of xs k at e) ∙ last ∙ last_of ys k at f in
    sym (take-append-drop at xs) ∙ (λ i. front i ++ back i) ∙ take-append-drop at ys

-- Texts of at + k bytes are the same where their first k and their last k bytes are, which together
-- are all of them
pub same_ends : (xs ys : List ℕ) (k at : ℕ) (a b : Bool)
    → at ≤ k → length xs ≡ at + k → length ys ≡ at + k
    → a ≡ bytes_eq (take k xs) (take k ys)
    → b ≡ bytes_eq (take k (drop at xs)) (take k (drop at ys))
    → (a && b) ≡ bytes_eq xs ys
same_ends xs ys k at a b low e f first last =
    let both = Decides-and a b (Decides-at a _ first (bytes_eq-Decides _ _)) (Decides-at b _ last (bytes_eq-Decides _ _)) in
    let all : Decides (a && b) (xs ≡ ys) =
    Decides-like (a && b) (λ h. joined xs ys k at low e f h.0 h.1) (λ h. (ap (take k) h, ap (λ s. take k (drop at s)) h)) both in
    same_from_decides (a && b) (bytes_eq xs ys) all (bytes_eq-Decides xs ys)
