-- Texts that are spelled in any way, as the tokenizer reads them in the data state.
use Rattle.std.specs.Prelude.{◌≡◌, ℕ, Bool, true, false, not, ◌==◌, ◌&&◌, ◌||◌, nat_le, List, [], ◌∷◌, ◌++◌, map, flat_map, take, codes, if◌then◌else◌, refl}
use Rattle.std.proofs.Common.{inl, inr}
use Rattle.std.proofs.lemmas.Bool.{and_parts, cases_Bool, eqb-true}
use Rattle.std.proofs.lemmas.List.{append-nil, append_assoc}
use mathlib.Core.Path.{subst}
use native.Mathlib.Omega.{arith}
use Rattle.calm_pages.specs.Calm.{is_bare}
use Rattle.dom_markup.specs.Bytes.{is_letter}
use Rattle.standard_tokens.proofs.PlainParts.{piece_read}
use Rattle.standard_tokens.proofs.Steps.{go_on, loud, other, silent, taking}
use Rattle.standard_tokens.specs.Entries.{Emit, These, Switch, Reconsume, ReconsumeBack, ReturnTo, SetEmpty, Add, Buffer, Flush}
use Rattle.standard_tokens.specs.Machine.{Machine, at_state, taken}
use Rattle.standard_tokens.specs.PlainMarkup.{Piece, Itself, Amp, Lt, Gt, Quot, Nbsp, character, is_text_char, written_piece}
use Rattle.standard_tokens.specs.Reading.{Feedback, IsFeedback, Reads, here, reader}
use Rattle.standard_tokens.specs.States.{Data, TagOpen, CharacterReference}
use Rattle.standard_tokens.specs.Table.{entries}
use Rattle.standard_tokens.specs.Tokens.{Token, AChar}
use Rattle.standard_laws.specs.SpelledLaws.{SpelledTextsAreRead}
use Rattle.standard_laws.specs.SpelledMarkup.{are_pieces, is_lone, is_piece, is_text_at}
use Rattle.standard_laws.proofs.SpelledValues.{bare_taken}

-- from the data state to the data state, with these tokens
abbrev Tells : Feedback → List Token → List ℕ → List ℕ → List Token → Type 0
Tells f seen text rest found = (m : Machine) → (n : Machine) × Reads f (reader (at_state m Data) text seen) (reader (at_state n Data) rest (seen ++ found))

-- an `&` that begins no reference
bare_told : (f : Feedback) → IsFeedback f → (seen : List Token) (rest : List ℕ) → is_bare rest ≡ true → Tells f seen (38 ∷ rest) rest (AChar 38 ∷ [])
unfolding taken entries
bare_told f honest seen rest h m =
    let m1 : Machine = record m { state = CharacterReference; return_state = Data } in
    let n : Machine = record m { return_state = Data; buffer = 38 ∷ [] } in
    let a : Reads f (reader (at_state m Data) (38 ∷ rest) seen) (reader m1 rest seen) = silent (taking (ReturnTo Data ∷ []) (Switch CharacterReference) (38 ∷ [])) refl refl refl in
    let b : Reads f (reader m1 rest seen) (reader (at_state n Data) rest (seen ++ AChar 38 ∷ [])) =
    loud honest (taking (SetEmpty Buffer ∷ Add Buffer (These (codes "&")) ∷ Flush ∷ []) ReconsumeBack (take 1 rest)) (AChar 38) (bare_taken (f.in_foreign seen) m1 rest h) refl refl refl in
    (n, go_on a b)

-- a `<` that begins no markup
is_no_letter : (c : ℕ) → not (is_letter c || c == 33 || c == 47 || c == 63) ≡ true → ((nat_le 65 c && nat_le c 90) ≡ false) × ((nat_le 97 c && nat_le c 122) ≡ false)
is_no_letter c h = (upper, lower)
  where
    upper : (nat_le 65 c && nat_le c 90) ≡ false
    upper = grind arith

    lower : (nat_le 97 c && nat_le c 122) ≡ false
    lower = grind arith

lone_taken : (foreign : Bool) (m : Machine) (rest : List ℕ) → is_lone rest ≡ true → taken foreign m rest (entries TagOpen) ≡ taking (Emit (These (codes "<")) ∷ []) (Reconsume Data) (take 1 rest)
unfolding taken entries
lone_taken foreign m [] h = cc
lone_taken foreign m (c ∷ rest) h =
    let test : ℕ → Bool = λ c. not (is_letter c || c == 33 || c == 47 || c == 63) in
    let is : ((nat_le 65 c && nat_le c 90) ≡ false) × ((nat_le 97 c && nat_le c 122) ≡ false) = is_no_letter c h in
    rw (other test 33 c h refl, other test 47 c h refl, is.0, is.1, other test 63 c h refl) refl

lone_told : (f : Feedback) → IsFeedback f → (seen : List Token) (rest : List ℕ) → is_lone rest ≡ true → Tells f seen (60 ∷ rest) rest (AChar 60 ∷ [])
unfolding taken entries
lone_told f honest seen rest h m =
    let a : Reads f (reader (at_state m Data) (60 ∷ rest) seen) (reader (at_state m TagOpen) rest seen) = silent (taking [] (Switch TagOpen) (60 ∷ [])) refl refl refl in
    let b : Reads f (reader (at_state m TagOpen) rest seen) (reader (at_state m Data) rest (seen ++ AChar 60 ∷ [])) =
    loud honest (taking (Emit (These (codes "<")) ∷ []) (Reconsume Data) (take 1 rest)) (AChar 60) (lone_taken (f.in_foreign seen) (at_state m TagOpen) rest h) refl refl refl in
    (m, go_on a b)

-- ---- characters

plain_char : (c : ℕ) → (38 == c) ≡ false → (60 == c) ≡ false → not (0 == c || 13 == c) ≡ true → is_text_char c ≡ true
plain_char c amp less h = grind arith

itself_told : (f : Feedback) → IsFeedback f → (seen : List Token) (c : ℕ) (rest : List ℕ) → is_text_at c rest ≡ true → Tells f seen (c ∷ rest) rest (AChar c ∷ [])
itself_told f honest seen c rest h = elim (cases_Bool (38 == c)) [
  | inl amp ↦
      let bare : is_bare rest ≡ true = subst (λ b. (if b then is_bare rest else if 60 == c then is_lone rest else not (0 == c || 13 == c)) ≡ true) amp h in
      subst (λ k. Tells f seen (k ∷ rest) rest (AChar k ∷ [])) (eqb-true 38 c amp) (bare_told f honest seen rest bare)
  | inr none ↦
      let more : (if 60 == c then is_lone rest else not (0 == c || 13 == c)) ≡ true = subst (λ b. (if b then is_bare rest else if 60 == c then is_lone rest else not (0 == c || 13 == c)) ≡ true) none h in
      elim (cases_Bool (60 == c)) [
        | inl less ↦
            let lone : is_lone rest ≡ true = subst (λ b. (if b then is_lone rest else not (0 == c || 13 == c)) ≡ true) less more in
            subst (λ k. Tells f seen (k ∷ rest) rest (AChar k ∷ [])) (eqb-true 60 c less) (lone_told f honest seen rest lone)
        | inr no_less ↦
            let kept : not (0 == c || 13 == c) ≡ true = subst (λ b. (if b then is_lone rest else not (0 == c || 13 == c)) ≡ true) no_less more in
            λ m. piece_read f honest (Itself c) (plain_char c none no_less kept) m rest seen
      ]
]

piece_told : (f : Feedback) → IsFeedback f → (seen : List Token) (piece : Piece) (rest : List ℕ) → is_piece is_text_at piece rest ≡ true →
    Tells f seen (written_piece piece ++ rest) rest (AChar (character piece) ∷ [])
piece_told f honest seen (Itself c) rest h = itself_told f honest seen c rest h
piece_told f honest seen Amp rest h = λ m. piece_read f honest Amp refl m rest seen
piece_told f honest seen Lt rest h = λ m. piece_read f honest Lt refl m rest seen
piece_told f honest seen Gt rest h = λ m. piece_read f honest Gt refl m rest seen
piece_told f honest seen Quot rest h = λ m. piece_read f honest Quot refl m rest seen
piece_told f honest seen Nbsp rest h = λ m. piece_read f honest Nbsp refl m rest seen

pub texts_read : SpelledTextsAreRead
texts_read f honest seen [] rest h = λ m. (m, rw (append-nil seen) here)
texts_read f honest seen (piece ∷ pieces) rest h = λ m.
    let tail : List ℕ = flat_map written_piece pieces ++ rest in
    let parts : (is_piece is_text_at piece tail ≡ true) × (are_pieces is_text_at pieces rest ≡ true) = and_parts (is_piece is_text_at piece tail) (are_pieces is_text_at pieces rest) h in
    let one : (n : Machine) × Reads f (reader (at_state m Data) (written_piece piece ++ tail) seen) (reader (at_state n Data) tail (seen ++ AChar (character piece) ∷ [])) =
    piece_told f honest seen piece tail parts.0 m in
    let two : (n : Machine) × Reads f (reader (at_state one.0 Data) tail (seen ++ AChar (character piece) ∷ [])) (reader (at_state n Data) rest (seen ++ AChar (character piece) ∷ [] ++ map AChar (map character pieces))) =
    texts_read f honest (seen ++ AChar (character piece) ∷ []) pieces rest parts.1 one.0 in
    (two.0, rw (append_assoc (written_piece piece) (flat_map written_piece pieces) rest, ← append_assoc seen (AChar (character piece) ∷ []) (map AChar (map character pieces))) (go_on one.1 two.1))
