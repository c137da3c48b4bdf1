-- Texts that are read in a state of their own, and their end tags, that are spelled in any way.
use Rattle.std.specs.Prelude.{◌≡◌, ℕ, Bool, true, false, not, ◌==◌, ◌||◌, List, [], ◌∷◌, ◌++◌, map, flat_map, take, None, Some}
use Rattle.std.specs.Prelude.{codes, if◌then◌else◌, refl}
use Rattle.std.proofs.Common.{inl, inr}
use Rattle.std.specs.Char.{to_ascii_lowercase}
use Rattle.std.specs.List.{list_all}
use Rattle.std.proofs.lemmas.Bool.{and_parts, cases_Bool, eqb-true}
use Rattle.std.proofs.lemmas.List.{append-nil, append_assoc}
use mathlib.Core.Path.{◌∙◌, sym, ap, subst}
use Rattle.calm_pages.specs.Calm.{is_bare}
use Rattle.dom_markup.specs.Bytes.{is_letter}
use Rattle.standard_tokens.proofs.OwnEnds.{begins_lower, begins_upper, end_of, less_state, less_taken, lower_taken, name_state, naming}
use Rattle.standard_tokens.proofs.OwnEnds.{open_state, same_as_itself, slash_taken, upper_taken, within}
use Rattle.standard_tokens.proofs.PlainParts.{InText, in_text, piece_in}
use Rattle.standard_tokens.proofs.PlainTags.{tagging}
use Rattle.standard_tokens.proofs.Steps.{go_on, loud, other, silent, taking}
use Rattle.standard_tokens.specs.Entries.{Emit, Current, These, Stay, Switch, Reconsume, ReconsumeBack, ReturnTo, SetEmpty, Add, Buffer, Flush}
use Rattle.standard_tokens.specs.Entries.{EmitTag, Ending, Lower, NewTag, TheTagName}
use Rattle.standard_tokens.specs.Machine.{Machine, Tag, at_state, is_name_of, taken}
use Rattle.standard_tokens.specs.PlainMarkup.{Piece, Itself, Amp, Lt, Gt, Quot, Nbsp, TextKind, Rcdata, Rawtext, Script, character, state_of}
use Rattle.standard_tokens.specs.PlainMarkup.{written_piece}
use Rattle.standard_tokens.specs.Reading.{Feedback, IsFeedback, Reads, here, reader}
use Rattle.standard_tokens.specs.States.{Data, RCDATA, BeforeAttributeName, CharacterReference}
use Rattle.standard_tokens.specs.Table.{entries}
use Rattle.standard_tokens.specs.Tokens.{Token, AChar, AnEnd}
use Rattle.standard_laws.specs.SpelledLaws.{SpelledOwnTextsAreRead}
use Rattle.standard_laws.specs.SpelledMarkup.{are_letters, are_own, is_gap_char, is_lone_in_own, is_own_at, is_own_piece, is_rcdata, lowered}
use Rattle.standard_laws.specs.SpelledMarkup.{written_end}
use Rattle.standard_laws.proofs.SpelledNames.{by_gap, gap_stays, is_upper, spaces_go, stays_low, upper_or_lower}
use Rattle.standard_laws.proofs.SpelledTags.{Ends, ended, ends_behind, gap_ends}
use Rattle.standard_laws.proofs.SpelledValues.{bare_taken}

-- in the state of the text, these characters come
abbrev Told : Feedback → TextKind → List ℕ → List Token → List ℕ → List ℕ → List Token → Type 0
Told f kind name seen text rest found =
    (m : Machine) → (n : Machine) × Reads f (reader (within (state_of kind) name m) text seen) (reader (within (state_of kind) name n) rest (seen ++ found))

-- ---- characters

-- a `<` alone
lone_taken : (kind : TextKind) (foreign : Bool) (m : Machine) (rest : List ℕ) → is_lone_in_own rest ≡ true →
    taken foreign m rest (entries (less_state kind)) ≡ taking (Emit (These (codes "<")) ∷ []) (Reconsume (state_of kind)) (take 1 rest)
unfolding taken entries
lone_taken kind foreign m [] h = cc
lone_taken Rcdata foreign m (c ∷ rest) h = rw (other (λ c. not (c == 33 || c == 47)) 47 c h refl) refl
lone_taken Rawtext foreign m (c ∷ rest) h = rw (other (λ c. not (c == 33 || c == 47)) 47 c h refl) refl
lone_taken Script foreign m (c ∷ rest) h = rw (other (λ c. not (c == 33 || c == 47)) 47 c h refl, other (λ c. not (c == 33 || c == 47)) 33 c h refl) refl

lone_told : (f : Feedback) → IsFeedback f → (kind : TextKind) (name : List ℕ) (seen : List Token) (rest : List ℕ) → is_lone_in_own rest ≡ true →
    Told f kind name seen (60 ∷ rest) rest (AChar 60 ∷ [])
lone_told f honest kind name seen rest h m =
    let a : Reads f (reader (within (state_of kind) name m) (60 ∷ rest) seen) (reader (within (less_state kind) name m) rest seen) =
    silent (taking [] (Switch (less_state kind)) (60 ∷ [])) (less_taken kind (f.in_foreign seen) (within (state_of kind) name m) rest) refl refl in
    let b : Reads f (reader (within (less_state kind) name m) rest seen) (reader (within (state_of kind) name m) rest (seen ++ AChar 60 ∷ [])) =
    loud honest (taking (Emit (These (codes "<")) ∷ []) (Reconsume (state_of kind)) (take 1 rest)) (AChar 60) (lone_taken kind (f.in_foreign seen) (within (less_state kind) name m) rest h) refl refl refl in
    (m, go_on a b)

-- an `&` alone
bare_told : (f : Feedback) → IsFeedback f → (name : List ℕ) (seen : List Token) (rest : List ℕ) → is_bare rest ≡ true → Told f Rcdata name seen (38 ∷ rest) rest (AChar 38 ∷ [])
unfolding taken entries
bare_told f honest name seen rest h m =
    let m1 : Machine = record m { state = CharacterReference; return_state = RCDATA; last_start = Some name } in
    let n : Machine = record m { return_state = RCDATA; buffer = 38 ∷ [] } in
    let a : Reads f (reader (within RCDATA name m) (38 ∷ rest) seen) (reader m1 rest seen) = silent (taking (ReturnTo RCDATA ∷ []) (Switch CharacterReference) (38 ∷ [])) refl refl refl in
    let b : Reads f (reader m1 rest seen) (reader (within RCDATA name n) rest (seen ++ AChar 38 ∷ [])) =
    loud honest (taking (SetEmpty Buffer ∷ Add Buffer (These (codes "&")) ∷ Flush ∷ []) ReconsumeBack (take 1 rest)) (AChar 38) (bare_taken (f.in_foreign seen) m1 rest h) refl refl refl in
    (n, go_on a b)

-- an `&` that is no `&` of a reference: in a raw text each one
amp_told : (f : Feedback) → IsFeedback f → (kind : TextKind) (name : List ℕ) (seen : List Token) (rest : List ℕ) → (not (is_rcdata kind) || is_bare rest) ≡ true →
    Told f kind name seen (38 ∷ rest) rest (AChar 38 ∷ [])
unfolding taken entries
amp_told f honest Rcdata name seen rest h = bare_told f honest name seen rest h
amp_told f honest Rawtext name seen rest h = λ m. (m, loud honest (taking (Emit Current ∷ []) Stay (38 ∷ [])) (AChar 38) refl refl refl refl)
amp_told f honest Script name seen rest h = λ m. (m, loud honest (taking (Emit Current ∷ []) Stay (38 ∷ [])) (AChar 38) refl refl refl refl)

char_taken : (kind : TextKind) (foreign : Bool) (m : Machine) (c : ℕ) (text : List ℕ) → (60 == c) ≡ false → (38 == c) ≡ false → not (0 == c || 13 == c) ≡ true →
    taken foreign m (c ∷ text) (entries (state_of kind)) ≡ taking (Emit Current ∷ []) Stay (c ∷ [])
unfolding taken entries
char_taken Rcdata foreign m c text less amp h = rw (amp, less, other (λ c. not (0 == c || 13 == c)) 0 c h refl) refl
char_taken Rawtext foreign m c text less amp h = rw (less, other (λ c. not (0 == c || 13 == c)) 0 c h refl) refl
char_taken Script foreign m c text less amp h = rw (less, other (λ c. not (0 == c || 13 == c)) 0 c h refl) refl

itself_told : (f : Feedback) → IsFeedback f → (kind : TextKind) (name : List ℕ) (seen : List Token) (c : ℕ) (rest : List ℕ) → is_own_at kind c rest ≡ true →
    Told f kind name seen (c ∷ rest) rest (AChar c ∷ [])
itself_told f honest kind name seen c rest h = elim (cases_Bool (60 == c)) [
  | inl less ↦
      let lone : is_lone_in_own rest ≡ true = subst (λ b. (if b then is_lone_in_own rest else if 38 == c then (not (is_rcdata kind) || is_bare rest) else not (0 == c || 13 == c)) ≡ true) less h in
      subst (λ k. Told f kind name seen (k ∷ rest) rest (AChar k ∷ [])) (eqb-true 60 c less) (lone_told f honest kind name seen rest lone)
  | inr no_less ↦
      let more : (if 38 == c then (not (is_rcdata kind) || is_bare rest) else not (0 == c || 13 == c)) ≡ true =
      subst (λ b. (if b then is_lone_in_own rest else if 38 == c then (not (is_rcdata kind) || is_bare rest) else not (0 == c || 13 == c)) ≡ true) no_less h in
      elim (cases_Bool (38 == c)) [
        | inl amp ↦
            let bare : (not (is_rcdata kind) || is_bare rest) ≡ true = subst (λ b. (if b then (not (is_rcdata kind) || is_bare rest) else not (0 == c || 13 == c)) ≡ true) amp more in
            subst (λ k. Told f kind name seen (k ∷ rest) rest (AChar k ∷ [])) (eqb-true 38 c amp) (amp_told f honest kind name seen rest bare)
        | inr no_amp ↦
            let kept : not (0 == c || 13 == c) ≡ true = subst (λ b. (if b then (not (is_rcdata kind) || is_bare rest) else not (0 == c || 13 == c)) ≡ true) no_amp more in
            λ m. (m, loud honest (taking (Emit Current ∷ []) Stay (c ∷ [])) (AChar c) (char_taken kind (f.in_foreign seen) (within (state_of kind) name m) c rest no_less no_amp kept) refl refl refl)
      ]
]

reference_told : (f : Feedback) → IsFeedback f → (kind : TextKind) → is_rcdata kind ≡ true → (name : List ℕ) (seen : List Token) (piece : Piece) (rest : List ℕ) →
    ((m : Machine) → InText f true m (written_piece piece) rest seen (AChar (character piece) ∷ [])) → Told f kind name seen (written_piece piece ++ rest) rest (AChar (character piece) ∷ [])
reference_told f honest Rcdata h name seen piece rest read = λ m.
    let inside : InText f true (within RCDATA name m) (written_piece piece) rest seen (AChar (character piece) ∷ []) = read (within RCDATA name m) in
    (in_text true (within RCDATA name m) inside.back inside.buffer, inside.reads)
reference_told f honest Rawtext h name seen piece rest read = cc
reference_told f honest Script h name seen piece rest read = cc

piece_told : (f : Feedback) → IsFeedback f → (kind : TextKind) (name : List ℕ) (seen : List Token) (piece : Piece) (rest : List ℕ) → is_own_piece kind piece rest ≡ true →
    Told f kind name seen (written_piece piece ++ rest) rest (AChar (character piece) ∷ [])
piece_told f honest kind name seen (Itself c) rest h = itself_told f honest kind name seen c rest h
piece_told f honest kind name seen Amp rest h = reference_told f honest kind h name seen Amp rest (λ m. piece_in f honest true Amp refl m rest seen)
piece_told f honest kind name seen Lt rest h = reference_told f honest kind h name seen Lt rest (λ m. piece_in f honest true Lt refl m rest seen)
piece_told f honest kind name seen Gt rest h = reference_told f honest kind h name seen Gt rest (λ m. piece_in f honest true Gt refl m rest seen)
piece_told f honest kind name seen Quot rest h = reference_told f honest kind h name seen Quot rest (λ m. piece_in f honest true Quot refl m rest seen)
piece_told f honest kind name seen Nbsp rest h = reference_told f honest kind h name seen Nbsp rest (λ m. piece_in f honest true Nbsp refl m rest seen)

text_told : (f : Feedback) → IsFeedback f → (kind : TextKind) (name : List ℕ) (seen : List Token) (pieces : List Piece) (rest : List ℕ) → are_own kind pieces rest ≡ true →
    Told f kind name seen (flat_map written_piece pieces ++ rest) rest (map AChar (map character pieces))
text_told f honest kind name seen [] rest h = λ m. (m, rw (append-nil seen) here)
text_told f honest kind name seen (piece ∷ pieces) rest h = λ m.
    let tail : List ℕ = flat_map written_piece pieces ++ rest in
    let parts : (is_own_piece kind piece tail ≡ true) × (are_own kind pieces rest ≡ true) = and_parts (is_own_piece kind piece tail) (are_own kind pieces rest) h in
    let one : (n : Machine) × Reads f (reader (within (state_of kind) name m) (written_piece piece ++ tail) seen) (reader (within (state_of kind) name n) tail (seen ++ AChar (character piece) ∷ [])) =
    piece_told f honest kind name seen piece tail parts.0 m in
    let two : (n : Machine) × Reads f (reader (within (state_of kind) name one.0) tail (seen ++ AChar (character piece) ∷ []))
    (reader (within (state_of kind) name n) rest (seen ++ AChar (character piece) ∷ [] ++ map AChar (map character pieces))) =
    text_told f honest kind name (seen ++ AChar (character piece) ∷ []) pieces rest parts.1 one.0 in
    (two.0, rw (append_assoc (written_piece piece) (flat_map written_piece pieces) rest, ← append_assoc seen (AChar (character piece) ∷ []) (map AChar (map character pieces))) (go_on one.1 two.1))

-- ---- the end tag

begins_taken : (kind : TextKind) (foreign : Bool) (m : Machine) (c : ℕ) (text : List ℕ) → is_letter c ≡ true →
    taken foreign m (c ∷ text) (entries (open_state kind)) ≡ taking (NewTag Ending ∷ []) (Reconsume (name_state kind)) (c ∷ [])
begins_taken kind foreign m c text h = elim (cases_Bool (is_upper c)) [
  | inl u ↦ begins_upper kind foreign m c text u
  | inr l ↦ begins_lower kind foreign m c text (upper_or_lower c h l)
]

opens : (f : Feedback) (kind : TextKind) (name : List ℕ) (c : ℕ) → is_letter c ≡ true → (m : Machine) (rest : List ℕ) (seen : List Token) →
    Reads f (reader (within (state_of kind) name m) (60 ∷ 47 ∷ c ∷ rest) seen) (reader (naming kind name [] [] m) (c ∷ rest) seen)
opens f kind name c h m rest seen =
    let one : Reads f (reader (within (state_of kind) name m) (60 ∷ 47 ∷ c ∷ rest) seen) (reader (within (less_state kind) name m) (47 ∷ c ∷ rest) seen) =
    silent (taking [] (Switch (less_state kind)) (60 ∷ [])) (less_taken kind (f.in_foreign seen) (within (state_of kind) name m) (47 ∷ c ∷ rest)) refl refl in
    let opened : Machine = record m { state = open_state kind; buffer = []; last_start = Some name } in
    let two : Reads f (reader (within (less_state kind) name m) (47 ∷ c ∷ rest) seen) (reader opened (c ∷ rest) seen) =
    silent (taking (SetEmpty Buffer ∷ []) (Switch (open_state kind)) (47 ∷ [])) (slash_taken kind (f.in_foreign seen) (within (less_state kind) name m) (c ∷ rest)) refl refl in
    go_on one (go_on two (silent (taking (NewTag Ending ∷ []) (Reconsume (name_state kind)) (c ∷ [])) (begins_taken kind (f.in_foreign seen) opened c rest h) refl refl))

letter_read : (f : Feedback) (kind : TextKind) (name low buffer : List ℕ) (c : ℕ) → is_letter c ≡ true → (m : Machine) (rest : List ℕ) (seen : List Token) →
    Reads f (reader (naming kind name low buffer m) (c ∷ rest) seen) (reader (naming kind name (low ++ to_ascii_lowercase c ∷ []) (buffer ++ c ∷ []) m) rest seen)
letter_read f kind name low buffer c h m rest seen = elim (cases_Bool (is_upper c)) [
  | inl u ↦ silent (taking (Add TheTagName Lower ∷ Add Buffer Current ∷ []) Stay (c ∷ [])) (upper_taken kind (f.in_foreign seen) (naming kind name low buffer m) c rest u) refl refl
  | inr l ↦ subst (λ d. Reads f (reader (naming kind name low buffer m) (c ∷ rest) seen) (reader (naming kind name (low ++ d ∷ []) (buffer ++ c ∷ []) m) rest seen)) (sym (stays_low c l))
      (silent (taking (Add TheTagName Current ∷ Add Buffer Current ∷ []) Stay (c ∷ [])) (lower_taken kind (f.in_foreign seen) (naming kind name low buffer m) c rest (upper_or_lower c h l)) refl refl)
]

letters_read : (f : Feedback) (kind : TextKind) (name low buffer letters : List ℕ) → list_all is_letter letters ≡ true → (m : Machine) (rest : List ℕ) (seen : List Token) →
    Reads f (reader (naming kind name low buffer m) (letters ++ rest) seen) (reader (naming kind name (low ++ lowered letters) (buffer ++ letters) m) rest seen)
letters_read f kind name low buffer [] h m rest seen = rw (append-nil low, append-nil buffer) here
letters_read f kind name low buffer (c ∷ letters) h m rest seen =
    let parts : (is_letter c ≡ true) × (list_all is_letter letters ≡ true) = and_parts (is_letter c) (list_all is_letter letters) h in
    let first : Reads f (reader (naming kind name low buffer m) (c ∷ (letters ++ rest)) seen) (reader (naming kind name (low ++ to_ascii_lowercase c ∷ []) (buffer ++ c ∷ []) m) (letters ++ rest) seen) =
    letter_read f kind name low buffer c parts.0 m (letters ++ rest) seen in
    rw (← append_assoc low (to_ascii_lowercase c ∷ []) (lowered letters), ← append_assoc buffer (c ∷ []) letters)
    (go_on first (letters_read f kind name (low ++ to_ascii_lowercase c ∷ []) (buffer ++ c ∷ []) letters parts.1 m rest seen))

gap_taken : (kind : TextKind) (foreign : Bool) (m : Machine) (c : ℕ) (text : List ℕ) → is_name_of m.last_start m.tag.name ≡ true → is_gap_char c ≡ true →
    taken foreign m (c ∷ text) (entries (name_state kind)) ≡ taking [] (Switch BeforeAttributeName) (c ∷ [])
unfolding taken entries
gap_taken Rcdata foreign m c text h g = by_gap (λ c. taken foreign m (c ∷ text) (entries (name_state Rcdata)) ≡ taking [] (Switch BeforeAttributeName) (c ∷ [])) (rw h refl) (rw h refl) (rw h refl) (rw h refl) c g
gap_taken Rawtext foreign m c text h g = by_gap (λ c. taken foreign m (c ∷ text) (entries (name_state Rawtext)) ≡ taking [] (Switch BeforeAttributeName) (c ∷ [])) (rw h refl) (rw h refl) (rw h refl) (rw h refl) c g
gap_taken Script foreign m c text h g = by_gap (λ c. taken foreign m (c ∷ text) (entries (name_state Script)) ≡ taking [] (Switch BeforeAttributeName) (c ∷ [])) (rw h refl) (rw h refl) (rw h refl) (rw h refl) c g

ends_taken : (kind : TextKind) (foreign : Bool) (m : Machine) (text : List ℕ) → is_name_of m.last_start m.tag.name ≡ true →
    taken foreign m (62 ∷ text) (entries (name_state kind)) ≡ taking (EmitTag ∷ []) (Switch Data) (62 ∷ [])
unfolding taken entries
ends_taken Rcdata foreign m text h = rw h refl
ends_taken Rawtext foreign m text h = rw h refl
ends_taken Script foreign m text h = rw h refl

closes : (f : Feedback) → IsFeedback f → (kind : TextKind) (name buffer space rest : List ℕ) (m : Machine) (seen : List Token) → list_all is_gap_char space ≡ true →
    (n : Machine) × Reads f (reader (naming kind name name buffer m) (space ++ (62 ∷ rest)) seen) (reader (at_state n Data) rest (seen ++ AnEnd name ∷ []))
closes f honest kind name buffer [] rest m seen h = (
  naming kind name name buffer m,
  loud honest (taking (EmitTag ∷ []) (Switch Data) (62 ∷ [])) (AnEnd name) (ends_taken kind (f.in_foreign seen) (naming kind name name buffer m) rest (same_as_itself name)) refl refl refl,
)
closes f honest kind name buffer (c ∷ space) rest m seen h =
    let parts : (is_gap_char c ≡ true) × (list_all is_gap_char space ≡ true) = and_parts (is_gap_char c) (list_all is_gap_char space) h in
    let x : Tag = end_of name in
    let start : Machine = naming kind name name buffer m in
    let one : Reads f (reader start (c ∷ (space ++ (62 ∷ rest))) seen) (reader (tagging start BeforeAttributeName x) (space ++ (62 ∷ rest)) seen) =
    silent (taking [] (Switch BeforeAttributeName) (c ∷ [])) (gap_taken kind (f.in_foreign seen) start c (space ++ (62 ∷ rest)) (same_as_itself name) parts.0) refl refl in
    let more : Ends f seen BeforeAttributeName x (space ++ (62 ∷ rest)) x rest None =
    ends_behind f seen BeforeAttributeName BeforeAttributeName x x x (space ++ (62 ∷ rest)) (62 ∷ rest) rest None
    (spaces_go f seen BeforeAttributeName x space (62 ∷ rest) (gap_stays false) parts.1) (gap_ends f seen false x false rest None (honest seen (AnEnd name) refl)) in
    let all : (n : Machine) × Reads f (reader (tagging start BeforeAttributeName x) (space ++ (62 ∷ rest)) seen) (ended f seen x rest None n) = more start in
    (all.0, go_on one all.1)

end_read : (f : Feedback) → IsFeedback f → (kind : TextKind) (name space rest : List ℕ) (seen : List Token) → are_letters name ≡ true → list_all is_gap_char space ≡ true → (m : Machine) →
    (n : Machine) × Reads f (reader (within (state_of kind) (lowered name) m) (written_end name space ++ rest) seen) (reader (at_state n Data) rest (seen ++ AnEnd (lowered name) ∷ []))
end_read f honest kind [] space rest seen h g = cc
end_read f honest kind (c ∷ name) space rest seen h g = λ m.
    let whole : List ℕ = c ∷ name in
    let tail : List ℕ = space ++ (62 ∷ rest) in
    let parts : (is_letter c ≡ true) × (list_all is_letter name ≡ true) = and_parts (is_letter c) (list_all is_letter name) h in
    let first : Reads f (reader (within (state_of kind) (lowered whole) m) (60 ∷ 47 ∷ c ∷ (name ++ tail)) seen) (reader (naming kind (lowered whole) [] [] m) (c ∷ (name ++ tail)) seen) =
    opens f kind (lowered whole) c parts.0 m (name ++ tail) seen in
    let letters : Reads f (reader (naming kind (lowered whole) [] [] m) (c ∷ (name ++ tail)) seen) (reader (naming kind (lowered whole) (lowered whole) whole m) tail seen) =
    letters_read f kind (lowered whole) [] [] whole h m tail seen in
    let last : (n : Machine) × Reads f (reader (naming kind (lowered whole) (lowered whole) whole m) tail seen) (reader (at_state n Data) rest (seen ++ AnEnd (lowered whole) ∷ [])) =
    closes f honest kind (lowered whole) whole space rest m seen g in
    let same : (name ++ (space ++ 62 ∷ [])) ++ rest ≡ name ++ tail = append_assoc name (space ++ 62 ∷ []) rest ∙ ap (λ t. name ++ t) (append_assoc space (62 ∷ []) rest) in
    (last.0, subst (λ t. Reads f (reader (within (state_of kind) (lowered whole) m) (60 ∷ 47 ∷ c ∷ t) seen) (reader (at_state last.0 Data) rest (seen ++ AnEnd (lowered whole) ∷ []))) (sym same) (go_on first (go_on letters last.1)))

pub own_texts_read : SpelledOwnTextsAreRead
own_texts_read f honest seen kind pieces name space rest h letters g before =
    let found : List Token = map AChar (map character pieces) in
    let tail : List ℕ = written_end name space ++ rest in
    let one : (n : Machine) × Reads f (reader (within (state_of kind) (lowered name) before) (flat_map written_piece pieces ++ tail) seen) (reader (within (state_of kind) (lowered name) n) tail (seen ++ found)) =
    text_told f honest kind (lowered name) seen pieces tail h before in
    let two : (n : Machine) × Reads f (reader (within (state_of kind) (lowered name) one.0) tail (seen ++ found)) (reader (at_state n Data) rest (seen ++ found ++ AnEnd (lowered name) ∷ [])) =
    end_read f honest kind name space rest (seen ++ found) letters g one.0 in
    (two.0, rw (← append_assoc seen found (AnEnd (lowered name) ∷ [])) (go_on one.1 two.1))
