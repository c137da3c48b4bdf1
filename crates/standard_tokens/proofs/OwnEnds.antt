-- The end tag of an element whose text is read in a state of its own.
use Rattle.std.specs.Prelude.{◌≡◌, ℕ, Bool, true, false, ◌&&◌, nat_le, List, [], ◌∷◌, ◌++◌, Some, bytes_eq, refl}
use Rattle.std.specs.Char.{is_ascii_lowercase}
use Rattle.std.specs.List.{list_all}
use Rattle.std.specs.Cmp.Derive.{both_true}
use Rattle.std.proofs.lemmas.Bool.{and_parts, eq-eqb}
use Rattle.std.proofs.lemmas.List.{append-nil, append_assoc}
use mathlib.Core.Path.{sym, subst}
use native.Mathlib.Omega.{arith}
use Rattle.standard_tokens.proofs.PlainTags.{lower_is_name_char}
use Rattle.standard_tokens.proofs.Steps.{go_on, loud, other, silent, taking}
use Rattle.standard_tokens.specs.Entries.{Current, Lower, Stay, Switch, Reconsume, SetEmpty, Buffer, NewTag, Add, TheTagName, EmitTag, Ending}
use Rattle.standard_tokens.specs.Machine.{Machine, Tag, at_state, is_name_of, taken}
use Rattle.standard_tokens.specs.PlainMarkup.{TextKind, Rcdata, Rawtext, Script, is_letter_name, is_name_char, is_tag_name, state_of, written_end}
use Rattle.standard_tokens.specs.Reading.{Feedback, IsFeedback, Reads, here, reader}
use Rattle.standard_tokens.specs.States.{State, Data, RCDATALessThanSign, RCDATAEndTagOpen, RCDATAEndTagName, RAWTEXTLessThanSign, RAWTEXTEndTagOpen, RAWTEXTEndTagName, ScriptDataLessThanSign, ScriptDataEndTagOpen, ScriptDataEndTagName}
use Rattle.standard_tokens.specs.Table.{entries}
use Rattle.standard_tokens.specs.Tokens.{Token, AnEnd}

abbrev pub less_state : TextKind → State
less_state Rcdata = RCDATALessThanSign
less_state Rawtext = RAWTEXTLessThanSign
less_state Script = ScriptDataLessThanSign

abbrev pub open_state : TextKind → State
open_state Rcdata = RCDATAEndTagOpen
open_state Rawtext = RAWTEXTEndTagOpen
open_state Script = ScriptDataEndTagOpen

abbrev pub name_state : TextKind → State
name_state Rcdata = RCDATAEndTagName
name_state Rawtext = RAWTEXTEndTagName
name_state Script = ScriptDataEndTagName

abbrev pub is_upper : ℕ → Bool
is_upper c = nat_le 65 c && nat_le c 90

-- ---- entries

pub less_taken : (kind : TextKind) (foreign : Bool) (m : Machine) (text : List ℕ) → taken foreign m (60 ∷ text) (entries (state_of kind)) ≡ taking [] (Switch (less_state kind)) (60 ∷ [])
unfolding taken entries
less_taken Rcdata foreign m text = refl
less_taken Rawtext foreign m text = refl
less_taken Script foreign m text = refl

pub slash_taken : (kind : TextKind) (foreign : Bool) (m : Machine) (text : List ℕ) →
    taken foreign m (47 ∷ text) (entries (less_state kind)) ≡ taking (SetEmpty Buffer ∷ []) (Switch (open_state kind)) (47 ∷ [])
unfolding taken entries
slash_taken Rcdata foreign m text = refl
slash_taken Rawtext foreign m text = refl
slash_taken Script foreign m text = refl

lower_is_no_upper : (c : ℕ) → is_ascii_lowercase c ≡ true → is_upper c ≡ false
lower_is_no_upper c h = grind arith

pub begins_upper : (kind : TextKind) (foreign : Bool) (m : Machine) (c : ℕ) (text : List ℕ) → is_upper c ≡ true →
    taken foreign m (c ∷ text) (entries (open_state kind)) ≡ taking (NewTag Ending ∷ []) (Reconsume (name_state kind)) (c ∷ [])
unfolding taken entries
begins_upper Rcdata foreign m c text h = rw h refl
begins_upper Rawtext foreign m c text h = rw h refl
begins_upper Script foreign m c text h = rw h refl

pub begins_lower : (kind : TextKind) (foreign : Bool) (m : Machine) (c : ℕ) (text : List ℕ) → is_ascii_lowercase c ≡ true →
    taken foreign m (c ∷ text) (entries (open_state kind)) ≡ taking (NewTag Ending ∷ []) (Reconsume (name_state kind)) (c ∷ [])
unfolding taken entries
begins_lower Rcdata foreign m c text h = rw (lower_is_no_upper c h, h) refl
begins_lower Rawtext foreign m c text h = rw (lower_is_no_upper c h, h) refl
begins_lower Script foreign m c text h = rw (lower_is_no_upper c h, h) refl

pub upper_taken : (kind : TextKind) (foreign : Bool) (m : Machine) (c : ℕ) (text : List ℕ) → is_upper c ≡ true →
    taken foreign m (c ∷ text) (entries (name_state kind)) ≡ taking (Add TheTagName Lower ∷ Add Buffer Current ∷ []) Stay (c ∷ [])
unfolding taken entries
upper_taken Rcdata foreign m c text h =
    rw (other is_upper 9 c h refl, other is_upper 10 c h refl, other is_upper 12 c h refl, other is_upper 32 c h refl, other is_upper 47 c h refl, other is_upper 62 c h refl, h) refl
upper_taken Rawtext foreign m c text h =
    rw (other is_upper 9 c h refl, other is_upper 10 c h refl, other is_upper 12 c h refl, other is_upper 32 c h refl, other is_upper 47 c h refl, other is_upper 62 c h refl, h) refl
upper_taken Script foreign m c text h =
    rw (other is_upper 9 c h refl, other is_upper 10 c h refl, other is_upper 12 c h refl, other is_upper 32 c h refl, other is_upper 47 c h refl, other is_upper 62 c h refl, h) refl

pub lower_taken : (kind : TextKind) (foreign : Bool) (m : Machine) (c : ℕ) (text : List ℕ) → is_ascii_lowercase c ≡ true →
    taken foreign m (c ∷ text) (entries (name_state kind)) ≡ taking (Add TheTagName Current ∷ Add Buffer Current ∷ []) Stay (c ∷ [])
unfolding taken entries
lower_taken Rcdata foreign m c text h =
    let low : ℕ → Bool = is_ascii_lowercase in
    rw (other low 9 c h refl, other low 10 c h refl, other low 12 c h refl, other low 32 c h refl, other low 47 c h refl, other low 62 c h refl, lower_is_no_upper c h, h) refl
lower_taken Rawtext foreign m c text h =
    let low : ℕ → Bool = is_ascii_lowercase in
    rw (other low 9 c h refl, other low 10 c h refl, other low 12 c h refl, other low 32 c h refl, other low 47 c h refl, other low 62 c h refl, lower_is_no_upper c h, h) refl
lower_taken Script foreign m c text h =
    let low : ℕ → Bool = is_ascii_lowercase in
    rw (other low 9 c h refl, other low 10 c h refl, other low 12 c h refl, other low 32 c h refl, other low 47 c h refl, other low 62 c h refl, lower_is_no_upper c h, h) refl

ends_taken : (kind : TextKind) (foreign : Bool) (m : Machine) (text : List ℕ) → is_name_of m.last_start m.tag.name ≡ true →
    taken foreign m (62 ∷ text) (entries (name_state kind)) ≡ taking (EmitTag ∷ []) (Switch Data) (62 ∷ [])
unfolding taken entries
ends_taken Rcdata foreign m text h = rw h refl
ends_taken Rawtext foreign m text h = rw h refl
ends_taken Script foreign m text h = rw h refl

-- ---- machines

-- the machine behind the start tag of an element of this name
abbrev pub within : State → List ℕ → Machine → Machine
within state name m = record m { state = state; last_start = Some name }

abbrev pub end_of : List ℕ → Tag
end_of name = record { kind = Ending; name = name; attrs = []; self_closing = false }

-- it has read `</` and then letters: those in the buffer, in lower case those in the tag
abbrev pub naming : TextKind → List ℕ → List ℕ → List ℕ → Machine → Machine
naming kind name low buffer m = record m { state = name_state kind; tag = end_of low; buffer = buffer; last_start = Some name }

-- `<`, `/`, and the first letter, which stays
pub opens : (f : Feedback) (kind : TextKind) (name : List ℕ) (c : ℕ) → is_ascii_lowercase c ≡ true → (m : Machine) (rest : List ℕ) (seen : List Token) →
    Reads f (reader (within (state_of kind) name m) (60 ∷ 47 ∷ c ∷ rest) seen) (reader (naming kind name [] [] m) (c ∷ rest) seen)
opens f kind name c h m rest seen =
    let one : Reads f (reader (within (state_of kind) name m) (60 ∷ 47 ∷ c ∷ rest) seen) (reader (within (less_state kind) name m) (47 ∷ c ∷ rest) seen) =
    silent (taking [] (Switch (less_state kind)) (60 ∷ [])) (less_taken kind (f.in_foreign seen) (within (state_of kind) name m) (47 ∷ c ∷ rest)) refl refl in
    let opened : Machine = record m { state = open_state kind; buffer = []; last_start = Some name } in
    let two : Reads f (reader (within (less_state kind) name m) (47 ∷ c ∷ rest) seen) (reader opened (c ∷ rest) seen) =
    silent (taking (SetEmpty Buffer ∷ []) (Switch (open_state kind)) (47 ∷ [])) (slash_taken kind (f.in_foreign seen) (within (less_state kind) name m) (c ∷ rest)) refl refl in
    let three : Reads f (reader opened (c ∷ rest) seen) (reader (naming kind name [] [] m) (c ∷ rest) seen) =
    silent (taking (NewTag Ending ∷ []) (Reconsume (name_state kind)) (c ∷ [])) (begins_lower kind (f.in_foreign seen) opened c rest h) refl refl in
    go_on one (go_on two three)

letters_read : (f : Feedback) (kind : TextKind) (name before letters : List ℕ) → list_all is_ascii_lowercase letters ≡ true → (m : Machine) (rest : List ℕ) (seen : List Token) →
    Reads f (reader (naming kind name before before m) (letters ++ rest) seen) (reader (naming kind name (before ++ letters) (before ++ letters) m) rest seen)
letters_read f kind name before [] h m rest seen = rw (append-nil before) here
letters_read f kind name before (c ∷ letters) h m rest seen =
    let parts : (is_ascii_lowercase c ≡ true) × (list_all is_ascii_lowercase letters ≡ true) = and_parts (is_ascii_lowercase c) (list_all is_ascii_lowercase letters) h in
    let more : List ℕ = before ++ c ∷ [] in
    let first : Reads f (reader (naming kind name before before m) (c ∷ (letters ++ rest)) seen) (reader (naming kind name more more m) (letters ++ rest) seen) =
    silent (taking (Add TheTagName Current ∷ Add Buffer Current ∷ []) Stay (c ∷ [])) (lower_taken kind (f.in_foreign seen) (naming kind name before before m) c (letters ++ rest) parts.0) refl refl in
    subst (λ n. Reads f (reader (naming kind name before before m) (c ∷ (letters ++ rest)) seen) (reader (naming kind name n n m) rest seen)) (append_assoc before (c ∷ []) letters)
    (go_on first (letters_read f kind name more letters parts.1 m rest seen))

pub same_as_itself : (name : List ℕ) → bytes_eq name name ≡ true
same_as_itself [] = refl
same_as_itself (c ∷ name) = both_true (eq-eqb c c refl) (same_as_itself name)

-- the end tag, from the state of the text to the data state
pub own_end_read : (f : Feedback) → IsFeedback f → (kind : TextKind) (name : List ℕ) → is_letter_name name ≡ true → (m : Machine) (rest : List ℕ) (seen : List Token) →
    (n : Machine) × Reads f (reader (within (state_of kind) name m) (written_end name ++ rest) seen) (reader (at_state n Data) rest (seen ++ AnEnd name ∷ []))
own_end_read f honest kind [] h = cc
own_end_read f honest kind (c ∷ name) h = λ m rest seen.
    let whole : List ℕ = c ∷ name in
    let parts : (is_ascii_lowercase c ≡ true) × (list_all is_ascii_lowercase name ≡ true) = and_parts (is_ascii_lowercase c) (list_all is_ascii_lowercase name) h in
    let first : Reads f (reader (within (state_of kind) whole m) (60 ∷ 47 ∷ c ∷ (name ++ 62 ∷ rest)) seen) (reader (naming kind whole [] [] m) (c ∷ (name ++ 62 ∷ rest)) seen) =
    opens f kind whole c parts.0 m (name ++ 62 ∷ rest) seen in
    let letters : Reads f (reader (naming kind whole [] [] m) (c ∷ (name ++ 62 ∷ rest)) seen) (reader (naming kind whole whole whole m) (62 ∷ rest) seen) =
    letters_read f kind whole [] whole h m (62 ∷ rest) seen in
    let last : Reads f (reader (naming kind whole whole whole m) (62 ∷ rest) seen) (reader (at_state (naming kind whole whole whole m) Data) rest (seen ++ AnEnd whole ∷ [])) =
    loud honest (taking (EmitTag ∷ []) (Switch Data) (62 ∷ [])) (AnEnd whole) (ends_taken kind (f.in_foreign seen) (naming kind whole whole whole m) rest (same_as_itself whole)) refl refl refl in (
      naming kind whole whole whole m,
      subst (λ text. Reads f (reader (within (state_of kind) whole m) (60 ∷ 47 ∷ c ∷ text) seen) (reader (at_state (naming kind whole whole whole m) Data) rest (seen ++ AnEnd whole ∷ [])))
          (sym (append_assoc name (62 ∷ []) rest)) (go_on first (go_on letters last)),
    )

lowers_are_names : (name : List ℕ) → list_all is_ascii_lowercase name ≡ true → list_all is_name_char name ≡ true
lowers_are_names [] h = refl
lowers_are_names (c ∷ name) h =
    let parts : (is_ascii_lowercase c ≡ true) × (list_all is_ascii_lowercase name ≡ true) = and_parts (is_ascii_lowercase c) (list_all is_ascii_lowercase name) h in
    both_true (lower_is_name_char c parts.0) (lowers_are_names name parts.1)

pub letter_name_is_tag_name : (name : List ℕ) → is_letter_name name ≡ true → is_tag_name name ≡ true
letter_name_is_tag_name [] h = cc
letter_name_is_tag_name (c ∷ name) h =
    let parts : (is_ascii_lowercase c ≡ true) × (list_all is_ascii_lowercase name ≡ true) = and_parts (is_ascii_lowercase c) (list_all is_ascii_lowercase name) h in
    both_true parts.0 (lowers_are_names name parts.1)
