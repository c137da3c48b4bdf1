-- Doctypes with a name alone, as the tokenizer reads them.
use Rattle.std.specs.Prelude.{◌≡◌, ℕ, Bool, true, false, List, [], ◌∷◌, ◌++◌, None, Some, codes, refl}
use Rattle.std.specs.List.{list_all}
use Rattle.std.proofs.lemmas.Bool.{and_parts}
use Rattle.std.proofs.lemmas.List.{append-nil, append_assoc}
use mathlib.Core.Path.{sym, subst}
use Rattle.standard_tokens.proofs.PlainParts.{IsRead}
use Rattle.standard_tokens.proofs.PlainTags.{name_char_is_no_upper}
use Rattle.standard_tokens.proofs.Steps.{go_on, loud, other, silent, taking}
use Rattle.standard_tokens.specs.Entries.{Current, Stay, Switch, NewDoctype, Add, DoctypeName, EmitDoctype}
use Rattle.standard_tokens.specs.Machine.{Machine, at_state, taken}
use Rattle.standard_tokens.specs.PlainMarkup.{is_name, is_name_char}
use Rattle.standard_tokens.specs.Reading.{Feedback, IsFeedback, Reads, here, reader}
use Rattle.standard_tokens.specs.States.{Data, TagOpen, MarkupDeclarationOpen, DOCTYPEState, BeforeDOCTYPEName, DOCTYPEName}
use Rattle.standard_tokens.specs.Table.{entries}
use Rattle.standard_tokens.specs.Tokens.{Doctype, Token, ADoctype}

abbrev named_doctype : List ℕ → Doctype
named_doctype name = record { name = Some name; public_id = None; system_id = None; force_quirks = false }

abbrev in_name : Machine → List ℕ → Machine
in_name m name = record m { state = DOCTYPEName; doctype = named_doctype name }

first_taken : (foreign : Bool) (m : Machine) (c : ℕ) (text : List ℕ) → is_name_char c ≡ true →
    taken foreign m (c ∷ text) (entries BeforeDOCTYPEName) ≡ taking (NewDoctype ∷ Add DoctypeName Current ∷ []) (Switch DOCTYPEName) (c ∷ [])
unfolding taken entries
first_taken foreign m c text h =
    rw (
      other is_name_char 9 c h refl,
      other is_name_char 10 c h refl,
      other is_name_char 12 c h refl,
      other is_name_char 32 c h refl,
      name_char_is_no_upper c h,
      other is_name_char 0 c h refl,
      other is_name_char 62 c h refl,
    ) refl

later_taken : (foreign : Bool) (m : Machine) (c : ℕ) (text : List ℕ) → is_name_char c ≡ true →
    taken foreign m (c ∷ text) (entries DOCTYPEName) ≡ taking (Add DoctypeName Current ∷ []) Stay (c ∷ [])
unfolding taken entries
later_taken foreign m c text h =
    rw (
      other is_name_char 9 c h refl,
      other is_name_char 10 c h refl,
      other is_name_char 12 c h refl,
      other is_name_char 32 c h refl,
      other is_name_char 62 c h refl,
      name_char_is_no_upper c h,
      other is_name_char 0 c h refl,
    ) refl

name_read : (f : Feedback) (m : Machine) (before name rest : List ℕ) (seen : List Token) → list_all is_name_char name ≡ true →
    Reads f (reader (in_name m before) (name ++ rest) seen) (reader (in_name m (before ++ name)) rest seen)
name_read f m before [] rest seen h = rw (append-nil before) here
name_read f m before (c ∷ name) rest seen h =
    let parts : (is_name_char c ≡ true) × (list_all is_name_char name ≡ true) = and_parts (is_name_char c) (list_all is_name_char name) h in
    let first : Reads f (reader (in_name m before) (c ∷ (name ++ rest)) seen) (reader (in_name m (before ++ c ∷ [])) (name ++ rest) seen) =
    silent (taking (Add DoctypeName Current ∷ []) Stay (c ∷ [])) (later_taken (f.in_foreign seen) (in_name m before) c (name ++ rest) parts.0) refl refl in
    subst (λ n. Reads f (reader (in_name m before) (c ∷ (name ++ rest)) seen) (reader (in_name m n) rest seen)) (append_assoc before (c ∷ []) name)
    (go_on first (name_read f m (before ++ c ∷ []) name rest seen parts.1))

-- `<!DOCTYPE ` and the first character of the name
opens : (f : Feedback) (m : Machine) (c : ℕ) (rest : List ℕ) (seen : List Token) → is_name_char c ≡ true →
    Reads f (reader (at_state m Data) (codes "<!DOCTYPE " ++ (c ∷ rest)) seen) (reader (in_name m (c ∷ [])) rest seen)
unfolding taken entries
opens f m c rest seen h =
    let one : Reads f (reader (at_state m Data) (codes "<!DOCTYPE " ++ (c ∷ rest)) seen) (reader (at_state m TagOpen) (codes "!DOCTYPE " ++ (c ∷ rest)) seen) =
    silent (taking [] (Switch TagOpen) (60 ∷ [])) refl refl refl in
    let two : Reads f (reader (at_state m TagOpen) (codes "!DOCTYPE " ++ (c ∷ rest)) seen) (reader (at_state m MarkupDeclarationOpen) (codes "DOCTYPE " ++ (c ∷ rest)) seen) =
    silent (taking [] (Switch MarkupDeclarationOpen) (33 ∷ [])) refl refl refl in
    let three : Reads f (reader (at_state m MarkupDeclarationOpen) (codes "DOCTYPE " ++ (c ∷ rest)) seen) (reader (at_state m DOCTYPEState) (32 ∷ c ∷ rest) seen) =
    silent (taking [] (Switch DOCTYPEState) (codes "DOCTYPE")) refl refl refl in
    let four : Reads f (reader (at_state m DOCTYPEState) (32 ∷ c ∷ rest) seen) (reader (at_state m BeforeDOCTYPEName) (c ∷ rest) seen) =
    silent (taking [] (Switch BeforeDOCTYPEName) (32 ∷ [])) refl refl refl in
    let five : Reads f (reader (at_state m BeforeDOCTYPEName) (c ∷ rest) seen) (reader (in_name m (c ∷ [])) rest seen) =
    silent (taking (NewDoctype ∷ Add DoctypeName Current ∷ []) (Switch DOCTYPEName) (c ∷ [])) (first_taken (f.in_foreign seen) (at_state m BeforeDOCTYPEName) c rest h) refl refl in
    go_on one (go_on two (go_on three (go_on four five)))

closes : (f : Feedback) → IsFeedback f → (m : Machine) (name rest : List ℕ) (seen : List Token) →
    Reads f (reader (in_name m name) (62 ∷ rest) seen) (reader (at_state (in_name m name) Data) rest (seen ++ ADoctype (named_doctype name) ∷ []))
unfolding taken entries
closes f honest m name rest seen = loud honest (taking (EmitDoctype ∷ []) (Switch Data) (62 ∷ [])) (ADoctype (named_doctype name)) refl refl refl refl

pub doctype_read : (f : Feedback) → IsFeedback f → (name : List ℕ) → is_name name ≡ true → IsRead f (codes "<!DOCTYPE " ++ (name ++ codes ">")) (ADoctype (named_doctype name) ∷ [])
doctype_read f honest [] h = cc
doctype_read f honest (c ∷ name) h = λ m rest seen.
    let parts : (is_name_char c ≡ true) × (list_all is_name_char name ≡ true) = and_parts (is_name_char c) (list_all is_name_char name) h in
    let whole : List ℕ = c ∷ name in
    let first : Reads f (reader (at_state m Data) (codes "<!DOCTYPE " ++ (c ∷ (name ++ 62 ∷ rest))) seen) (reader (in_name m (c ∷ [])) (name ++ 62 ∷ rest) seen) =
    opens f m c (name ++ 62 ∷ rest) seen parts.0 in
    let more : Reads f (reader (in_name m (c ∷ [])) (name ++ 62 ∷ rest) seen) (reader (in_name m whole) (62 ∷ rest) seen) = name_read f m (c ∷ []) name (62 ∷ rest) seen parts.1 in
    let all : Reads f (reader (at_state m Data) (codes "<!DOCTYPE " ++ (c ∷ (name ++ 62 ∷ rest))) seen) (reader (at_state (in_name m whole) Data) rest (seen ++ ADoctype (named_doctype whole) ∷ [])) =
    go_on first (go_on more (closes f honest m whole rest seen)) in
    (in_name m whole, subst (λ text. Reads f (reader (at_state m Data) (codes "<!DOCTYPE " ++ (c ∷ text)) seen) (reader (at_state (in_name m whole) Data) rest (seen ++ ADoctype (named_doctype whole) ∷ []))) (sym (append_assoc name (62 ∷ []) rest)) all)
