-- Doctypes with a name alone, that are spelled in any way, as the tokenizer reads them.
use Rattle.std.specs.Prelude.{◌≡◌, ℕ, Bool, true, false, ◌==◌, ◌&&◌, List, [], ◌∷◌, ◌++◌, drop, length, take, None, Some, bytes_eq, codes, refl}
use Rattle.std.proofs.Common.{inl, inr}
use Rattle.std.specs.Char.{to_ascii_lowercase}
use Rattle.std.specs.Cmp.Derive.{both_true}
use Rattle.std.specs.List.{list_all, starts_with}
use Rattle.std.proofs.lemmas.Bool.{and_parts, cases_Bool, eq-eqb, ne_eqb, true≢false}
use Rattle.std.proofs.lemmas.List.{append-nil, append_assoc}
use Rattle.std.proofs.lemmas.Slice.Eq.{bytes_eq-Decides}
use Rattle.std.proofs.Math.Seq.{drop-append_seam}
use mathlib.Core.Path.{◌∙◌, sym, ap, subst}
use Rattle.dom_markup.proofs.grammar.Doctypes.{first_same}
use Rattle.standard_tokens.proofs.Steps.{go_on, loud, other, silent, taking}
use Rattle.standard_tokens.specs.Entries.{Current, Lower, Stay, Switch, NewDoctype, Add, DoctypeName, EmitDoctype}
use Rattle.standard_tokens.specs.Machine.{Machine, at_state, same_case_less, taken}
use Rattle.standard_tokens.specs.Reading.{Feedback, IsFeedback, Reads, here, reader}
use Rattle.standard_tokens.specs.States.{Data, TagOpen, MarkupDeclarationOpen, DOCTYPEState, BeforeDOCTYPEName, DOCTYPEName, AfterDOCTYPEName}
use Rattle.standard_tokens.specs.Table.{entries}
use Rattle.standard_tokens.specs.Tokens.{Doctype, Token, ADoctype}
use Rattle.standard_laws.specs.SpelledLaws.{SpelledDoctypesAreRead}
use Rattle.standard_laws.specs.SpelledMarkup.{doctype_token, is_gap_char, is_spelled_char, is_spelled_name, lowered}
use Rattle.standard_laws.proofs.SpelledNames.{GapGoes, by_gap, is_upper, stays_low}

-- ---- the word in any case

record AnyCaseOf (word upper text : List ℕ) : Type 0 where
  pub begins : starts_with same_case_less (word ++ text) upper ≡ true
  pub takes : take (length upper) (word ++ text) ≡ word

same_case : (c d : ℕ) → to_ascii_lowercase c ≡ to_ascii_lowercase d → same_case_less d c ≡ true
same_case c d h = eq-eqb (to_ascii_lowercase d) (to_ascii_lowercase c) (sym h)

any_case : (word upper text : List ℕ) → lowered word ≡ lowered upper → AnyCaseOf word upper text
any_case [] [] text h = record { begins = refl; takes = refl }
any_case [] (d ∷ upper) text h = cc
any_case (c ∷ word) [] text h = cc
any_case (c ∷ word) (d ∷ upper) text h =
    let parts : (to_ascii_lowercase c ≡ to_ascii_lowercase d) × (lowered word ≡ lowered upper) = first_same (to_ascii_lowercase c) (to_ascii_lowercase d) (lowered word) (lowered upper) h in
    let more : AnyCaseOf word upper text = any_case word upper text parts.1 in
    record { begins = both_true (same_case c d parts.0) more.begins; takes = ap (λ cs. c ∷ cs) more.takes }

is_small_d : ℕ → Bool
is_small_d c = to_ascii_lowercase c == 100

no_dash : (c : ℕ) → to_ascii_lowercase c ≡ 100 → (45 == c) ≡ false
unfolding is_small_d
no_dash c h = ne_eqb 45 c (λ e. true≢false (sym (eq-eqb (to_ascii_lowercase c) 100 h) ∙ ap is_small_d (sym e)))

word_taken : (foreign : Bool) (m : Machine) (word text : List ℕ) → lowered word ≡ codes "doctype" →
    taken foreign m (word ++ text) (entries MarkupDeclarationOpen) ≡ taking [] (Switch DOCTYPEState) word
unfolding taken entries
word_taken foreign m [] text h = cc
word_taken foreign m (c ∷ word) text h =
    let first : to_ascii_lowercase c ≡ 100 = (first_same (to_ascii_lowercase c) 100 (lowered word) (codes "octype") h).0 in
    let is : AnyCaseOf (c ∷ word) (codes "DOCTYPE") text = any_case (c ∷ word) (codes "DOCTYPE") text h in
    rw (no_dash c first, is.begins) (ap (taking [] (Switch DOCTYPEState)) is.takes)

-- ---- the name

abbrev named_doctype : List ℕ → Doctype
named_doctype name = record { name = Some name; public_id = None; system_id = None; force_quirks = false }

abbrev in_name : Machine → List ℕ → Machine
in_name m name = record m { state = DOCTYPEName; doctype = named_doctype name }

abbrev behind_name : Machine → List ℕ → Machine
behind_name m name = record m { state = AfterDOCTYPEName; doctype = named_doctype name }

before_gap : GapGoes BeforeDOCTYPEName Stay
unfolding taken entries
before_gap foreign m c text h = by_gap (λ c. taken foreign m (c ∷ text) (entries BeforeDOCTYPEName) ≡ taking [] Stay (c ∷ [])) refl refl refl refl c h

word_gap : GapGoes DOCTYPEState (Switch BeforeDOCTYPEName)
unfolding taken entries
word_gap foreign m c text h = by_gap (λ c. taken foreign m (c ∷ text) (entries DOCTYPEState) ≡ taking [] (Switch BeforeDOCTYPEName) (c ∷ [])) refl refl refl refl c h

name_gap : GapGoes DOCTYPEName (Switch AfterDOCTYPEName)
unfolding taken entries
name_gap foreign m c text h = by_gap (λ c. taken foreign m (c ∷ text) (entries DOCTYPEName) ≡ taking [] (Switch AfterDOCTYPEName) (c ∷ [])) refl refl refl refl c h

after_gap : GapGoes AfterDOCTYPEName Stay
unfolding taken entries
after_gap foreign m c text h = by_gap (λ c. taken foreign m (c ∷ text) (entries AfterDOCTYPEName) ≡ taking [] Stay (c ∷ [])) refl refl refl refl c h

first_upper : (foreign : Bool) (m : Machine) (c : ℕ) (text : List ℕ) → is_spelled_char c ≡ true → is_upper c ≡ true →
    taken foreign m (c ∷ text) (entries BeforeDOCTYPEName) ≡ taking (NewDoctype ∷ Add DoctypeName Lower ∷ []) (Switch DOCTYPEName) (c ∷ [])
unfolding taken entries
first_upper foreign m c text h u =
    rw (other is_spelled_char 9 c h refl, other is_spelled_char 10 c h refl, other is_spelled_char 12 c h refl, other is_spelled_char 32 c h refl, u) refl

first_lower : (foreign : Bool) (m : Machine) (c : ℕ) (text : List ℕ) → is_spelled_char c ≡ true → is_upper c ≡ false →
    taken foreign m (c ∷ text) (entries BeforeDOCTYPEName) ≡ taking (NewDoctype ∷ Add DoctypeName Current ∷ []) (Switch DOCTYPEName) (c ∷ [])
unfolding taken entries
first_lower foreign m c text h u =
    rw (
      other is_spelled_char 9 c h refl,
      other is_spelled_char 10 c h refl,
      other is_spelled_char 12 c h refl,
      other is_spelled_char 32 c h refl,
      u,
      other is_spelled_char 0 c h refl,
      other is_spelled_char 62 c h refl,
    ) refl

later_upper : (foreign : Bool) (m : Machine) (c : ℕ) (text : List ℕ) → is_spelled_char c ≡ true → is_upper c ≡ true →
    taken foreign m (c ∷ text) (entries DOCTYPEName) ≡ taking (Add DoctypeName Lower ∷ []) Stay (c ∷ [])
unfolding taken entries
later_upper foreign m c text h u =
    rw (
      other is_spelled_char 9 c h refl,
      other is_spelled_char 10 c h refl,
      other is_spelled_char 12 c h refl,
      other is_spelled_char 32 c h refl,
      other is_spelled_char 62 c h refl,
      u,
    ) refl

later_lower : (foreign : Bool) (m : Machine) (c : ℕ) (text : List ℕ) → is_spelled_char c ≡ true → is_upper c ≡ false →
    taken foreign m (c ∷ text) (entries DOCTYPEName) ≡ taking (Add DoctypeName Current ∷ []) Stay (c ∷ [])
unfolding taken entries
later_lower foreign m c text h u =
    rw (
      other is_spelled_char 9 c h refl,
      other is_spelled_char 10 c h refl,
      other is_spelled_char 12 c h refl,
      other is_spelled_char 32 c h refl,
      other is_spelled_char 62 c h refl,
      u,
      other is_spelled_char 0 c h refl,
    ) refl

first_step : (f : Feedback) (m : Machine) (c : ℕ) (rest : List ℕ) (seen : List Token) → is_spelled_char c ≡ true →
    Reads f (reader (at_state m BeforeDOCTYPEName) (c ∷ rest) seen) (reader (in_name m (to_ascii_lowercase c ∷ [])) rest seen)
first_step f m c rest seen h = elim (cases_Bool (is_upper c)) [
  | inl u ↦ silent (taking (NewDoctype ∷ Add DoctypeName Lower ∷ []) (Switch DOCTYPEName) (c ∷ [])) (first_upper (f.in_foreign seen) (at_state m BeforeDOCTYPEName) c rest h u) refl refl
  | inr l ↦ subst (λ d. Reads f (reader (at_state m BeforeDOCTYPEName) (c ∷ rest) seen) (reader (in_name m (d ∷ [])) rest seen)) (sym (stays_low c l))
      (silent (taking (NewDoctype ∷ Add DoctypeName Current ∷ []) (Switch DOCTYPEName) (c ∷ [])) (first_lower (f.in_foreign seen) (at_state m BeforeDOCTYPEName) c rest h l) refl refl)
]

later_step : (f : Feedback) (m : Machine) (before : List ℕ) (c : ℕ) (rest : List ℕ) (seen : List Token) → is_spelled_char c ≡ true →
    Reads f (reader (in_name m before) (c ∷ rest) seen) (reader (in_name m (before ++ to_ascii_lowercase c ∷ [])) rest seen)
later_step f m before c rest seen h = elim (cases_Bool (is_upper c)) [
  | inl u ↦ silent (taking (Add DoctypeName Lower ∷ []) Stay (c ∷ [])) (later_upper (f.in_foreign seen) (in_name m before) c rest h u) refl refl
  | inr l ↦ subst (λ d. Reads f (reader (in_name m before) (c ∷ rest) seen) (reader (in_name m (before ++ d ∷ [])) rest seen)) (sym (stays_low c l))
      (silent (taking (Add DoctypeName Current ∷ []) Stay (c ∷ [])) (later_lower (f.in_foreign seen) (in_name m before) c rest h l) refl refl)
]

name_read : (f : Feedback) (m : Machine) (before name rest : List ℕ) (seen : List Token) → list_all is_spelled_char name ≡ true →
    Reads f (reader (in_name m before) (name ++ rest) seen) (reader (in_name m (before ++ lowered name)) rest seen)
name_read f m before [] rest seen h = rw (append-nil before) here
name_read f m before (c ∷ name) rest seen h =
    let parts : (is_spelled_char c ≡ true) × (list_all is_spelled_char name ≡ true) = and_parts (is_spelled_char c) (list_all is_spelled_char name) h in
    subst (λ n. Reads f (reader (in_name m before) (c ∷ (name ++ rest)) seen) (reader (in_name m n) rest seen)) (append_assoc before (to_ascii_lowercase c ∷ []) (lowered name))
    (go_on (later_step f m before c (name ++ rest) seen parts.0) (name_read f m (before ++ to_ascii_lowercase c ∷ []) name rest seen parts.1))

whole_name : (f : Feedback) (m : Machine) (name rest : List ℕ) (seen : List Token) → is_spelled_name name ≡ true →
    Reads f (reader (at_state m BeforeDOCTYPEName) (name ++ rest) seen) (reader (in_name m (lowered name)) rest seen)
whole_name f m [] rest seen h = cc
whole_name f m (c ∷ name) rest seen h =
    let parts : (is_spelled_char c ≡ true) × (list_all is_spelled_char name ≡ true) = and_parts (is_spelled_char c) (list_all is_spelled_char name) h in
    go_on (first_step f m c (name ++ rest) seen parts.0) (name_read f m (to_ascii_lowercase c ∷ []) name rest seen parts.1)

-- ---- white space

before_spaces : (f : Feedback) (m : Machine) (space rest : List ℕ) (seen : List Token) → list_all is_gap_char space ≡ true →
    Reads f (reader (at_state m BeforeDOCTYPEName) (space ++ rest) seen) (reader (at_state m BeforeDOCTYPEName) rest seen)
before_spaces f m [] rest seen h = here
before_spaces f m (c ∷ space) rest seen h =
    let parts : (is_gap_char c ≡ true) × (list_all is_gap_char space ≡ true) = and_parts (is_gap_char c) (list_all is_gap_char space) h in
    go_on (silent (taking [] Stay (c ∷ [])) (before_gap (f.in_foreign seen) (at_state m BeforeDOCTYPEName) c (space ++ rest) parts.0) refl refl) (before_spaces f m space rest seen parts.1)

after_spaces : (f : Feedback) (m : Machine) (name space rest : List ℕ) (seen : List Token) → list_all is_gap_char space ≡ true →
    Reads f (reader (behind_name m name) (space ++ rest) seen) (reader (behind_name m name) rest seen)
after_spaces f m name [] rest seen h = here
after_spaces f m name (c ∷ space) rest seen h =
    let parts : (is_gap_char c ≡ true) × (list_all is_gap_char space ≡ true) = and_parts (is_gap_char c) (list_all is_gap_char space) h in
    go_on (silent (taking [] Stay (c ∷ [])) (after_gap (f.in_foreign seen) (behind_name m name) c (space ++ rest) parts.0) refl refl) (after_spaces f m name space rest seen parts.1)

closes : (f : Feedback) → IsFeedback f → (m : Machine) (name space rest : List ℕ) (seen : List Token) → list_all is_gap_char space ≡ true →
    Reads f (reader (in_name m name) (space ++ (62 ∷ rest)) seen) (reader (at_state (in_name m name) Data) rest (seen ++ ADoctype (named_doctype name) ∷ []))
unfolding taken entries
closes f honest m name [] rest seen h = loud honest (taking (EmitDoctype ∷ []) (Switch Data) (62 ∷ [])) (ADoctype (named_doctype name)) refl refl refl refl
closes f honest m name (c ∷ space) rest seen h =
    let parts : (is_gap_char c ≡ true) × (list_all is_gap_char space ≡ true) = and_parts (is_gap_char c) (list_all is_gap_char space) h in
    let first : Reads f (reader (in_name m name) (c ∷ (space ++ (62 ∷ rest))) seen) (reader (behind_name m name) (space ++ (62 ∷ rest)) seen) =
    silent (taking [] (Switch AfterDOCTYPEName) (c ∷ [])) (name_gap (f.in_foreign seen) (in_name m name) c (space ++ (62 ∷ rest)) parts.0) refl refl in
    let last : Reads f (reader (behind_name m name) (62 ∷ rest) seen) (reader (at_state (in_name m name) Data) rest (seen ++ ADoctype (named_doctype name) ∷ [])) =
    loud honest (taking (EmitDoctype ∷ []) (Switch Data) (62 ∷ [])) (ADoctype (named_doctype name)) refl refl refl refl in
    go_on first (go_on (after_spaces f m name space (62 ∷ rest) seen parts.1) last)

-- ---- whole doctypes

opens : (f : Feedback) (m : Machine) (word text : List ℕ) (seen : List Token) → lowered word ≡ codes "doctype" →
    Reads f (reader (at_state m Data) (60 ∷ 33 ∷ (word ++ text)) seen) (reader (at_state m DOCTYPEState) text seen)
unfolding taken entries
opens f m word text seen h =
    let one : Reads f (reader (at_state m Data) (60 ∷ 33 ∷ (word ++ text)) seen) (reader (at_state m TagOpen) (33 ∷ (word ++ text)) seen) =
    silent (taking [] (Switch TagOpen) (60 ∷ [])) refl refl refl in
    let two : Reads f (reader (at_state m TagOpen) (33 ∷ (word ++ text)) seen) (reader (at_state m MarkupDeclarationOpen) (word ++ text) seen) =
    silent (taking [] (Switch MarkupDeclarationOpen) (33 ∷ [])) refl refl refl in
    let three : Reads f (reader (at_state m MarkupDeclarationOpen) (word ++ text) seen) (reader (at_state m DOCTYPEState) (drop (length word) (word ++ text)) seen) =
    silent (taking [] (Switch DOCTYPEState) word) (word_taken (f.in_foreign seen) (at_state m MarkupDeclarationOpen) word text h) refl refl in
    go_on one (go_on two (subst (λ t. Reads f (reader (at_state m MarkupDeclarationOpen) (word ++ text) seen) (reader (at_state m DOCTYPEState) t seen)) (drop-append_seam word text) three))

pub doctypes_read : SpelledDoctypesAreRead
doctypes_read f honest seen d h before rest =
    let end : List ℕ = d.close ++ (62 ∷ rest) in
    let named : List ℕ = d.name ++ end in
    let spaced : List ℕ = d.gap ∷ (d.space ++ named) in
    let word : Bool = bytes_eq (lowered d.word) (codes "doctype") in
    let gap : Bool = is_gap_char d.gap && list_all is_gap_char d.space in
    let name : Bool = is_spelled_name d.name && list_all is_gap_char d.close in
    let one : (word ≡ true) × ((gap && name) ≡ true) = and_parts word (gap && name) h in
    let two : (gap ≡ true) × (name ≡ true) = and_parts gap name one.1 in
    let gaps : (is_gap_char d.gap ≡ true) × (list_all is_gap_char d.space ≡ true) = and_parts (is_gap_char d.gap) (list_all is_gap_char d.space) two.0 in
    let names : (is_spelled_name d.name ≡ true) × (list_all is_gap_char d.close ≡ true) = and_parts (is_spelled_name d.name) (list_all is_gap_char d.close) two.1 in
    let is : lowered d.word ≡ codes "doctype" = (bytes_eq-Decides (lowered d.word) (codes "doctype")).0 one.0 in
    let a : Reads f (reader (at_state before Data) (60 ∷ 33 ∷ (d.word ++ spaced)) seen) (reader (at_state before DOCTYPEState) spaced seen) = opens f before d.word spaced seen is in
    let b : Reads f (reader (at_state before DOCTYPEState) spaced seen) (reader (at_state before BeforeDOCTYPEName) (d.space ++ named) seen) =
    silent (taking [] (Switch BeforeDOCTYPEName) (d.gap ∷ [])) (word_gap (f.in_foreign seen) (at_state before DOCTYPEState) d.gap (d.space ++ named) gaps.0) refl refl in
    let c : Reads f (reader (at_state before BeforeDOCTYPEName) named seen) (reader (in_name before (lowered d.name)) end seen) = whole_name f before d.name end seen names.0 in
    let all : Reads f (reader (at_state before Data) (60 ∷ 33 ∷ (d.word ++ spaced)) seen) (reader (at_state (in_name before (lowered d.name)) Data) rest (seen ++ doctype_token d ∷ [])) =
    go_on a (go_on b (go_on (before_spaces f before d.space named seen gaps.1) (go_on c (closes f honest before (lowered d.name) d.close rest seen names.1)))) in
    let same : (d.word ++ (d.gap ∷ (d.space ++ (d.name ++ (d.close ++ 62 ∷ []))))) ++ rest ≡ d.word ++ spaced =
    append_assoc d.word (d.gap ∷ (d.space ++ (d.name ++ (d.close ++ 62 ∷ [])))) rest
    ∙ ap (λ t. d.word ++ (d.gap ∷ t)) (append_assoc d.space (d.name ++ (d.close ++ 62 ∷ [])) rest
    ∙ ap (λ t. d.space ++ t) (append_assoc d.name (d.close ++ 62 ∷ []) rest ∙ ap (λ t. d.name ++ t) (append_assoc d.close (62 ∷ []) rest))) in
    (in_name before (lowered d.name), subst (λ t. Reads f (reader (at_state before Data) (60 ∷ 33 ∷ t) seen) (reader (at_state (in_name before (lowered d.name)) Data) rest (seen ++ doctype_token d ∷ []))) (sym same) all)
