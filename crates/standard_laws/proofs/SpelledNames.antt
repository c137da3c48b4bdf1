-- Names in any case, and white space in tags, as the tokenizer reads them.
use Rattle.std.specs.Prelude.{◌≡◌, ℕ, Bool, true, false, ◌==◌, ◌&&◌, nat_le, List, [], ◌∷◌, ◌++◌, refl}
use Rattle.std.proofs.Common.{inl, inr}
use Rattle.std.specs.Char.{is_ascii_lowercase, to_ascii_lowercase}
use Rattle.std.specs.List.{list_all}
use Rattle.std.proofs.lemmas.Bool.{and_parts, cases_Bool, eqb-true, true≢false}
use Rattle.std.proofs.lemmas.List.{append-nil, append_assoc}
use mathlib.Core.Path.{◌∙◌, sym, subst}
use native.Mathlib.Omega.{arith}
use Rattle.dom_markup.specs.Bytes.{is_letter}
use Rattle.standard_tokens.proofs.PlainTags.{at_attr, fresh, lower_is_name_char, named, tagging}
use Rattle.standard_tokens.proofs.Steps.{go_on, other, silent, taking}
use Rattle.standard_tokens.specs.Entries.{Current, Lower, Stay, Switch, Reconsume, Add, NewTag, NewAttr, TheTagName, AttrName}
use Rattle.standard_tokens.specs.Entries.{Then, Starting, Ending}
use Rattle.standard_tokens.specs.Machine.{Machine, Tag, at_state, taken}
use Rattle.standard_tokens.specs.Reading.{Feedback, Reads, here, reader}
use Rattle.standard_tokens.specs.States.{State, Data, TagOpen, EndTagOpen, TagName, BeforeAttributeName, AttributeName, AfterAttributeName}
use Rattle.standard_tokens.specs.States.{BeforeAttributeValue, AttributeValueUnquoted, AfterAttributeValueQuoted}
use Rattle.standard_tokens.specs.Table.{entries}
use Rattle.standard_tokens.specs.Tokens.{Token}
use Rattle.standard_laws.specs.SpelledMarkup.{is_gap_char, is_spelled_char, is_spelled_name, lowered}

-- the text is read up to the rest, with no token: from one state and tag to others
abbrev pub Goes : Feedback → List Token → State → Tag → List ℕ → State → Tag → List ℕ → Type 0
Goes f seen s x text t y rest = (m : Machine) → (n : Machine) × Reads f (reader (tagging m s x) text seen) (reader (tagging n t y) rest seen)

pub goes_on : (f : Feedback) (seen : List Token) (s t u : State) (x y z : Tag) (a b c : List ℕ) → Goes f seen s x a t y b → Goes f seen t y b u z c → Goes f seen s x a u z c
goes_on f seen s t u x y z a b c one two m =
    let first : (n : Machine) × Reads f (reader (tagging m s x) a seen) (reader (tagging n t y) b seen) = one m in
    let second : (n : Machine) × Reads f (reader (tagging first.0 t y) b seen) (reader (tagging n u z) c seen) = two first.0 in
    (second.0, go_on first.1 second.1)

-- ---- letters

-- a letter from A to Z
abbrev pub is_upper : ℕ → Bool
is_upper c = nat_le 65 c && nat_le c 90

pub stays_low : (c : ℕ) → is_upper c ≡ false → to_ascii_lowercase c ≡ c
stays_low c h = grind arith

pub upper_or_lower : (c : ℕ) → is_letter c ≡ true → is_upper c ≡ false → is_ascii_lowercase c ≡ true
upper_or_lower c h u = grind arith

letter_lowered : (c : ℕ) → is_letter c ≡ true → is_ascii_lowercase (to_ascii_lowercase c) ≡ true
letter_lowered c h = grind arith

pub letter_is_spelled : (c : ℕ) → is_letter c ≡ true → is_spelled_char c ≡ true
letter_is_spelled c h = lower_is_name_char (to_ascii_lowercase c) (letter_lowered c h)

-- ---- characters of names

upper_named : (foreign : Bool) (m : Machine) (c : ℕ) (text : List ℕ) → is_spelled_char c ≡ true → is_upper c ≡ true →
    taken foreign m (c ∷ text) (entries TagName) ≡ taking (Add TheTagName Lower ∷ []) Stay (c ∷ [])
unfolding taken entries
upper_named foreign m c text h u =
    rw (
      other is_spelled_char 9 c h refl,
      other is_spelled_char 10 c h refl,
      other is_spelled_char 12 c h refl,
      other is_spelled_char 32 c h refl,
      other is_spelled_char 47 c h refl,
      other is_spelled_char 62 c h refl,
      u,
    ) refl

lower_named : (foreign : Bool) (m : Machine) (c : ℕ) (text : List ℕ) → is_spelled_char c ≡ true → is_upper c ≡ false →
    taken foreign m (c ∷ text) (entries TagName) ≡ taking (Add TheTagName Current ∷ []) Stay (c ∷ [])
unfolding taken entries
lower_named foreign m c text h u =
    rw (
      other is_spelled_char 9 c h refl,
      other is_spelled_char 10 c h refl,
      other is_spelled_char 12 c h refl,
      other is_spelled_char 32 c h refl,
      other is_spelled_char 47 c h refl,
      other is_spelled_char 62 c h refl,
      u,
      other is_spelled_char 0 c h refl,
    ) refl

upper_attr : (foreign : Bool) (m : Machine) (c : ℕ) (text : List ℕ) → is_spelled_char c ≡ true → is_upper c ≡ true →
    taken foreign m (c ∷ text) (entries AttributeName) ≡ taking (Add AttrName Lower ∷ []) Stay (c ∷ [])
unfolding taken entries
upper_attr foreign m c text h u =
    rw (
      other is_spelled_char 9 c h refl,
      other is_spelled_char 10 c h refl,
      other is_spelled_char 12 c h refl,
      other is_spelled_char 32 c h refl,
      other is_spelled_char 47 c h refl,
      other is_spelled_char 62 c h refl,
      other is_spelled_char 61 c h refl,
      u,
    ) refl

lower_attr : (foreign : Bool) (m : Machine) (c : ℕ) (text : List ℕ) → is_spelled_char c ≡ true → is_upper c ≡ false →
    taken foreign m (c ∷ text) (entries AttributeName) ≡ taking (Add AttrName Current ∷ []) Stay (c ∷ [])
unfolding taken entries
lower_attr foreign m c text h u =
    rw (
      other is_spelled_char 9 c h refl,
      other is_spelled_char 10 c h refl,
      other is_spelled_char 12 c h refl,
      other is_spelled_char 32 c h refl,
      other is_spelled_char 47 c h refl,
      other is_spelled_char 62 c h refl,
      other is_spelled_char 61 c h refl,
      u,
      other is_spelled_char 0 c h refl,
    ) refl

before_begins : (foreign : Bool) (m : Machine) (c : ℕ) (text : List ℕ) → is_spelled_char c ≡ true →
    taken foreign m (c ∷ text) (entries BeforeAttributeName) ≡ taking (NewAttr ∷ []) (Reconsume AttributeName) (c ∷ [])
unfolding taken entries
before_begins foreign m c text h =
    rw (
      other is_spelled_char 9 c h refl,
      other is_spelled_char 10 c h refl,
      other is_spelled_char 12 c h refl,
      other is_spelled_char 32 c h refl,
      other is_spelled_char 47 c h refl,
      other is_spelled_char 62 c h refl,
      other is_spelled_char 61 c h refl,
    ) refl

after_begins : (foreign : Bool) (m : Machine) (c : ℕ) (text : List ℕ) → is_spelled_char c ≡ true →
    taken foreign m (c ∷ text) (entries AfterAttributeName) ≡ taking (NewAttr ∷ []) (Reconsume AttributeName) (c ∷ [])
unfolding taken entries
after_begins foreign m c text h =
    rw (
      other is_spelled_char 9 c h refl,
      other is_spelled_char 10 c h refl,
      other is_spelled_char 12 c h refl,
      other is_spelled_char 32 c h refl,
      other is_spelled_char 47 c h refl,
      other is_spelled_char 61 c h refl,
      other is_spelled_char 62 c h refl,
    ) refl

-- ---- names

name_step : (f : Feedback) (seen : List Token) (tag : Tag) (c : ℕ) (rest : List ℕ) → is_spelled_char c ≡ true →
    Goes f seen TagName tag (c ∷ rest) TagName (named tag (to_ascii_lowercase c ∷ [])) rest
name_step f seen tag c rest h m = elim (cases_Bool (is_upper c)) [
  | inl u ↦ (m, silent (taking (Add TheTagName Lower ∷ []) Stay (c ∷ [])) (upper_named (f.in_foreign seen) (tagging m TagName tag) c rest h u) refl refl)
  | inr l ↦ (
    m,
    subst (λ d. Reads f (reader (tagging m TagName tag) (c ∷ rest) seen) (reader (tagging m TagName (named tag (d ∷ []))) rest seen)) (sym (stays_low c l))
        (silent (taking (Add TheTagName Current ∷ []) Stay (c ∷ [])) (lower_named (f.in_foreign seen) (tagging m TagName tag) c rest h l) refl refl),
  )
]

pub name_goes : (f : Feedback) (seen : List Token) (tag : Tag) (name rest : List ℕ) → list_all is_spelled_char name ≡ true →
    Goes f seen TagName tag (name ++ rest) TagName (named tag (lowered name)) rest
name_goes f seen tag [] rest h = λ m. (m, rw (append-nil tag.name) here)
name_goes f seen tag (c ∷ name) rest h =
    let parts : (is_spelled_char c ≡ true) × (list_all is_spelled_char name ≡ true) = and_parts (is_spelled_char c) (list_all is_spelled_char name) h in
    let first : Tag = named tag (to_ascii_lowercase c ∷ []) in
    let all : Goes f seen TagName tag (c ∷ (name ++ rest)) TagName (named first (lowered name)) rest =
    goes_on f seen TagName TagName TagName tag first (named first (lowered name)) (c ∷ (name ++ rest)) (name ++ rest) rest
    (name_step f seen tag c (name ++ rest) parts.0) (name_goes f seen first name rest parts.1) in
    subst (λ (n : List ℕ). Goes f seen TagName tag (c ∷ (name ++ rest)) TagName (record tag { name = n }) rest) (append_assoc tag.name (to_ascii_lowercase c ∷ []) (lowered name)) all

attr_step : (f : Feedback) (seen : List Token) (tag : Tag) (before : List ℕ) (c : ℕ) (rest : List ℕ) → is_spelled_char c ≡ true →
    Goes f seen AttributeName (at_attr tag before []) (c ∷ rest) AttributeName (at_attr tag (before ++ to_ascii_lowercase c ∷ []) []) rest
attr_step f seen tag before c rest h m = elim (cases_Bool (is_upper c)) [
  | inl u ↦ (
    m,
    silent (taking (Add AttrName Lower ∷ []) Stay (c ∷ [])) (upper_attr (f.in_foreign seen) (tagging m AttributeName (at_attr tag before [])) c rest h u) refl refl,
  )
  | inr l ↦ (
    m,
    subst (λ d. Reads f (reader (tagging m AttributeName (at_attr tag before [])) (c ∷ rest) seen) (reader (tagging m AttributeName (at_attr tag (before ++ d ∷ []) [])) rest seen)) (sym (stays_low c l))
        (silent (taking (Add AttrName Current ∷ []) Stay (c ∷ [])) (lower_attr (f.in_foreign seen) (tagging m AttributeName (at_attr tag before [])) c rest h l) refl refl),
  )
]

attr_goes : (f : Feedback) (seen : List Token) (tag : Tag) (before name rest : List ℕ) → list_all is_spelled_char name ≡ true →
    Goes f seen AttributeName (at_attr tag before []) (name ++ rest) AttributeName (at_attr tag (before ++ lowered name) []) rest
attr_goes f seen tag before [] rest h = λ m. (m, rw (append-nil before) here)
attr_goes f seen tag before (c ∷ name) rest h =
    let parts : (is_spelled_char c ≡ true) × (list_all is_spelled_char name ≡ true) = and_parts (is_spelled_char c) (list_all is_spelled_char name) h in
    let more : List ℕ = before ++ to_ascii_lowercase c ∷ [] in
    let all : Goes f seen AttributeName (at_attr tag before []) (c ∷ (name ++ rest)) AttributeName (at_attr tag (more ++ lowered name) []) rest =
    goes_on f seen AttributeName AttributeName AttributeName (at_attr tag before []) (at_attr tag more []) (at_attr tag (more ++ lowered name) []) (c ∷ (name ++ rest)) (name ++ rest) rest
    (attr_step f seen tag before c (name ++ rest) parts.0) (attr_goes f seen tag more name rest parts.1) in
    subst (λ (n : List ℕ). Goes f seen AttributeName (at_attr tag before []) (c ∷ (name ++ rest)) AttributeName (at_attr tag n []) rest) (append_assoc before (to_ascii_lowercase c ∷ []) (lowered name)) all

-- ---- white space

pub by_gap : (P : ℕ → Type 0) → P 9 → P 10 → P 12 → P 32 → (c : ℕ) → is_gap_char c ≡ true → P c
by_gap P tab line form space c h = elim (cases_Bool (c == 9)) [
  | inl e ↦ subst P (sym (eqb-true c 9 e)) tab
  | inr a ↦ elim (cases_Bool (c == 10)) [
    | inl e ↦ subst P (sym (eqb-true c 10 e)) line
    | inr b ↦ elim (cases_Bool (c == 12)) [
      | inl e ↦ subst P (sym (eqb-true c 12 e)) form
      | inr d ↦ elim (cases_Bool (c == 32)) [
        | inl e ↦ subst P (sym (eqb-true c 32 e)) space
        | inr e ↦ absurd (true≢false (sym h ∙ rw (a, b, d, e) refl))
      ]
    ]
  ]
]

-- where white space may follow in a tag: behind its name, an attribute's name, a value in quotes, or one without them
pub data Place : Type 0 where
  AtName AtAttr AtQuoted AtBare : Place

abbrev pub state_at : Place → State
state_at AtName = TagName
state_at AtAttr = AttributeName
state_at AtQuoted = AfterAttributeValueQuoted
state_at AtBare = AttributeValueUnquoted

-- behind it
abbrev pub gap_state : Bool → State
gap_state false = BeforeAttributeName
gap_state true = AfterAttributeName

abbrev pub behind_name : Place → Bool
behind_name AtAttr = true
behind_name _ = false

-- what white space does in a state
abbrev pub GapGoes : State → Then → Type 0
GapGoes s goes = (foreign : Bool) (m : Machine) (c : ℕ) (text : List ℕ) → is_gap_char c ≡ true → taken foreign m (c ∷ text) (entries s) ≡ taking [] goes (c ∷ [])

name_gap : GapGoes TagName (Switch BeforeAttributeName)
unfolding taken entries
name_gap foreign m c text h = by_gap (λ c. taken foreign m (c ∷ text) (entries TagName) ≡ taking [] (Switch BeforeAttributeName) (c ∷ [])) refl refl refl refl c h

attr_gap : GapGoes AttributeName (Reconsume AfterAttributeName)
unfolding taken entries
attr_gap foreign m c text h = by_gap (λ c. taken foreign m (c ∷ text) (entries AttributeName) ≡ taking [] (Reconsume AfterAttributeName) (c ∷ [])) refl refl refl refl c h

quoted_gap : GapGoes AfterAttributeValueQuoted (Switch BeforeAttributeName)
unfolding taken entries
quoted_gap foreign m c text h = by_gap (λ c. taken foreign m (c ∷ text) (entries AfterAttributeValueQuoted) ≡ taking [] (Switch BeforeAttributeName) (c ∷ [])) refl refl refl refl c h

bare_gap : GapGoes AttributeValueUnquoted (Switch BeforeAttributeName)
unfolding taken entries
bare_gap foreign m c text h = by_gap (λ c. taken foreign m (c ∷ text) (entries AttributeValueUnquoted) ≡ taking [] (Switch BeforeAttributeName) (c ∷ [])) refl refl refl refl c h

before_gap : GapGoes BeforeAttributeName Stay
unfolding taken entries
before_gap foreign m c text h = by_gap (λ c. taken foreign m (c ∷ text) (entries BeforeAttributeName) ≡ taking [] Stay (c ∷ [])) refl refl refl refl c h

after_gap : GapGoes AfterAttributeName Stay
unfolding taken entries
after_gap foreign m c text h = by_gap (λ c. taken foreign m (c ∷ text) (entries AfterAttributeName) ≡ taking [] Stay (c ∷ [])) refl refl refl refl c h

value_gap : GapGoes BeforeAttributeValue Stay
unfolding taken entries
value_gap foreign m c text h = by_gap (λ c. taken foreign m (c ∷ text) (entries BeforeAttributeValue) ≡ taking [] Stay (c ∷ [])) refl refl refl refl c h

-- a state in which white space changes nothing
abbrev pub StaysInGaps : State → Type 0
StaysInGaps s = GapGoes s Stay

pub gap_stays : (b : Bool) → StaysInGaps (gap_state b)
gap_stays false = before_gap
gap_stays true = after_gap

pub value_stays : StaysInGaps BeforeAttributeValue
value_stays = value_gap

pub spaces_go : (f : Feedback) (seen : List Token) (s : State) (tag : Tag) (space rest : List ℕ) → StaysInGaps s → list_all is_gap_char space ≡ true →
    Goes f seen s tag (space ++ rest) s tag rest
spaces_go f seen s tag [] rest stays h = λ m. (m, here)
spaces_go f seen s tag (c ∷ space) rest stays h =
    let parts : (is_gap_char c ≡ true) × (list_all is_gap_char space ≡ true) = and_parts (is_gap_char c) (list_all is_gap_char space) h in
    goes_on f seen s s s tag tag tag (c ∷ (space ++ rest)) (space ++ rest) rest
    (λ m. (m, silent (taking [] Stay (c ∷ [])) (stays (f.in_foreign seen) (tagging m s tag) c (space ++ rest) parts.0) refl refl))
    (spaces_go f seen s tag space rest stays parts.1)

gap_step : (f : Feedback) (seen : List Token) (p : Place) (tag : Tag) (c : ℕ) (rest : List ℕ) → is_gap_char c ≡ true →
    Goes f seen (state_at p) tag (c ∷ rest) (gap_state (behind_name p)) tag rest
gap_step f seen AtName tag c rest h m = (m, silent (taking [] (Switch BeforeAttributeName) (c ∷ [])) (name_gap (f.in_foreign seen) (tagging m TagName tag) c rest h) refl refl)
gap_step f seen AtQuoted tag c rest h m =
    (m, silent (taking [] (Switch BeforeAttributeName) (c ∷ [])) (quoted_gap (f.in_foreign seen) (tagging m AfterAttributeValueQuoted tag) c rest h) refl refl)
gap_step f seen AtBare tag c rest h m =
    (m, silent (taking [] (Switch BeforeAttributeName) (c ∷ [])) (bare_gap (f.in_foreign seen) (tagging m AttributeValueUnquoted tag) c rest h) refl refl)
gap_step f seen AtAttr tag c rest h m =
    let one : Reads f (reader (tagging m AttributeName tag) (c ∷ rest) seen) (reader (tagging m AfterAttributeName tag) (c ∷ rest) seen) =
    silent (taking [] (Reconsume AfterAttributeName) (c ∷ [])) (attr_gap (f.in_foreign seen) (tagging m AttributeName tag) c rest h) refl refl in
    (m, go_on one (silent (taking [] Stay (c ∷ [])) (after_gap (f.in_foreign seen) (tagging m AfterAttributeName tag) c rest h) refl refl))

-- white space, of which there is some
pub gap_goes : (f : Feedback) (seen : List Token) (p : Place) (tag : Tag) (c : ℕ) (space rest : List ℕ) → is_gap_char c ≡ true → list_all is_gap_char space ≡ true →
    Goes f seen (state_at p) tag (c ∷ (space ++ rest)) (gap_state (behind_name p)) tag rest
gap_goes f seen p tag c space rest h k =
    goes_on f seen (state_at p) (gap_state (behind_name p)) (gap_state (behind_name p)) tag tag tag (c ∷ (space ++ rest)) (space ++ rest) rest
    (gap_step f seen p tag c (space ++ rest) h) (spaces_go f seen (gap_state (behind_name p)) tag space rest (gap_stays (behind_name p)) k)

-- ---- an attribute's name, behind white space

begins : (f : Feedback) (seen : List Token) (b : Bool) (tag : Tag) (c : ℕ) (rest : List ℕ) → is_spelled_char c ≡ true →
    Goes f seen (gap_state b) tag (c ∷ rest) AttributeName (at_attr tag [] []) (c ∷ rest)
begins f seen false tag c rest h m = (m, silent (taking (NewAttr ∷ []) (Reconsume AttributeName) (c ∷ [])) (before_begins (f.in_foreign seen) (tagging m BeforeAttributeName tag) c rest h) refl refl)
begins f seen true tag c rest h m = (m, silent (taking (NewAttr ∷ []) (Reconsume AttributeName) (c ∷ [])) (after_begins (f.in_foreign seen) (tagging m AfterAttributeName tag) c rest h) refl refl)

pub attr_name_goes : (f : Feedback) (seen : List Token) (b : Bool) (tag : Tag) (name rest : List ℕ) → is_spelled_name name ≡ true →
    Goes f seen (gap_state b) tag (name ++ rest) AttributeName (at_attr tag (lowered name) []) rest
attr_name_goes f seen b tag [] rest h = cc
attr_name_goes f seen b tag (c ∷ name) rest h =
    let parts : (is_spelled_char c ≡ true) × (list_all is_spelled_char name ≡ true) = and_parts (is_spelled_char c) (list_all is_spelled_char name) h in
    let whole : list_all is_spelled_char (c ∷ name) ≡ true = h in
    goes_on f seen (gap_state b) AttributeName AttributeName tag (at_attr tag [] []) (at_attr tag (lowered (c ∷ name)) []) (c ∷ (name ++ rest)) (c ∷ (name ++ rest)) rest
    (begins f seen b tag c (name ++ rest) parts.0) (attr_goes f seen tag [] (c ∷ name) rest whole)

-- ---- where tags begin

open_upper : (foreign : Bool) (m : Machine) (c : ℕ) (text : List ℕ) → is_letter c ≡ true → is_upper c ≡ true →
    taken foreign m (c ∷ text) (entries TagOpen) ≡ taking (NewTag Starting ∷ []) (Reconsume TagName) (c ∷ [])
unfolding taken entries
open_upper foreign m c text h u = rw (other is_letter 33 c h refl, other is_letter 47 c h refl, u) refl

open_lower : (foreign : Bool) (m : Machine) (c : ℕ) (text : List ℕ) → is_letter c ≡ true → is_upper c ≡ false →
    taken foreign m (c ∷ text) (entries TagOpen) ≡ taking (NewTag Starting ∷ []) (Reconsume TagName) (c ∷ [])
unfolding taken entries
open_lower foreign m c text h u = rw (other is_letter 33 c h refl, other is_letter 47 c h refl, u, upper_or_lower c h u) refl

open_taken : (foreign : Bool) (m : Machine) (c : ℕ) (text : List ℕ) → is_letter c ≡ true →
    taken foreign m (c ∷ text) (entries TagOpen) ≡ taking (NewTag Starting ∷ []) (Reconsume TagName) (c ∷ [])
open_taken foreign m c text h = elim (cases_Bool (is_upper c)) [ inl u ↦ open_upper foreign m c text h u | inr l ↦ open_lower foreign m c text h l ]

close_upper : (foreign : Bool) (m : Machine) (c : ℕ) (text : List ℕ) → is_upper c ≡ true →
    taken foreign m (c ∷ text) (entries EndTagOpen) ≡ taking (NewTag Ending ∷ []) (Reconsume TagName) (c ∷ [])
unfolding taken entries
close_upper foreign m c text u = rw u refl

close_lower : (foreign : Bool) (m : Machine) (c : ℕ) (text : List ℕ) → is_letter c ≡ true → is_upper c ≡ false →
    taken foreign m (c ∷ text) (entries EndTagOpen) ≡ taking (NewTag Ending ∷ []) (Reconsume TagName) (c ∷ [])
unfolding taken entries
close_lower foreign m c text h u = rw (u, upper_or_lower c h u) refl

close_taken : (foreign : Bool) (m : Machine) (c : ℕ) (text : List ℕ) → is_letter c ≡ true →
    taken foreign m (c ∷ text) (entries EndTagOpen) ≡ taking (NewTag Ending ∷ []) (Reconsume TagName) (c ∷ [])
close_taken foreign m c text h = elim (cases_Bool (is_upper c)) [ inl u ↦ close_upper foreign m c text u | inr l ↦ close_lower foreign m c text h l ]

pub start_opens : (f : Feedback) (c : ℕ) → is_letter c ≡ true → (m : Machine) (rest : List ℕ) (seen : List Token) →
    Reads f (reader (at_state m Data) (60 ∷ c ∷ rest) seen) (reader (tagging m TagName (fresh Starting)) (c ∷ rest) seen)
unfolding taken entries
start_opens f c h m rest seen =
    let a : Reads f (reader (at_state m Data) (60 ∷ c ∷ rest) seen) (reader (at_state m TagOpen) (c ∷ rest) seen) =
    silent (taking [] (Switch TagOpen) (60 ∷ [])) refl refl refl in
    go_on a (silent (taking (NewTag Starting ∷ []) (Reconsume TagName) (c ∷ [])) (open_taken (f.in_foreign seen) (at_state m TagOpen) c rest h) refl refl)

pub end_opens : (f : Feedback) (c : ℕ) → is_letter c ≡ true → (m : Machine) (rest : List ℕ) (seen : List Token) →
    Reads f (reader (at_state m Data) (60 ∷ 47 ∷ c ∷ rest) seen) (reader (tagging m TagName (fresh Ending)) (c ∷ rest) seen)
unfolding taken entries
end_opens f c h m rest seen =
    let a : Reads f (reader (at_state m Data) (60 ∷ 47 ∷ c ∷ rest) seen) (reader (at_state m TagOpen) (47 ∷ c ∷ rest) seen) =
    silent (taking [] (Switch TagOpen) (60 ∷ [])) refl refl refl in
    let b : Reads f (reader (at_state m TagOpen) (47 ∷ c ∷ rest) seen) (reader (at_state m EndTagOpen) (c ∷ rest) seen) =
    silent (taking [] (Switch EndTagOpen) (47 ∷ [])) refl refl refl in
    go_on a (go_on b (silent (taking (NewTag Ending ∷ []) (Reconsume TagName) (c ∷ [])) (close_taken (f.in_foreign seen) (at_state m EndTagOpen) c rest h) refl refl))
