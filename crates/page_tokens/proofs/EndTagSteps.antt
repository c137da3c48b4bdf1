-- What a character in what may be an end tag of raw text does, in the standard.
use Rattle.std.specs.Prelude.{◌≡◌, ℕ, Bool, true, false, ◌==◌, cond, List, [], ◌∷◌, ◌++◌, map, codes, refl}
use Rattle.std.proofs.Common.{arith}
use Rattle.std.specs.Char.{is_ascii_alphabetic, to_ascii_lowercase}
use Rattle.std.proofs.lemmas.List.{append-nil}
use mathlib.Core.Path.{◌∙◌, sym, ap, subst}
use Rattle.standard_tokens.specs.Entries.{Add, Always, Appropriate, Buffer, Current, Else, Emit, EmitTag, Ending, Entry, Lower, NewTag, Next, Reconsume, SetEmpty, Stay, Switch, TheBuffer, These, TheTagName, chars, entry, lower, space, upper}
use Rattle.standard_tokens.specs.Machine.{Machine, at_state, is_name_of, taken}
use Rattle.standard_tokens.specs.States as there
use Rattle.standard_tokens.specs.Table.{entries}
use Rattle.standard_tokens.specs.Tokens.{AChar}
use Rattle.page_tokens.specs.RawEndTags.{less_than_step_of}
use Rattle.page_tokens.specs.Runs.{is_space_of}
use Rattle.page_tokens.specs.ScriptStates.{ends_name}
use Rattle.page_tokens.specs.Standard.{Goes}
use Rattle.page_tokens.specs.StandardStates.{end_tag_state_of, state_of}
use Rattle.page_tokens.specs.TextStates.{raw_state_of}
use Rattle.page_tokens.specs.declared.tokenizer.raw_end_tags.LessThanStep.{LessThanStep}
use Rattle.page_tokens.specs.declared.tokenizer.raw_end_tags.LessThanStep.TheVariants as its
use Rattle.page_tokens.specs.declared.tokenizer.state.EndTagState.TheVariants as end_tag
use Rattle.page_tokens.specs.declared.tokenizer.state.Raw.{Raw}
use Rattle.page_tokens.specs.declared.tokenizer.state.Raw.TheVariants as raw
use Rattle.page_tokens.specs.declared.tokenizer.state.ScriptState.TheVariants as script
use Rattle.page_tokens.specs.declared.tokenizer.state.State.TheVariants as state
use Rattle.page_tokens.proofs.ScriptSteps.{IsLetter, ends_cases, ends_none, is_lower_of, is_upper, no_lower, no_upper, stays_lower}
use Rattle.page_tokens.proofs.StandardSteps.{by_entry, by_test, taking, then_on}
use Rattle.page_tokens.proofs.TagNames.{space_cases}
use Rattle.page_tokens.proofs.TextFollows.{BackTo, Over}

-- ---- behind `<`

abbrev pub Comes : Raw → ℕ → LessThanStep → Type 0
Comes which c its.EndTag =
    (b : Bool) (m : Machine) (rest : List ℕ) → Goes (at_state m (end_tag_state_of which end_tag.LessThan)) (c ∷ rest) [] (record m { state = end_tag_state_of which end_tag.Open; buffer = [] }) rest
Comes which c its.Escape = Over (state.EndTag which end_tag.LessThan) (state.ScriptData script.EscapeStart) c (codes "<!")
Comes which c its.Double =
    (b : Bool) (m : Machine) (rest : List ℕ) →
    Goes (at_state m (end_tag_state_of which end_tag.LessThan)) (c ∷ rest) (AChar 60 ∷ []) (record m { state = there.ScriptDataDoubleEscapeStart; buffer = [] }) (c ∷ rest)
Comes which c its.Text = BackTo (state.EndTag which end_tag.LessThan) (raw_state_of which) c (codes "<")

escaped_comes : (c : ℕ) → (47 == c) ≡ false → Comes raw.Escaped c (cond (is_ascii_alphabetic c) its.Double its.Text)
unfolding taken entries
escaped_comes c h47 = go (is_ascii_alphabetic c) refl (is_upper c) refl
  where
    go : (x : Bool) → is_ascii_alphabetic c ≡ x → (y : Bool) → is_upper c ≡ y → Comes raw.Escaped c (cond x its.Double its.Text)
    go true e true f = λ b m rest.
        by_entry (at_state m there.ScriptDataEscapedLessThanSign) (c ∷ rest) (taking (SetEmpty Buffer ∷ Emit (These (codes "<")) ∷ []) (Reconsume there.ScriptDataDoubleEscapeStart) (c ∷ [])) (λ x. rw (h47, f) refl) refl
    go true e false f = λ b m rest.
        by_entry (at_state m there.ScriptDataEscapedLessThanSign) (c ∷ rest) (taking (SetEmpty Buffer ∷ Emit (These (codes "<")) ∷ []) (Reconsume there.ScriptDataDoubleEscapeStart) (c ∷ []))
        (λ x. rw (h47, f, is_lower_of c e f) refl) refl
    go false e y f = λ b m rest.
        by_entry (at_state m there.ScriptDataEscapedLessThanSign) (c ∷ rest) (taking (Emit (These (codes "<")) ∷ []) (Reconsume there.ScriptDataEscaped) (c ∷ [])) (λ x. rw (h47, no_upper c e, no_lower c e) refl) refl

pub comes : (which : Raw) (c : ℕ) → Comes which c (less_than_step_of which c)
unfolding taken entries
comes raw.Rcdata c =
    by_test (Comes raw.Rcdata) c 47 its.EndTag its.Text
    (λ b m rest. by_entry (at_state m there.RCDATALessThanSign) (47 ∷ rest) (taking (SetEmpty Buffer ∷ []) (Switch there.RCDATAEndTagOpen) (47 ∷ [])) (λ x. refl) refl)
    (λ h47 b m rest. by_entry (at_state m there.RCDATALessThanSign) (c ∷ rest) (taking (Emit (These (codes "<")) ∷ []) (Reconsume there.RCDATA) (c ∷ [])) (λ x. rw h47 refl) refl)
comes raw.Rawtext c =
    by_test (Comes raw.Rawtext) c 47 its.EndTag its.Text
    (λ b m rest. by_entry (at_state m there.RAWTEXTLessThanSign) (47 ∷ rest) (taking (SetEmpty Buffer ∷ []) (Switch there.RAWTEXTEndTagOpen) (47 ∷ [])) (λ x. refl) refl)
    (λ h47 b m rest. by_entry (at_state m there.RAWTEXTLessThanSign) (c ∷ rest) (taking (Emit (These (codes "<")) ∷ []) (Reconsume there.RAWTEXT) (c ∷ [])) (λ x. rw h47 refl) refl)
comes raw.Script c =
    by_test (Comes raw.Script) c 47 its.EndTag (cond (c == 33) its.Escape its.Text)
    (λ b m rest. by_entry (at_state m there.ScriptDataLessThanSign) (47 ∷ rest) (taking (SetEmpty Buffer ∷ []) (Switch there.ScriptDataEndTagOpen) (47 ∷ [])) (λ x. refl) refl)
    (λ h47. by_test (Comes raw.Script) c 33 its.Escape its.Text
    (λ b m rest. by_entry (at_state m there.ScriptDataLessThanSign) (33 ∷ rest) (taking (Emit (These (codes "<!")) ∷ []) (Switch there.ScriptDataEscapeStart) (33 ∷ [])) (λ x. refl) refl)
    (λ h33 b m rest. by_entry (at_state m there.ScriptDataLessThanSign) (c ∷ rest) (taking (Emit (These (codes "<")) ∷ []) (Reconsume there.ScriptData) (c ∷ [])) (λ x. rw (h47, h33) refl) refl))
comes raw.Escaped c =
    by_test (Comes raw.Escaped) c 47 its.EndTag (cond (is_ascii_alphabetic c) its.Double its.Text)
    (λ b m rest. by_entry (at_state m there.ScriptDataEscapedLessThanSign) (47 ∷ rest) (taking (SetEmpty Buffer ∷ []) (Switch there.ScriptDataEscapedEndTagOpen) (47 ∷ [])) (λ x. refl) refl)
    (λ h47. escaped_comes c h47)

-- ---- behind `</`: the entries of the four kinds of text

abbrev open_entries : Raw → List Entry
open_entries which =
    entry (Next (upper ∷ lower ∷ [])) Always (NewTag Ending ∷ []) (Reconsume (end_tag_state_of which end_tag.Name))
    ∷ entry Else Always (Emit (These (codes "</")) ∷ []) (Reconsume (state_of (raw_state_of which)))
    ∷ []

are_open_entries : (which : Raw) → entries (end_tag_state_of which end_tag.Open) ≡ open_entries which
unfolding entries
are_open_entries raw.Rcdata = refl
are_open_entries raw.Rawtext = refl
are_open_entries raw.Script = refl
are_open_entries raw.Escaped = refl

abbrev name_entries : Raw → List Entry
name_entries which =
    entry (Next (space ∷ [])) Appropriate [] (Switch there.BeforeAttributeName)
    ∷ entry (Next (chars "/" ∷ [])) Appropriate [] (Switch there.SelfClosingStartTag)
    ∷ entry (Next (chars ">" ∷ [])) Appropriate (EmitTag ∷ []) (Switch there.Data)
    ∷ entry (Next (upper ∷ [])) Always (Add TheTagName Lower ∷ Add Buffer Current ∷ []) Stay
    ∷ entry (Next (lower ∷ [])) Always (Add TheTagName Current ∷ Add Buffer Current ∷ []) Stay
    ∷ entry Else Always (Emit (These (codes "</")) ∷ Emit TheBuffer ∷ []) (Reconsume (state_of (raw_state_of which)))
    ∷ []

are_name_entries : (which : Raw) → entries (end_tag_state_of which end_tag.Name) ≡ name_entries which
unfolding entries
are_name_entries raw.Rcdata = refl
are_name_entries raw.Rawtext = refl
are_name_entries raw.Script = refl
are_name_entries raw.Escaped = refl

-- the machine in the states of an end tag
abbrev pub opened : Raw → Machine → Machine
opened which m = at_state m (end_tag_state_of which end_tag.Open)

abbrev pub naming : Raw → Machine → Machine
naming which m = at_state m (end_tag_state_of which end_tag.Name)

-- a letter ends no name
letter_not : (c : ℕ) → is_ascii_alphabetic c ≡ true → IsLetter c
letter_not c h = record { tab = no9 c h; line_feed = no10 c h; form_feed = no12 c h; space = no32 c h; slash = no47 c h; greater = no62 c h }
  where
    no9 : (c : ℕ) → is_ascii_alphabetic c ≡ true → (9 == c) ≡ false
    no9 c h = grind arith

    no10 : (c : ℕ) → is_ascii_alphabetic c ≡ true → (10 == c) ≡ false
    no10 c h = grind arith

    no12 : (c : ℕ) → is_ascii_alphabetic c ≡ true → (12 == c) ≡ false
    no12 c h = grind arith

    no32 : (c : ℕ) → is_ascii_alphabetic c ≡ true → (32 == c) ≡ false
    no32 c h = grind arith

    no47 : (c : ℕ) → is_ascii_alphabetic c ≡ true → (47 == c) ≡ false
    no47 c h = grind arith

    no62 : (c : ℕ) → is_ascii_alphabetic c ≡ true → (62 == c) ≡ false
    no62 c h = grind arith

-- with one more letter of the name
abbrev pub with_letter : Raw → Machine → ℕ → Machine
with_letter which m c = record m { state = end_tag_state_of which end_tag.Name; tag = record m.tag { name = m.tag.name ++ to_ascii_lowercase c ∷ [] }; buffer = m.buffer ++ c ∷ [] }

pub letter_over : (which : Raw) (b : Bool) (m : Machine) (rest : List ℕ) (c : ℕ) → is_ascii_alphabetic c ≡ true → Goes (naming which m) (c ∷ rest) [] (with_letter which m c) rest
unfolding taken
letter_over which b m rest c letter = go (is_upper c) refl
  where
    is : IsLetter c
    is = letter_not c letter

    M : Machine
    M = naming which m

    go : (x : Bool) → is_upper c ≡ x → Goes M (c ∷ rest) [] (with_letter which m c) rest
    go true e =
        by_entry M (c ∷ rest) (taking (Add TheTagName Lower ∷ Add Buffer Current ∷ []) Stay (c ∷ []))
        (λ x. ap (taken x M (c ∷ rest)) (are_name_entries which) ∙ (rw (is.tab, is.line_feed, is.form_feed, is.space, is.slash, is.greater, e) refl)) refl
    go false e =
        subst (λ d. Goes M (c ∷ rest) [] (record m { state = end_tag_state_of which end_tag.Name; tag = record m.tag { name = m.tag.name ++ d ∷ [] }; buffer = m.buffer ++ c ∷ [] }) rest) (sym (stays_lower c e))
        (by_entry M (c ∷ rest) (taking (Add TheTagName Current ∷ Add Buffer Current ∷ []) Stay (c ∷ []))
        (λ x. ap (taken x M (c ∷ rest)) (are_name_entries which) ∙ (rw (is.tab, is.line_feed, is.form_feed, is.space, is.slash, is.greater, e, is_lower_of c letter e) refl)) refl)

-- the first letter
abbrev pub begun : Raw → Machine → Machine
begun which m = record m { state = end_tag_state_of which end_tag.Name; tag = record { kind = Ending; name = []; attrs = []; self_closing = false } }

pub letter_begins : (which : Raw) (b : Bool) (m : Machine) (rest : List ℕ) (c : ℕ) → is_ascii_alphabetic c ≡ true → Goes (opened which m) (c ∷ rest) [] (with_letter which (begun which m) c) rest
unfolding taken
letter_begins which b m rest c letter = then_on (go (is_upper c) refl) (letter_over which b (begun which m) rest c letter)
  where
    M : Machine
    M = opened which m

    go : (x : Bool) → is_upper c ≡ x → Goes M (c ∷ rest) [] (begun which m) (c ∷ rest)
    go true e = by_entry M (c ∷ rest) (taking (NewTag Ending ∷ []) (Reconsume (end_tag_state_of which end_tag.Name)) (c ∷ [])) (λ x. ap (taken x M (c ∷ rest)) (are_open_entries which) ∙ (rw e refl)) refl
    go false e =
        by_entry M (c ∷ rest) (taking (NewTag Ending ∷ []) (Reconsume (end_tag_state_of which end_tag.Name)) (c ∷ [])) (λ x. ap (taken x M (c ∷ rest)) (are_open_entries which) ∙ (rw (e, is_lower_of c letter e) refl)) refl

pub no_letter_begins : (which : Raw) (c : ℕ) → is_ascii_alphabetic c ≡ false → BackTo (state.EndTag which end_tag.Open) (raw_state_of which) c (codes "</")
unfolding taken
no_letter_begins which c none b m rest =
    let M : Machine = opened which m in
    by_entry M (c ∷ rest) (taking (Emit (These (codes "</")) ∷ []) (Reconsume (state_of (raw_state_of which))) (c ∷ [])) (λ x. ap (taken x M (c ∷ rest)) (are_open_entries which) ∙ (rw (no_upper c none, no_lower c none) refl)) refl

-- ---- behind the name

-- the tag has the name of the last start tag
abbrev pub is_appropriate : Machine → Bool
is_appropriate m = is_name_of m.last_start m.tag.name

pub slash_taken : (which : Raw) (b : Bool) (m : Machine) (rest : List ℕ) → is_appropriate m ≡ true → taken b (naming which m) (47 ∷ rest) (entries (end_tag_state_of which end_tag.Name)) ≡ taking [] (Switch there.SelfClosingStartTag) (47 ∷ [])
unfolding taken
slash_taken which b m rest is = ap (taken b (naming which m) (47 ∷ rest)) (are_name_entries which) ∙ (rw is refl)

pub greater_taken : (which : Raw) (b : Bool) (m : Machine) (rest : List ℕ) → is_appropriate m ≡ true → taken b (naming which m) (62 ∷ rest) (entries (end_tag_state_of which end_tag.Name)) ≡ taking (EmitTag ∷ []) (Switch there.Data) (62 ∷ [])
unfolding taken
greater_taken which b m rest is = ap (taken b (naming which m) (62 ∷ rest)) (are_name_entries which) ∙ (rw is refl)

abbrev SpaceTaken : Raw → Bool → Machine → List ℕ → ℕ → Type 0
SpaceTaken which b m rest c = taken b (naming which m) (c ∷ rest) (entries (end_tag_state_of which end_tag.Name)) ≡ taking [] (Switch there.BeforeAttributeName) (c ∷ [])

pub space_taken : (which : Raw) (b : Bool) (m : Machine) (rest : List ℕ) (c : ℕ) → is_appropriate m ≡ true → is_space_of c ≡ true → SpaceTaken which b m rest c
unfolding taken
space_taken which b m rest c is space =
    space_cases (SpaceTaken which b m rest) c space (at 9 (rw is refl)) (at 10 (rw is refl)) (at 12 (rw is refl)) (at 32 (rw is refl))
  where
    at : (d : ℕ) → taken b (naming which m) (d ∷ rest) (name_entries which) ≡ taking [] (Switch there.BeforeAttributeName) (d ∷ []) → SpaceTaken which b m rest d
    at d e = ap (taken b (naming which m) (d ∷ rest)) (are_name_entries which) ∙ e

-- anything else, or another name
to_text : (which : Raw) (c : ℕ) (m : Machine) (rest : List ℕ) →
    ((b : Bool) → taken b (naming which m) (c ∷ rest) (name_entries which) ≡ taking (Emit (These (codes "</")) ∷ Emit TheBuffer ∷ []) (Reconsume (state_of (raw_state_of which))) (c ∷ [])) →
    Goes (naming which m) (c ∷ rest) (map AChar (codes "</" ++ m.buffer)) (at_state m (state_of (raw_state_of which))) (c ∷ rest)
to_text which c m rest is =
    subst (λ ts. Goes (naming which m) (c ∷ rest) (AChar 60 ∷ AChar 47 ∷ ts) (at_state m (state_of (raw_state_of which))) (c ∷ rest)) (append-nil (map AChar m.buffer))
    (by_entry (naming which m) (c ∷ rest) (taking (Emit (These (codes "</")) ∷ Emit TheBuffer ∷ []) (Reconsume (state_of (raw_state_of which))) (c ∷ []))
    (λ x. ap (taken x (naming which m) (c ∷ rest)) (are_name_entries which) ∙ is x) refl)

-- another character behind the name
pub other_character : (which : Raw) (c : ℕ) → is_ascii_alphabetic c ≡ false → IsLetter c → (b : Bool) (m : Machine) (rest : List ℕ) →
    Goes (naming which m) (c ∷ rest) (map AChar (codes "</" ++ m.buffer)) (at_state m (state_of (raw_state_of which))) (c ∷ rest)
unfolding taken
other_character which c none is b m rest =
    to_text which c m rest (λ b. rw (is.tab, is.line_feed, is.form_feed, is.space, is.slash, is.greater, no_upper c none, no_lower c none) refl)

-- another name: whether or not the character would end one
pub other_name : (which : Raw) (c : ℕ) → is_ascii_alphabetic c ≡ false → (b : Bool) (m : Machine) (rest : List ℕ) → is_appropriate m ≡ false →
    Goes (naming which m) (c ∷ rest) (map AChar (codes "</" ++ m.buffer)) (at_state m (state_of (raw_state_of which))) (c ∷ rest)
unfolding taken
other_name which c none b m rest other = go (ends_name c) refl
  where
    at : (d : ℕ) → ((x : Bool) → taken x (naming which m) (d ∷ rest) (name_entries which) ≡ taking (Emit (These (codes "</")) ∷ Emit TheBuffer ∷ []) (Reconsume (state_of (raw_state_of which))) (d ∷ [])) →
        Goes (naming which m) (d ∷ rest) (map AChar (codes "</" ++ m.buffer)) (at_state m (state_of (raw_state_of which))) (d ∷ rest)
    at d e = to_text which d m rest e

    go : (x : Bool) → ends_name c ≡ x → Goes (naming which m) (c ∷ rest) (map AChar (codes "</" ++ m.buffer)) (at_state m (state_of (raw_state_of which))) (c ∷ rest)
    go true e =
        ends_cases (λ d. Goes (naming which m) (d ∷ rest) (map AChar (codes "</" ++ m.buffer)) (at_state m (state_of (raw_state_of which))) (d ∷ rest)) c e
        (at 47 (λ x. rw other refl)) (at 62 (λ x. rw other refl)) (at 9 (λ x. rw other refl)) (at 10 (λ x. rw other refl)) (at 12 (λ x. rw other refl)) (at 32 (λ x. rw other refl))
    go false e = other_character which c none (ends_none c e) b m rest
