-- What a character in escaped script data does, in the standard.
use Rattle.std.specs.Prelude.{◌≡◌, ℕ, Bool, true, false, ◌==◌, ◌||◌, ◌&&◌, nat_le, cond, List, [], ◌∷◌, ◌++◌, codes, refl}
use Rattle.std.proofs.Common.{arith}
use Rattle.std.specs.Char.{is_ascii_alphabetic, to_ascii_lowercase}
use Rattle.std.specs.Str.{bytes_eq}
use mathlib.Core.Path.{sym, subst}
use Rattle.standard_tokens.specs.Entries.{Add, Buffer, Current, Emit, Lower, Reconsume, SetEmpty, Stay, Switch, These, replacement}
use Rattle.standard_tokens.specs.Machine.{Machine, at_state, taken}
use Rattle.standard_tokens.specs.States as there
use Rattle.standard_tokens.specs.Table.{entries}
use Rattle.standard_tokens.specs.Tokens.{AChar}
use Rattle.page_tokens.specs.Comments.{shown_of}
use Rattle.page_tokens.specs.Runs.{is_space_of}
use Rattle.page_tokens.specs.ScriptStates.{behind_name_of, double_step_of, doubled, doubled_step_of, ends_name, escaped, escaped_step_of, script_step_of}
use Rattle.page_tokens.specs.Standard.{Goes, Held, Spells}
use Rattle.page_tokens.specs.StandardStates.{script_state_of, state_of}
use Rattle.page_tokens.specs.declared.tokenizer.Tokenizer.{Tokenizer}
use Rattle.page_tokens.specs.declared.tokenizer.script_data.ScriptStep.{ScriptStep}
use Rattle.page_tokens.specs.declared.tokenizer.script_data.ScriptStep.TheVariants as its
use Rattle.page_tokens.specs.declared.tokenizer.state.DoubleState.TheVariants as double
use Rattle.page_tokens.specs.declared.tokenizer.state.EndTagState.TheVariants as end_tag
use Rattle.page_tokens.specs.declared.tokenizer.state.Raw.TheVariants as raw
use Rattle.page_tokens.specs.declared.tokenizer.state.ScriptState.{ScriptState}
use Rattle.page_tokens.specs.declared.tokenizer.state.ScriptState.TheVariants as script
use Rattle.page_tokens.specs.declared.tokenizer.state.State.{State}
use Rattle.page_tokens.specs.declared.tokenizer.state.State.TheVariants as state
use Rattle.page_tokens.proofs.StandardSteps.{by_bool, by_entry, by_test, taking, then_on}
use Rattle.page_tokens.proofs.TagNames.{differs, space_cases}
use Rattle.page_tokens.proofs.TextFollows.{BackTo, HoldsNothing, Over}

-- in the state the letters of a name are held
abbrev pub LettersHeld : State → Type 0
LettersHeld from =
    ((t : Tokenizer) (ahead : List ℕ) (m : Machine) → Held from t ahead m → Spells t.letters m.buffer) × ((t : Tokenizer) (m : Machine) → Spells t.letters m.buffer → Held from t [] m)

-- what a character comes to; the machine stands in the first state, and the tokenizer in the second
abbrev pub Comes : ScriptState → ScriptState → ℕ → ScriptStep → Type 0
Comes from home c (its.Text next) = Over (state.ScriptData from) next c (shown_of c ∷ []) × HoldsNothing next
Comes from home c its.LessThan = Over (state.ScriptData from) (state.EndTag raw.Escaped end_tag.LessThan) c []
Comes from home c its.Unescaped = BackTo (state.ScriptData from) state.Script c []
Comes from home c its.Slash =
    (b : Bool) (m : Machine) (rest : List ℕ) → Goes (at_state m (script_state_of from)) (c ∷ rest) (AChar c ∷ []) (record m { state = there.ScriptDataDoubleEscapeEnd; buffer = [] }) rest
Comes from home c its.Letter =
    ((b : Bool) (m : Machine) (rest : List ℕ) → Goes (at_state m (script_state_of from)) (c ∷ rest) (AChar c ∷ []) (record m { state = script_state_of home; buffer = m.buffer ++ to_ascii_lowercase c ∷ [] }) rest)
    × LettersHeld (state.ScriptData home)
Comes from home c (its.Named is_end) =
    ((b : Bool) (m : Machine) (rest : List ℕ) → Goes (at_state m (script_state_of from)) (c ∷ rest) (AChar c ∷ []) (at_state m (state_of (behind_name_of is_end (bytes_eq m.buffer (codes "script"))))) rest)
    × LettersHeld (state.ScriptData home)

-- the character is read again
back : (from other home : ScriptState) (c : ℕ) (step : ScriptStep) → BackTo (state.ScriptData from) (state.ScriptData other) c [] → Comes other home c step → Comes from home c step
back from other home c (its.Text next) goes comes = ((λ b m rest. then_on (goes b m rest) (comes.0 b m rest)), comes.1)
back from other home c its.LessThan goes comes = λ b m rest. then_on (goes b m rest) (comes b m rest)
back from other home c its.Unescaped goes comes = λ b m rest. then_on (goes b m rest) (comes b m rest)
back from other home c its.Slash goes comes = λ b m rest. then_on (goes b m rest) (comes b m rest)
back from other home c its.Letter goes comes = ((λ b m rest. then_on (goes b m rest) (comes.0 b m rest)), comes.1)
back from other home c (its.Named is_end) goes comes = ((λ b m rest. then_on (goes b m rest) (comes.0 b m rest)), comes.1)

-- ---- the characters of names

-- a character that ends no name
pub record IsLetter (c : ℕ) : Type 0 where
  pub tab : (9 == c) ≡ false
  pub line_feed : (10 == c) ≡ false
  pub form_feed : (12 == c) ≡ false
  pub space : (32 == c) ≡ false
  pub slash : (47 == c) ≡ false
  pub greater : (62 == c) ≡ false

pub ends_cases : (P : ℕ → Type 0) (c : ℕ) → ends_name c ≡ true → P 47 → P 62 → P 9 → P 10 → P 12 → P 32 → P c
ends_cases P c h p47 p62 p9 p10 p12 p32 =
    by_bool (λ e x. (x || e == 62 || is_space_of e) ≡ true → P e) c 47 (λ _. p47)
    (λ h47. by_bool (λ e x. (x || is_space_of e) ≡ true → P e) c 62 (λ _. p62) (λ h62 space. space_cases P c space p9 p10 p12 p32)) h

pub ends_none : (c : ℕ) → ends_name c ≡ false → IsLetter c
ends_none c h = record {
  tab = differs ends_name 9 c h refl;
  line_feed = differs ends_name 10 c h refl;
  form_feed = differs ends_name 12 c h refl;
  space = differs ends_name 32 c h refl;
  slash = differs ends_name 47 c h refl;
  greater = differs ends_name 62 c h refl;
}

abbrev pub is_upper : ℕ → Bool
is_upper c = nat_le 65 c && nat_le c 90

abbrev pub is_lower : ℕ → Bool
is_lower c = nat_le 97 c && nat_le c 122

pub is_lower_of : (c : ℕ) → is_ascii_alphabetic c ≡ true → is_upper c ≡ false → is_lower c ≡ true
is_lower_of c h e = grind arith

pub stays_lower : (c : ℕ) → is_upper c ≡ false → to_ascii_lowercase c ≡ c
stays_lower c h = grind arith

pub no_upper : (c : ℕ) → is_ascii_alphabetic c ≡ false → is_upper c ≡ false
no_upper c h = grind arith

pub no_lower : (c : ℕ) → is_ascii_alphabetic c ≡ false → is_lower c ≡ false
no_lower c h = grind arith

start_letters : LettersHeld (state.ScriptData script.DoubleStart)
start_letters = ((λ t ahead m held. held.1), (λ t m letters. (refl, letters)))

end_letters : LettersHeld (state.ScriptData (script.Double double.End))
end_letters = ((λ t ahead m held. held.1), (λ t m letters. (refl, letters)))

start_letter : (c : ℕ) → IsLetter c → is_ascii_alphabetic c ≡ true → Comes script.DoubleStart script.DoubleStart c its.Letter
unfolding taken entries
start_letter c is letter = ((λ b m rest. go b m rest (is_upper c) refl), start_letters)
  where
    go : (b : Bool) (m : Machine) (rest : List ℕ) (x : Bool) → is_upper c ≡ x →
        Goes (at_state m there.ScriptDataDoubleEscapeStart) (c ∷ rest) (AChar c ∷ []) (record m { state = there.ScriptDataDoubleEscapeStart; buffer = m.buffer ++ to_ascii_lowercase c ∷ [] }) rest
    go b m rest true e =
        by_entry (at_state m there.ScriptDataDoubleEscapeStart) (c ∷ rest) (taking (Add Buffer Lower ∷ Emit Current ∷ []) Stay (c ∷ [])) (λ x. rw (is.tab, is.line_feed, is.form_feed, is.space, is.slash, is.greater, e) refl) refl
    go b m rest false e =
        subst (λ d. Goes (at_state m there.ScriptDataDoubleEscapeStart) (c ∷ rest) (AChar c ∷ []) (record m { state = there.ScriptDataDoubleEscapeStart; buffer = m.buffer ++ d ∷ [] }) rest) (sym (stays_lower c e))
        (by_entry (at_state m there.ScriptDataDoubleEscapeStart) (c ∷ rest) (taking (Add Buffer Current ∷ Emit Current ∷ []) Stay (c ∷ []))
        (λ x. rw (is.tab, is.line_feed, is.form_feed, is.space, is.slash, is.greater, e, is_lower_of c letter e) refl) refl)

end_letter : (c : ℕ) → IsLetter c → is_ascii_alphabetic c ≡ true → Comes (script.Double double.End) (script.Double double.End) c its.Letter
unfolding taken entries
end_letter c is letter = ((λ b m rest. go b m rest (is_upper c) refl), end_letters)
  where
    go : (b : Bool) (m : Machine) (rest : List ℕ) (x : Bool) → is_upper c ≡ x →
        Goes (at_state m there.ScriptDataDoubleEscapeEnd) (c ∷ rest) (AChar c ∷ []) (record m { state = there.ScriptDataDoubleEscapeEnd; buffer = m.buffer ++ to_ascii_lowercase c ∷ [] }) rest
    go b m rest true e =
        by_entry (at_state m there.ScriptDataDoubleEscapeEnd) (c ∷ rest) (taking (Add Buffer Lower ∷ Emit Current ∷ []) Stay (c ∷ [])) (λ x. rw (is.tab, is.line_feed, is.form_feed, is.space, is.slash, is.greater, e) refl) refl
    go b m rest false e =
        subst (λ d. Goes (at_state m there.ScriptDataDoubleEscapeEnd) (c ∷ rest) (AChar c ∷ []) (record m { state = there.ScriptDataDoubleEscapeEnd; buffer = m.buffer ++ d ∷ [] }) rest) (sym (stays_lower c e))
        (by_entry (at_state m there.ScriptDataDoubleEscapeEnd) (c ∷ rest) (taking (Add Buffer Current ∷ Emit Current ∷ []) Stay (c ∷ []))
        (λ x. rw (is.tab, is.line_feed, is.form_feed, is.space, is.slash, is.greater, e, is_lower_of c letter e) refl) refl)

-- the end of a name
start_named : (b : Bool) (m : Machine) (rest : List ℕ) (c : ℕ) → ends_name c ≡ true → (x : Bool) → bytes_eq m.buffer (codes "script") ≡ x →
    Goes (at_state m there.ScriptDataDoubleEscapeStart) (c ∷ rest) (AChar c ∷ []) (at_state m (state_of (behind_name_of false x))) rest
unfolding taken entries
start_named b m rest c ends true e =
    let M : Machine = at_state m there.ScriptDataDoubleEscapeStart in
    let at : (d : ℕ) → ((y : Bool) → taken y M (d ∷ rest) (entries there.ScriptDataDoubleEscapeStart) ≡ taking (Emit Current ∷ []) (Switch there.ScriptDataDoubleEscaped) (d ∷ [])) →
    Goes M (d ∷ rest) (AChar d ∷ []) (at_state m there.ScriptDataDoubleEscaped) rest = λ d is. by_entry M (d ∷ rest) (taking (Emit Current ∷ []) (Switch there.ScriptDataDoubleEscaped) (d ∷ [])) is refl in
    ends_cases (λ d. Goes M (d ∷ rest) (AChar d ∷ []) (at_state m there.ScriptDataDoubleEscaped) rest) c ends
    (at 47 (λ y. rw e refl)) (at 62 (λ y. rw e refl)) (at 9 (λ y. rw e refl)) (at 10 (λ y. rw e refl)) (at 12 (λ y. rw e refl)) (at 32 (λ y. rw e refl))
start_named b m rest c ends false e =
    let M : Machine = at_state m there.ScriptDataDoubleEscapeStart in
    let at : (d : ℕ) → ((y : Bool) → taken y M (d ∷ rest) (entries there.ScriptDataDoubleEscapeStart) ≡ taking (Emit Current ∷ []) (Switch there.ScriptDataEscaped) (d ∷ [])) →
    Goes M (d ∷ rest) (AChar d ∷ []) (at_state m there.ScriptDataEscaped) rest = λ d is. by_entry M (d ∷ rest) (taking (Emit Current ∷ []) (Switch there.ScriptDataEscaped) (d ∷ [])) is refl in
    ends_cases (λ d. Goes M (d ∷ rest) (AChar d ∷ []) (at_state m there.ScriptDataEscaped) rest) c ends
    (at 47 (λ y. rw e refl)) (at 62 (λ y. rw e refl)) (at 9 (λ y. rw e refl)) (at 10 (λ y. rw e refl)) (at 12 (λ y. rw e refl)) (at 32 (λ y. rw e refl))

end_named : (b : Bool) (m : Machine) (rest : List ℕ) (c : ℕ) → ends_name c ≡ true → (x : Bool) → bytes_eq m.buffer (codes "script") ≡ x →
    Goes (at_state m there.ScriptDataDoubleEscapeEnd) (c ∷ rest) (AChar c ∷ []) (at_state m (state_of (behind_name_of true x))) rest
unfolding taken entries
end_named b m rest c ends true e =
    let M : Machine = at_state m there.ScriptDataDoubleEscapeEnd in
    let at : (d : ℕ) → ((y : Bool) → taken y M (d ∷ rest) (entries there.ScriptDataDoubleEscapeEnd) ≡ taking (Emit Current ∷ []) (Switch there.ScriptDataEscaped) (d ∷ [])) →
    Goes M (d ∷ rest) (AChar d ∷ []) (at_state m there.ScriptDataEscaped) rest = λ d is. by_entry M (d ∷ rest) (taking (Emit Current ∷ []) (Switch there.ScriptDataEscaped) (d ∷ [])) is refl in
    ends_cases (λ d. Goes M (d ∷ rest) (AChar d ∷ []) (at_state m there.ScriptDataEscaped) rest) c ends
    (at 47 (λ y. rw e refl)) (at 62 (λ y. rw e refl)) (at 9 (λ y. rw e refl)) (at 10 (λ y. rw e refl)) (at 12 (λ y. rw e refl)) (at 32 (λ y. rw e refl))
end_named b m rest c ends false e =
    let M : Machine = at_state m there.ScriptDataDoubleEscapeEnd in
    let at : (d : ℕ) → ((y : Bool) → taken y M (d ∷ rest) (entries there.ScriptDataDoubleEscapeEnd) ≡ taking (Emit Current ∷ []) (Switch there.ScriptDataDoubleEscaped) (d ∷ [])) →
    Goes M (d ∷ rest) (AChar d ∷ []) (at_state m there.ScriptDataDoubleEscaped) rest = λ d is. by_entry M (d ∷ rest) (taking (Emit Current ∷ []) (Switch there.ScriptDataDoubleEscaped) (d ∷ [])) is refl in
    ends_cases (λ d. Goes M (d ∷ rest) (AChar d ∷ []) (at_state m there.ScriptDataDoubleEscaped) rest) c ends
    (at 47 (λ y. rw e refl)) (at 62 (λ y. rw e refl)) (at 9 (λ y. rw e refl)) (at 10 (λ y. rw e refl)) (at 12 (λ y. rw e refl)) (at 32 (λ y. rw e refl))

-- ---- escaped script data

-- what `-`, `<` and every other character do: `-` leads to one state and the others to another one
dashed : (from home : ScriptState) (dash other : State) (less : ScriptStep) (c : ℕ) → Comes from home 45 (its.Text dash) → Comes from home 60 less → HoldsNothing other → Over (state.ScriptData from) other 0 (0xfffd ∷ []) →
    ((45 == c) ≡ false → (60 == c) ≡ false → (0 == c) ≡ false → Over (state.ScriptData from) other c (c ∷ [])) → Comes from home c (cond (c == 45) (its.Text dash) (cond (c == 60) less (its.Text other)))
dashed from home dash other less c at_dash at_less holds null plain =
    by_test (Comes from home) c 45 (its.Text dash) (cond (c == 60) less (its.Text other)) at_dash
    (λ h45. by_test (Comes from home) c 60 less (its.Text other) at_less
    (λ h60. (
      (λ b m rest. by_bool (λ e x. Goes (at_state m (script_state_of from)) (e ∷ rest) (AChar (cond x 0xfffd e) ∷ []) (at_state m (state_of other)) rest) c 0 (null b m rest) (λ h0. plain h45 h60 h0 b m rest)),
      holds,
    )))

in_escaped : (home : ScriptState) (c : ℕ) → Comes script.Escaped home c (escaped_step_of script.EscapedDash c)
unfolding taken entries
in_escaped home c =
    dashed script.Escaped home (state.ScriptData script.EscapedDash) escaped its.LessThan c
    ((λ b m rest. by_entry (at_state m there.ScriptDataEscaped) (45 ∷ rest) (taking (Emit (These (codes "-")) ∷ []) (Switch there.ScriptDataEscapedDash) (45 ∷ [])) (λ x. refl) refl), (λ t m. refl))
    (λ b m rest. by_entry (at_state m there.ScriptDataEscaped) (60 ∷ rest) (taking [] (Switch there.ScriptDataEscapedLessThanSign) (60 ∷ [])) (λ x. refl) refl)
    (λ t m. refl) (λ b m rest. by_entry (at_state m there.ScriptDataEscaped) (0 ∷ rest) (taking (Emit replacement ∷ []) Stay (0 ∷ [])) (λ x. refl) refl)
    (λ h45 h60 h0 b m rest. by_entry (at_state m there.ScriptDataEscaped) (c ∷ rest) (taking (Emit Current ∷ []) Stay (c ∷ [])) (λ x. rw (h45, h60, h0) refl) refl)

in_escaped_dash : (home : ScriptState) (c : ℕ) → Comes script.EscapedDash home c (escaped_step_of script.EscapedDashDash c)
unfolding taken entries
in_escaped_dash home c =
    dashed script.EscapedDash home (state.ScriptData script.EscapedDashDash) escaped its.LessThan c
    ((λ b m rest. by_entry (at_state m there.ScriptDataEscapedDash) (45 ∷ rest) (taking (Emit (These (codes "-")) ∷ []) (Switch there.ScriptDataEscapedDashDash) (45 ∷ [])) (λ x. refl) refl), (λ t m. refl))
    (λ b m rest. by_entry (at_state m there.ScriptDataEscapedDash) (60 ∷ rest) (taking [] (Switch there.ScriptDataEscapedLessThanSign) (60 ∷ [])) (λ x. refl) refl)
    (λ t m. refl) (λ b m rest. by_entry (at_state m there.ScriptDataEscapedDash) (0 ∷ rest) (taking (Emit replacement ∷ []) (Switch there.ScriptDataEscaped) (0 ∷ [])) (λ x. refl) refl)
    (λ h45 h60 h0 b m rest. by_entry (at_state m there.ScriptDataEscapedDash) (c ∷ rest) (taking (Emit Current ∷ []) (Switch there.ScriptDataEscaped) (c ∷ [])) (λ x. rw (h45, h60, h0) refl) refl)

in_escaped_dash_dash : (home : ScriptState) (c : ℕ) → Comes script.EscapedDashDash home c (script_step_of script.EscapedDashDash c)
unfolding taken entries
in_escaped_dash_dash home c =
    by_test (Comes script.EscapedDashDash home) c 62 (its.Text state.Script) (escaped_step_of script.EscapedDashDash c)
    ((λ b m rest. by_entry (at_state m there.ScriptDataEscapedDashDash) (62 ∷ rest) (taking (Emit (These (codes ">")) ∷ []) (Switch there.ScriptData) (62 ∷ [])) (λ x. refl) refl), (λ t m. refl))
    (λ h62. dashed script.EscapedDashDash home (state.ScriptData script.EscapedDashDash) escaped its.LessThan c
    ((λ b m rest. by_entry (at_state m there.ScriptDataEscapedDashDash) (45 ∷ rest) (taking (Emit (These (codes "-")) ∷ []) Stay (45 ∷ [])) (λ x. refl) refl), (λ t m. refl))
    (λ b m rest. by_entry (at_state m there.ScriptDataEscapedDashDash) (60 ∷ rest) (taking [] (Switch there.ScriptDataEscapedLessThanSign) (60 ∷ [])) (λ x. refl) refl)
    (λ t m. refl) (λ b m rest. by_entry (at_state m there.ScriptDataEscapedDashDash) (0 ∷ rest) (taking (Emit replacement ∷ []) (Switch there.ScriptDataEscaped) (0 ∷ [])) (λ x. refl) refl)
    (λ h45 h60 h0 b m rest. by_entry (at_state m there.ScriptDataEscapedDashDash) (c ∷ rest) (taking (Emit Current ∷ []) (Switch there.ScriptDataEscaped) (c ∷ [])) (λ x. rw (h45, h60, h62, h0) refl) refl))

-- ---- the same where it is escaped twice

in_doubled : (home : ScriptState) (c : ℕ) → Comes (script.Double double.Escaped) home c (doubled_step_of double.Dash c)
unfolding taken entries
in_doubled home c =
    dashed (script.Double double.Escaped) home (doubled double.Dash) (doubled double.Escaped) (its.Text (doubled double.LessThan)) c
    ((λ b m rest. by_entry (at_state m there.ScriptDataDoubleEscaped) (45 ∷ rest) (taking (Emit (These (codes "-")) ∷ []) (Switch there.ScriptDataDoubleEscapedDash) (45 ∷ [])) (λ x. refl) refl), (λ t m. refl))
    ((λ b m rest. by_entry (at_state m there.ScriptDataDoubleEscaped) (60 ∷ rest) (taking (Emit (These (codes "<")) ∷ []) (Switch there.ScriptDataDoubleEscapedLessThanSign) (60 ∷ [])) (λ x. refl) refl), (λ t m. refl))
    (λ t m. refl) (λ b m rest. by_entry (at_state m there.ScriptDataDoubleEscaped) (0 ∷ rest) (taking (Emit replacement ∷ []) Stay (0 ∷ [])) (λ x. refl) refl)
    (λ h45 h60 h0 b m rest. by_entry (at_state m there.ScriptDataDoubleEscaped) (c ∷ rest) (taking (Emit Current ∷ []) Stay (c ∷ [])) (λ x. rw (h45, h60, h0) refl) refl)

in_doubled_dash : (home : ScriptState) (c : ℕ) → Comes (script.Double double.Dash) home c (doubled_step_of double.DashDash c)
unfolding taken entries
in_doubled_dash home c =
    dashed (script.Double double.Dash) home (doubled double.DashDash) (doubled double.Escaped) (its.Text (doubled double.LessThan)) c
    ((λ b m rest. by_entry (at_state m there.ScriptDataDoubleEscapedDash) (45 ∷ rest) (taking (Emit (These (codes "-")) ∷ []) (Switch there.ScriptDataDoubleEscapedDashDash) (45 ∷ [])) (λ x. refl) refl), (λ t m. refl))
    ((λ b m rest. by_entry (at_state m there.ScriptDataDoubleEscapedDash) (60 ∷ rest) (taking (Emit (These (codes "<")) ∷ []) (Switch there.ScriptDataDoubleEscapedLessThanSign) (60 ∷ [])) (λ x. refl) refl), (λ t m. refl))
    (λ t m. refl) (λ b m rest. by_entry (at_state m there.ScriptDataDoubleEscapedDash) (0 ∷ rest) (taking (Emit replacement ∷ []) (Switch there.ScriptDataDoubleEscaped) (0 ∷ [])) (λ x. refl) refl)
    (λ h45 h60 h0 b m rest. by_entry (at_state m there.ScriptDataDoubleEscapedDash) (c ∷ rest) (taking (Emit Current ∷ []) (Switch there.ScriptDataDoubleEscaped) (c ∷ [])) (λ x. rw (h45, h60, h0) refl) refl)

in_doubled_dash_dash : (home : ScriptState) (c : ℕ) → Comes (script.Double double.DashDash) home c (double_step_of double.DashDash c)
unfolding taken entries
in_doubled_dash_dash home c =
    by_test (Comes (script.Double double.DashDash) home) c 62 (its.Text state.Script) (doubled_step_of double.DashDash c)
    ((λ b m rest. by_entry (at_state m there.ScriptDataDoubleEscapedDashDash) (62 ∷ rest) (taking (Emit (These (codes ">")) ∷ []) (Switch there.ScriptData) (62 ∷ [])) (λ x. refl) refl), (λ t m. refl))
    (λ h62. dashed (script.Double double.DashDash) home (doubled double.DashDash) (doubled double.Escaped) (its.Text (doubled double.LessThan)) c
    ((λ b m rest. by_entry (at_state m there.ScriptDataDoubleEscapedDashDash) (45 ∷ rest) (taking (Emit (These (codes "-")) ∷ []) Stay (45 ∷ [])) (λ x. refl) refl), (λ t m. refl))
    ((λ b m rest. by_entry (at_state m there.ScriptDataDoubleEscapedDashDash) (60 ∷ rest) (taking (Emit (These (codes "<")) ∷ []) (Switch there.ScriptDataDoubleEscapedLessThanSign) (60 ∷ [])) (λ x. refl) refl), (λ t m. refl))
    (λ t m. refl) (λ b m rest. by_entry (at_state m there.ScriptDataDoubleEscapedDashDash) (0 ∷ rest) (taking (Emit replacement ∷ []) (Switch there.ScriptDataDoubleEscaped) (0 ∷ [])) (λ x. refl) refl)
    (λ h45 h60 h0 b m rest. by_entry (at_state m there.ScriptDataDoubleEscapedDashDash) (c ∷ rest) (taking (Emit Current ∷ []) (Switch there.ScriptDataDoubleEscaped) (c ∷ [])) (λ x. rw (h45, h60, h62, h0) refl) refl))

in_doubled_less_than : (home : ScriptState) (c : ℕ) → Comes (script.Double double.LessThan) home c (double_step_of double.LessThan c)
unfolding taken entries
in_doubled_less_than home c =
    by_test (Comes (script.Double double.LessThan) home) c 47 its.Slash (doubled_step_of double.Dash c)
    (λ b m rest. by_entry (at_state m there.ScriptDataDoubleEscapedLessThanSign) (47 ∷ rest) (taking (SetEmpty Buffer ∷ Emit (These (codes "/")) ∷ []) (Switch there.ScriptDataDoubleEscapeEnd) (47 ∷ [])) (λ x. refl) refl)
    (λ h47. back (script.Double double.LessThan) (script.Double double.Escaped) home c (doubled_step_of double.Dash c)
    (λ b m rest. by_entry (at_state m there.ScriptDataDoubleEscapedLessThanSign) (c ∷ rest) (taking [] (Reconsume there.ScriptDataDoubleEscaped) (c ∷ [])) (λ x. rw h47 refl) refl) (in_doubled home c))

-- ---- names

at_start : (c : ℕ) → Comes script.DoubleStart script.DoubleStart c (script_step_of script.DoubleStart c)
unfolding taken entries
at_start c = go (ends_name c) refl (is_ascii_alphabetic c) refl
  where
    go : (x : Bool) → ends_name c ≡ x → (y : Bool) → is_ascii_alphabetic c ≡ y →
        Comes script.DoubleStart script.DoubleStart c (cond x (its.Named false) (cond y its.Letter (escaped_step_of script.EscapedDash c)))
    go true e y f = ((λ b m rest. start_named b m rest c e (bytes_eq m.buffer (codes "script")) refl), start_letters)
    go false e true f = start_letter c (ends_none c e) f
    go false e false f =
        let is : IsLetter c = ends_none c e in
        back script.DoubleStart script.Escaped script.DoubleStart c (escaped_step_of script.EscapedDash c)
        (λ b m rest. by_entry (at_state m there.ScriptDataDoubleEscapeStart) (c ∷ rest) (taking [] (Reconsume there.ScriptDataEscaped) (c ∷ []))
        (λ x. rw (is.tab, is.line_feed, is.form_feed, is.space, is.slash, is.greater, no_upper c f, no_lower c f) refl) refl) (in_escaped script.DoubleStart c)

at_end : (c : ℕ) → Comes (script.Double double.End) (script.Double double.End) c (double_step_of double.End c)
unfolding taken entries
at_end c = go (ends_name c) refl (is_ascii_alphabetic c) refl
  where
    go : (x : Bool) → ends_name c ≡ x → (y : Bool) → is_ascii_alphabetic c ≡ y →
        Comes (script.Double double.End) (script.Double double.End) c (cond x (its.Named true) (cond y its.Letter (doubled_step_of double.Dash c)))
    go true e y f = ((λ b m rest. end_named b m rest c e (bytes_eq m.buffer (codes "script")) refl), end_letters)
    go false e true f = end_letter c (ends_none c e) f
    go false e false f =
        let is : IsLetter c = ends_none c e in
        back (script.Double double.End) (script.Double double.Escaped) (script.Double double.End) c (doubled_step_of double.Dash c)
        (λ b m rest. by_entry (at_state m there.ScriptDataDoubleEscapeEnd) (c ∷ rest) (taking [] (Reconsume there.ScriptDataDoubleEscaped) (c ∷ []))
        (λ x. rw (is.tab, is.line_feed, is.form_feed, is.space, is.slash, is.greater, no_upper c f, no_lower c f) refl) refl) (in_doubled (script.Double double.End) c)

-- ---- where script data begins to be escaped

begins : (c : ℕ) → Comes script.EscapeStart script.EscapeStart c (script_step_of script.EscapeStart c)
unfolding taken entries
begins c =
    by_test (Comes script.EscapeStart script.EscapeStart) c 45 (its.Text (state.ScriptData script.EscapeStartDash)) its.Unescaped
    ((λ b m rest. by_entry (at_state m there.ScriptDataEscapeStart) (45 ∷ rest) (taking (Emit (These (codes "-")) ∷ []) (Switch there.ScriptDataEscapeStartDash) (45 ∷ [])) (λ x. refl) refl), (λ t m. refl))
    (λ h45 b m rest. by_entry (at_state m there.ScriptDataEscapeStart) (c ∷ rest) (taking [] (Reconsume there.ScriptData) (c ∷ [])) (λ x. rw h45 refl) refl)

begins_dash : (c : ℕ) → Comes script.EscapeStartDash script.EscapeStartDash c (script_step_of script.EscapeStartDash c)
unfolding taken entries
begins_dash c =
    by_test (Comes script.EscapeStartDash script.EscapeStartDash) c 45 (its.Text (state.ScriptData script.EscapedDashDash)) its.Unescaped
    ((λ b m rest. by_entry (at_state m there.ScriptDataEscapeStartDash) (45 ∷ rest) (taking (Emit (These (codes "-")) ∷ []) (Switch there.ScriptDataEscapedDashDash) (45 ∷ [])) (λ x. refl) refl), (λ t m. refl))
    (λ h45 b m rest. by_entry (at_state m there.ScriptDataEscapeStartDash) (c ∷ rest) (taking [] (Reconsume there.ScriptData) (c ∷ [])) (λ x. rw h45 refl) refl)

pub comes : (inner : ScriptState) (c : ℕ) → Comes inner inner c (script_step_of inner c)
comes script.EscapeStart c = begins c
comes script.EscapeStartDash c = begins_dash c
comes script.Escaped c = in_escaped script.Escaped c
comes script.EscapedDash c = in_escaped_dash script.EscapedDash c
comes script.EscapedDashDash c = in_escaped_dash_dash script.EscapedDashDash c
comes script.DoubleStart c = at_start c
comes (script.Double double.Escaped) c = in_doubled (script.Double double.Escaped) c
comes (script.Double double.Dash) c = in_doubled_dash (script.Double double.Dash) c
comes (script.Double double.DashDash) c = in_doubled_dash_dash (script.Double double.DashDash) c
comes (script.Double double.LessThan) c = in_doubled_less_than (script.Double double.LessThan) c
comes (script.Double double.End) c = at_end c
