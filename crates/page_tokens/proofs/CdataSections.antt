-- The tokenizer reads CDATA sections as the standard does.
use Rattle.std.specs.Prelude.{◌≡◌, ℕ, Bool, false, ◌==◌, cond, List, [], ◌∷◌, ◌++◌, codes, Option, None, Result, Ok, Err, IfOk, OnOk, refl}
use Rattle.std.specs.Char.{encode_utf8}
use Rattle.std.specs.Str.{encode_utf8_all}
use Rattle.std.proofs.lemmas.List.{append-nil}
use Rattle.std.proofs.lemmas.Str.{encodes-append}
use mathlib.Core.Path.{◌∙◌, sym, ap, subst}
use Rattle.standard_tokens.specs.Entries.{Current, Emit, Reconsume, Stay, Switch, These}
use Rattle.standard_tokens.specs.Machine.{Machine, at_state, taken}
use Rattle.standard_tokens.specs.States as there
use Rattle.standard_tokens.specs.Table.{entries}
use Rattle.page_tokens.specs.Standard.{Follows}
use Rattle.page_tokens.specs.StandardStates.{state_of}
use Rattle.page_tokens.specs.TextStates.{TextGoesOn, brackets_of, cdata_step_of}
use Rattle.page_tokens.specs.declared.token.TokenKind.{TokenKind}
use Rattle.page_tokens.specs.declared.tokenizer.Tokenizer.{Tokenizer}
use Rattle.page_tokens.specs.declared.tokenizer.state.CdataState.{CdataState}
use Rattle.page_tokens.specs.declared.tokenizer.state.CdataState.TheVariants as cdata
use Rattle.page_tokens.specs.declared.tokenizer.state.State.{State}
use Rattle.page_tokens.specs.declared.tokenizer.state.State.TheVariants as state
use Rattle.page_tokens.specs.declared.tokenizer.text.CdataStep.{CdataStep}
use Rattle.page_tokens.specs.declared.tokenizer.text.CdataStep.TheVariants as its
use Rattle.page_tokens.proofs.StandardSteps.{by_entry, by_test, taking, then_on}
use Rattle.page_tokens.proofs.Switches.{ReadsNothingAhead, switches}
use Rattle.page_tokens.proofs.TextFollows.{HoldsNothing, Over, character_follows, goes_on_over, text_twice}

-- the entry only changes the state
abbrev Only : State → ℕ → State → Type 0
Only from c to = (b : Bool) (m : Machine) (rest : List ℕ) → taken b (at_state m (state_of from)) (c ∷ rest) (entries (state_of from)) ≡ taking [] (Switch (state_of to)) (c ∷ [])

abbrev Comes : CdataState → ℕ → CdataStep → Type 0
Comes inner c (its.Then next) = Only (state.Cdata inner) c next × HoldsNothing next
Comes inner c its.Bracket = Over (state.Cdata inner) (state.Cdata cdata.End) c (c ∷ [])
Comes inner c its.Text = Over (state.Cdata inner) (state.Cdata cdata.Section) c (brackets_of inner ++ c ∷ [])

pub section_over : (c : ℕ) → (93 == c) ≡ false → Over (state.Cdata cdata.Section) (state.Cdata cdata.Section) c (c ∷ [])
unfolding taken entries
section_over c h93 b m rest = by_entry (at_state m there.CDATASection) (c ∷ rest) (taking (Emit Current ∷ []) Stay (c ∷ [])) (λ x. rw h93 refl) refl

bracket_over : (c : ℕ) → (93 == c) ≡ false → Over (state.Cdata cdata.Bracket) (state.Cdata cdata.Section) c (93 ∷ c ∷ [])
unfolding taken entries
bracket_over c h93 b m rest =
    then_on (by_entry (at_state m there.CDATASectionBracket) (c ∷ rest) (taking (Emit (These (codes "]")) ∷ []) (Reconsume there.CDATASection) (c ∷ [])) (λ x. rw h93 refl) refl) (section_over c h93 b m rest)

end_over : (c : ℕ) → (93 == c) ≡ false → (62 == c) ≡ false → Over (state.Cdata cdata.End) (state.Cdata cdata.Section) c (93 ∷ 93 ∷ c ∷ [])
unfolding taken entries
end_over c h93 h62 b m rest =
    then_on (by_entry (at_state m there.CDATASectionEnd) (c ∷ rest) (taking (Emit (These (codes "]]")) ∷ []) (Reconsume there.CDATASection) (c ∷ [])) (λ x. rw (h93, h62) refl) refl) (section_over c h93 b m rest)

comes : (inner : CdataState) (c : ℕ) → Comes inner c (cdata_step_of inner c)
unfolding taken entries
comes cdata.Section c =
    by_test (Comes cdata.Section) c 93 (its.Then (state.Cdata cdata.Bracket)) its.Text ((λ b m rest. refl), (λ t m. refl)) (λ h93. section_over c h93)
comes cdata.Bracket c =
    by_test (Comes cdata.Bracket) c 93 (its.Then (state.Cdata cdata.End)) its.Text ((λ b m rest. refl), (λ t m. refl)) (λ h93. bracket_over c h93)
comes cdata.End c =
    by_test (Comes cdata.End) c 93 its.Bracket (cond (c == 62) (its.Then state.Data) its.Text)
    (λ b m rest. by_entry (at_state m there.CDATASectionEnd) (93 ∷ rest) (taking (Emit (These (codes "]")) ∷ []) Stay (93 ∷ [])) (λ x. refl) refl)
    (λ h93. by_test (Comes cdata.End) c 62 (its.Then state.Data) its.Text ((λ b m rest. refl), (λ t m. refl)) (λ h62. end_over c h93 h62))

plain : (inner : CdataState) → encode_utf8_all (brackets_of inner) ≡ brackets_of inner
unfolding encode_utf8
plain cdata.Section = refl
plain cdata.Bracket = refl
plain cdata.End = refl

nothing : (inner : CdataState) → ReadsNothingAhead (state.Cdata inner)
nothing inner t ahead m held = held

pub then_arm : {E : Type 0} (old new : Tokenizer) (inner : CdataState) (next : State) (c : ℕ) (r : Result (Option TokenKind) E) → old.state ≡ state.Cdata inner → its.Then next ≡ cdata_step_of inner c →
    new ≡ record old { state = next } → IfOk r (λ told. told ≡ None) → Follows old new (c ∷ []) r
then_arm old new inner next c (Ok told) is came only told_is = λ none.
    let steps : Comes inner c (its.Then next) = subst (Comes inner c) (sym came) (comes inner c) in
    switches old new (state.Cdata inner) next c told is only told_is none steps.0 (nothing inner) (λ t other ahead m held. steps.1 _ _)
then_arm old new inner next c (Err e) is came only told_is = tt

pub bracket_arm : {E : Type 0} (old new : Tokenizer) (inner : CdataState) (c : ℕ) (r : Result (Option TokenKind) E) → old.state ≡ state.Cdata inner → its.Bracket ≡ cdata_step_of inner c →
    OnOk r (new.refused ≡ false → TextGoesOn old new (state.Cdata cdata.End) (encode_utf8 c)) → IfOk r (λ told. told ≡ None) → Follows old new (c ∷ []) r
bracket_arm old new inner c (Ok told) is came goes told_is = λ none.
    character_follows old old new (state.Cdata inner) (state.Cdata cdata.End) c told is refl (λ e. e) (goes none) told_is (subst (Comes inner c) (sym came) (comes inner c)) (nothing inner) (λ t m. refl)
bracket_arm old new inner c (Err e) is came goes told_is = tt

pub text_arm : {E : Type 0} (old mid new : Tokenizer) (inner : CdataState) (c : ℕ) (r : Result (Option TokenKind) E) (bytes : List ℕ) → old.state ≡ state.Cdata inner → its.Text ≡ cdata_step_of inner c →
    bytes ≡ brackets_of inner → (mid.refused ≡ false → TextGoesOn old mid old.state bytes) → OnOk r (new.refused ≡ false → TextGoesOn mid new (state.Cdata cdata.Section) (encode_utf8 c)) → IfOk r (λ told. told ≡ None) →
    Follows old new (c ∷ []) r
text_arm old mid new inner c (Ok told) bytes is came bytes_are first second told_is = λ none.
    goes_on_over old old new (state.Cdata inner) (state.Cdata cdata.Section) c (brackets_of inner ++ c ∷ []) (bytes ++ encode_utf8 c) told is refl (λ e. e)
    (text_twice old mid new old.state (state.Cdata cdata.Section) bytes (encode_utf8 c) first (second none))
    (ap (λ e. e ++ encode_utf8 c) (bytes_are ∙ sym (plain inner)) ∙ ap (λ e. encode_utf8_all (brackets_of inner) ++ e) (sym (append-nil (encode_utf8 c))) ∙ sym (encodes-append (brackets_of inner) (c ∷ []))) told_is
    (subst (Comes inner c) (sym came) (comes inner c)) (nothing inner) (λ t m. refl)
text_arm old mid new inner c (Err e) bytes is came bytes_are first second told_is = tt
