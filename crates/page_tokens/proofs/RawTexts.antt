-- The tokenizer reads the data state and the texts that one kind of end tag ends as the standard does.
use Rattle.std.specs.Prelude.{◌≡◌, ℕ, false, ◌==◌, cond, [], ◌∷◌, Option, None, Result, Ok, Err, IfOk, OnOk, encode_utf8, refl}
use Rattle.std.proofs.lemmas.Bool.{ne_eqb}
use mathlib.Core.Path.{sym, subst}
use Rattle.standard_tokens.specs.Entries.{Current, Emit, replacement, Stay}
use Rattle.standard_tokens.specs.Machine.{at_state, taken}
use Rattle.standard_tokens.specs.States as there
use Rattle.standard_tokens.specs.Table.{entries}
use Rattle.standard_tokens.specs.Tokens.{AChar}
use Rattle.page_tokens.specs.Changes.{Gains, Remembers}
use Rattle.page_tokens.specs.Comments.{shown_of}
use Rattle.page_tokens.specs.Standard.{Follows, FollowsStandard, Goes}
use Rattle.page_tokens.specs.TextStates.{BeginsReference, IsReadRaw, TextGoesOn, raw_state_of}
use Rattle.page_tokens.specs.declared.token.TokenKind.{TokenKind}
use Rattle.page_tokens.specs.declared.tokenizer.Tokenizer.{Tokenizer}
use Rattle.page_tokens.specs.declared.tokenizer.state.EndTagState.TheVariants as end_tag
use Rattle.page_tokens.specs.declared.tokenizer.state.Place.TheVariants as place
use Rattle.page_tokens.specs.declared.tokenizer.state.Raw.{Raw}
use Rattle.page_tokens.specs.declared.tokenizer.state.Raw.TheVariants as raw
use Rattle.page_tokens.specs.declared.tokenizer.state.State.TheVariants as state
use Rattle.page_tokens.specs.declared.tokenizer.state.TagState.TheVariants as tag
use Rattle.page_tokens.proofs.StandardSteps.{by_bool, by_entry, taking}
use Rattle.page_tokens.proofs.Switches.{switches}
use Rattle.page_tokens.proofs.TextFollows.{Over, OnlyErrors, begins_reference, character_follows, letter_follows}

-- ---- the data state

pub data_over : (c : ℕ) → (38 == c) ≡ false → (60 == c) ≡ false → Over state.Data state.Data c (c ∷ [])
unfolding taken entries
data_over c h38 h60 b m rest =
    by_bool (λ e x. Goes (at_state m there.Data) (e ∷ rest) (AChar e ∷ []) (at_state m there.Data) rest) c 0
    (by_entry (at_state m there.Data) (0 ∷ rest) (taking (Emit Current ∷ []) Stay (0 ∷ [])) (λ x. refl) refl)
    (λ h0. by_entry (at_state m there.Data) (c ∷ rest) (taking (Emit Current ∷ []) Stay (c ∷ [])) (λ x. rw (h38, h60, h0) refl) refl)

pub data_reference_arm : {E : Type 0} (old new : Tokenizer) (c : ℕ) (r : Result (Option TokenKind) E) → old.state ≡ state.Data → c ≡ 38 → OnOk r (BeginsReference old new) → IfOk r (λ told. told ≡ None) →
    Follows old new (c ∷ []) r
unfolding taken entries
data_reference_arm old new c (Ok told) is at begins told_is = λ none. subst (λ d. FollowsStandard old new (d ∷ []) told) (sym at)
    (begins_reference old new state.Data told is tt begins told_is none (λ b m rest. refl) (λ t ahead m held. held) (λ m ahead held. refl))
data_reference_arm old new c (Err e) is at begins told_is = tt

pub tag_opens_arm : {E : Type 0} (old new : Tokenizer) (c : ℕ) (r : Result (Option TokenKind) E) → old.state ≡ state.Data → c ≡ 60 → new ≡ record old { state = state.Tag tag.Open } →
    IfOk r (λ told. told ≡ None) → Follows old new (c ∷ []) r
unfolding taken entries
tag_opens_arm old new c (Ok told) is at only told_is = λ none. subst (λ d. FollowsStandard old new (d ∷ []) told) (sym at)
    (switches old new state.Data (state.Tag tag.Open) 60 told is only told_is none (λ b m rest. refl) (λ t ahead m held. held) (λ t other ahead m held. refl))
tag_opens_arm old new c (Err e) is at only told_is = tt

pub data_arm : {E : Type 0} (old mid new : Tokenizer) (c : ℕ) (r : Result (Option TokenKind) E) → old.state ≡ state.Data → (c ≡ 38 → ⊥) → (c ≡ 60 → ⊥) → OnlyErrors old mid → Remembers old mid →
    OnOk r (new.refused ≡ false → TextGoesOn mid new state.Data (encode_utf8 c)) → IfOk r (λ told. told ≡ None) → Follows old new (c ∷ []) r
data_arm old mid new c (Ok told) is no_reference no_tag only remembers goes told_is = λ none.
    character_follows old mid new state.Data state.Data c told is only remembers (goes none) told_is (data_over c (ne_eqb 38 c (λ e. no_reference (sym e))) (ne_eqb 60 c (λ e. no_tag (sym e))))
    (λ t ahead m held. held) (λ t m. refl)
data_arm old mid new c (Err e) is no_reference no_tag only remembers goes told_is = tt

-- ---- RCDATA, RAWTEXT, script data, PLAINTEXT

pub rcdata_reference_arm : {E : Type 0} (old new : Tokenizer) (c : ℕ) (r : Result (Option TokenKind) E) → old.state ≡ state.Rcdata → c ≡ 38 → OnOk r (BeginsReference old new) → IfOk r (λ told. told ≡ None) →
    Follows old new (c ∷ []) r
unfolding taken entries
rcdata_reference_arm old new c (Ok told) is at begins told_is = λ none. subst (λ d. FollowsStandard old new (d ∷ []) told) (sym at)
    (begins_reference old new state.Rcdata told is tt begins told_is none (λ b m rest. refl) (λ t ahead m held. held) (λ m ahead held. refl))
rcdata_reference_arm old new c (Err e) is at begins told_is = tt

end_tag_begins : (old new : Tokenizer) (which : Raw) (told : Option TokenKind) → old.state ≡ raw_state_of which → IsReadRaw which 60 → new ≡ record old { state = state.EndTag which end_tag.LessThan } → told ≡ None →
    new.refused ≡ false → FollowsStandard old new (60 ∷ []) told
unfolding taken entries
end_tag_begins old new raw.Rcdata told is reads only told_is none =
    switches old new state.Rcdata (state.EndTag raw.Rcdata end_tag.LessThan) 60 told is only told_is none (λ b m rest. refl) (λ t ahead m held. held) (λ t other ahead m held. refl)
end_tag_begins old new raw.Rawtext told is reads only told_is none =
    switches old new state.Rawtext (state.EndTag raw.Rawtext end_tag.LessThan) 60 told is only told_is none (λ b m rest. refl) (λ t ahead m held. held) (λ t other ahead m held. refl)
end_tag_begins old new raw.Script told is reads only told_is none =
    switches old new state.Script (state.EndTag raw.Script end_tag.LessThan) 60 told is only told_is none (λ b m rest. refl) (λ t ahead m held. held) (λ t other ahead m held. refl)
end_tag_begins old new raw.Escaped told is reads only told_is none = absurd reads

pub end_tag_begins_arm : {E : Type 0} (old new : Tokenizer) (which : Raw) (c : ℕ) (r : Result (Option TokenKind) E) → old.state ≡ raw_state_of which → IsReadRaw which c → c ≡ 60 →
    new ≡ record old { state = state.EndTag which end_tag.LessThan } → IfOk r (λ told. told ≡ None) → Follows old new (c ∷ []) r
end_tag_begins_arm old new which c (Ok told) is reads at only told_is = λ none. subst (λ d. FollowsStandard old new (d ∷ []) told) (sym at)
    (end_tag_begins old new which told is (subst (IsReadRaw which) at reads) only told_is none)
end_tag_begins_arm old new which c (Err e) is reads at only told_is = tt

pub rcdata_over : (c : ℕ) → (38 == c) ≡ false → (60 == c) ≡ false → Over state.Rcdata state.Rcdata c (shown_of c ∷ [])
unfolding taken entries
rcdata_over c h38 h60 b m rest =
    by_bool (λ e x. Goes (at_state m there.RCDATA) (e ∷ rest) (AChar (cond x 0xfffd e) ∷ []) (at_state m there.RCDATA) rest) c 0
    (by_entry (at_state m there.RCDATA) (0 ∷ rest) (taking (Emit replacement ∷ []) Stay (0 ∷ [])) (λ x. refl) refl)
    (λ h0. by_entry (at_state m there.RCDATA) (c ∷ rest) (taking (Emit Current ∷ []) Stay (c ∷ [])) (λ x. rw (h38, h60, h0) refl) refl)

pub rawtext_over : (c : ℕ) → (60 == c) ≡ false → Over state.Rawtext state.Rawtext c (shown_of c ∷ [])
unfolding taken entries
rawtext_over c h60 b m rest =
    by_bool (λ e x. Goes (at_state m there.RAWTEXT) (e ∷ rest) (AChar (cond x 0xfffd e) ∷ []) (at_state m there.RAWTEXT) rest) c 0
    (by_entry (at_state m there.RAWTEXT) (0 ∷ rest) (taking (Emit replacement ∷ []) Stay (0 ∷ [])) (λ x. refl) refl)
    (λ h0. by_entry (at_state m there.RAWTEXT) (c ∷ rest) (taking (Emit Current ∷ []) Stay (c ∷ [])) (λ x. rw (h60, h0) refl) refl)

pub script_over : (c : ℕ) → (60 == c) ≡ false → Over state.Script state.Script c (shown_of c ∷ [])
unfolding taken entries
script_over c h60 b m rest =
    by_bool (λ e x. Goes (at_state m there.ScriptData) (e ∷ rest) (AChar (cond x 0xfffd e) ∷ []) (at_state m there.ScriptData) rest) c 0
    (by_entry (at_state m there.ScriptData) (0 ∷ rest) (taking (Emit replacement ∷ []) Stay (0 ∷ [])) (λ x. refl) refl)
    (λ h0. by_entry (at_state m there.ScriptData) (c ∷ rest) (taking (Emit Current ∷ []) Stay (c ∷ [])) (λ x. rw (h60, h0) refl) refl)

pub plaintext_over : (c : ℕ) → Over state.Plaintext state.Plaintext c (shown_of c ∷ [])
unfolding taken entries
plaintext_over c b m rest =
    by_bool (λ e x. Goes (at_state m there.PLAINTEXT) (e ∷ rest) (AChar (cond x 0xfffd e) ∷ []) (at_state m there.PLAINTEXT) rest) c 0
    (by_entry (at_state m there.PLAINTEXT) (0 ∷ rest) (taking (Emit replacement ∷ []) Stay (0 ∷ [])) (λ x. refl) refl)
    (λ h0. by_entry (at_state m there.PLAINTEXT) (c ∷ rest) (taking (Emit Current ∷ []) Stay (c ∷ [])) (λ x. rw h0 refl) refl)

raw_letter : (old new : Tokenizer) (which : Raw) (c : ℕ) (told : Option TokenKind) → old.state ≡ raw_state_of which → IsReadRaw which c → (60 == c) ≡ false →
    Gains place.Text old new (encode_utf8 (shown_of c)) → Remembers old new → told ≡ None → new.refused ≡ false → FollowsStandard old new (c ∷ []) told
raw_letter old new raw.Rcdata c told is reads h60 gains keeps told_is none =
    letter_follows old new state.Rcdata c told is gains keeps told_is none (rcdata_over c reads h60) (λ t ahead m held. held) (λ t m. refl)
raw_letter old new raw.Rawtext c told is reads h60 gains keeps told_is none =
    letter_follows old new state.Rawtext c told is gains keeps told_is none (rawtext_over c h60) (λ t ahead m held. held) (λ t m. refl)
raw_letter old new raw.Script c told is reads h60 gains keeps told_is none =
    letter_follows old new state.Script c told is gains keeps told_is none (script_over c h60) (λ t ahead m held. held) (λ t m. refl)
raw_letter old new raw.Escaped c told is reads h60 gains keeps told_is none = absurd reads

pub raw_arm : {E : Type 0} (old new : Tokenizer) (which : Raw) (c : ℕ) (r : Result (Option TokenKind) E) → old.state ≡ raw_state_of which → IsReadRaw which c → (c ≡ 60 → ⊥) →
    OnOk r (Gains place.Text old new (encode_utf8 (shown_of c))) → Remembers old new → IfOk r (λ told. told ≡ None) → Follows old new (c ∷ []) r
raw_arm old new which c (Ok told) is reads no_tag gains keeps told_is = λ none. raw_letter old new which c told is reads (ne_eqb 60 c (λ e. no_tag (sym e))) gains keeps told_is none
raw_arm old new which c (Err e) is reads no_tag gains keeps told_is = tt

pub plaintext_arm : {E : Type 0} (old new : Tokenizer) (c : ℕ) (r : Result (Option TokenKind) E) → old.state ≡ state.Plaintext → OnOk r (Gains place.Text old new (encode_utf8 (shown_of c))) → Remembers old new →
    IfOk r (λ told. told ≡ None) → Follows old new (c ∷ []) r
plaintext_arm old new c (Ok told) is gains keeps told_is = λ none.
    letter_follows old new state.Plaintext c told is gains keeps told_is none (plaintext_over c) (λ t ahead m held. held) (λ t m. refl)
plaintext_arm old new c (Err e) is gains keeps told_is = tt
