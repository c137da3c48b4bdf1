-- The tokenizer reads escaped script data as the standard does.
use Rattle.std.specs.Prelude.{◌≡◌, ℕ, Bool, true, false, List, [], ◌∷◌, ◌++◌, codes, Option, None, Result, Ok, Err, IfOk, OnOk, string_bytes, refl}
use Rattle.std.specs.Char.{encode_utf8, to_ascii_lowercase}
use Rattle.std.specs.Str.{bytes_eq, encode_utf8_all}
use Rattle.std.proofs.lemmas.List.{append-nil}
use mathlib.Core.Path.{◌∙◌, sym, ap, subst}
use Rattle.standard_tokens.specs.Machine.{Machine, at_state}
use Rattle.standard_tokens.specs.States as there
use Rattle.standard_tokens.specs.Tokens.{AChar}
use Rattle.page_tokens.specs.Comments.{shown_of}
use Rattle.page_tokens.specs.ScriptStates.{AddsLetter, behind_name_of, doubled, script_step_of}
use Rattle.page_tokens.specs.Standard.{Follows, FollowsStandard, Goes, Held, Spells, Stands}
use Rattle.page_tokens.specs.StandardStates.{script_state_of, state_of}
use Rattle.page_tokens.specs.TextStates.{TextGoesOn}
use Rattle.page_tokens.specs.declared.token.TokenKind.{TokenKind}
use Rattle.page_tokens.specs.declared.tokenizer.Tokenizer.{Tokenizer}
use Rattle.page_tokens.specs.declared.tokenizer.script_data.ScriptStep.TheVariants as its
use Rattle.page_tokens.specs.declared.tokenizer.state.DoubleState.TheVariants as double
use Rattle.page_tokens.specs.declared.tokenizer.state.EndTagState.TheVariants as end_tag
use Rattle.page_tokens.specs.declared.tokenizer.state.Raw.TheVariants as raw
use Rattle.page_tokens.specs.declared.tokenizer.state.ScriptState.{ScriptState}
use Rattle.page_tokens.specs.declared.tokenizer.state.ScriptState.TheVariants as script
use Rattle.page_tokens.specs.declared.tokenizer.state.State.{State}
use Rattle.page_tokens.specs.declared.tokenizer.state.State.TheVariants as state
use Rattle.page_tokens.proofs.DeclarationFollows.{one_more}
use Rattle.page_tokens.proofs.RepeatedAttributes.{same_names}
use Rattle.page_tokens.proofs.ScriptSteps.{Comes, comes}
use Rattle.page_tokens.proofs.StandardSteps.{in_its_state}
use Rattle.page_tokens.proofs.Switches.{ReadsNothingAhead}
use Rattle.page_tokens.proofs.TextFollows.{HoldsNothing, emits_text, goes_on_before, goes_on_over, moved}

nothing : (inner : ScriptState) → ReadsNothingAhead (state.ScriptData inner)
nothing script.EscapeStart t ahead m held = held
nothing script.EscapeStartDash t ahead m held = held
nothing script.Escaped t ahead m held = held
nothing script.EscapedDash t ahead m held = held
nothing script.EscapedDashDash t ahead m held = held
nothing script.DoubleStart t ahead m held = held.0
nothing (script.Double double.Escaped) t ahead m held = held
nothing (script.Double double.Dash) t ahead m held = held
nothing (script.Double double.DashDash) t ahead m held = held
nothing (script.Double double.LessThan) t ahead m held = held
nothing (script.Double double.End) t ahead m held = held.0

-- the machine in front of the character
record Before (old : Tokenizer) (inner : ScriptState) (ahead : List ℕ) (m : Machine) : Type 0 where
  pub nothing : ahead ≡ []
  pub machine : at_state m (script_state_of inner) ≡ m
  pub held : Held (state.ScriptData inner) old ahead m

before : (old : Tokenizer) (inner : ScriptState) (ahead : List ℕ) (m : Machine) → old.state ≡ state.ScriptData inner → Stands old ahead m → Before old inner ahead m
before old inner ahead m is stands =
    let held : Held (state.ScriptData inner) old ahead m = subst (λ s. Held s old ahead m) is stands.held in
    record { nothing = nothing inner old ahead m held; machine = in_its_state m (script_state_of inner) (stands.state ∙ ap state_of is); held = held }

pub text_arm : {E : Type 0} (old new : Tokenizer) (inner : ScriptState) (next : State) (c : ℕ) (r : Result (Option TokenKind) E) → old.state ≡ state.ScriptData inner → its.Text next ≡ script_step_of inner c →
    OnOk r (new.refused ≡ false → TextGoesOn old new next (encode_utf8 (shown_of c))) → IfOk r (λ told. told ≡ None) → Follows old new (c ∷ []) r
text_arm old new inner next c (Ok told) is came goes told_is = λ none.
    let steps : Comes inner inner c (its.Text next) = subst (Comes inner inner c) (sym came) (comes inner c) in
    goes_on_over old old new (state.ScriptData inner) next c (shown_of c ∷ []) (encode_utf8 (shown_of c)) told is refl (λ e. e) (goes none) (sym (append-nil (encode_utf8 (shown_of c)))) told_is steps.0 (nothing inner) steps.1
text_arm old new inner next c (Err e) is came goes told_is = tt

pub less_than_arm : {E : Type 0} (old new : Tokenizer) (inner : ScriptState) (c : ℕ) (r : Result (Option TokenKind) E) → old.state ≡ state.ScriptData inner → its.LessThan ≡ script_step_of inner c →
    new ≡ record old { state = state.EndTag raw.Escaped end_tag.LessThan } → IfOk r (λ told. told ≡ None) → Follows old new (c ∷ []) r
less_than_arm old new inner c (Ok told) is came only told_is = λ none.
    let steps : Comes inner inner c its.LessThan = subst (Comes inner inner c) (sym came) (comes inner c) in
    goes_on_over old old new (state.ScriptData inner) (state.EndTag raw.Escaped end_tag.LessThan) c [] [] told is refl (λ e. e) (moved old new (state.EndTag raw.Escaped end_tag.LessThan) only none) refl told_is steps
    (nothing inner) (λ t m. refl)
less_than_arm old new inner c (Err e) is came only told_is = tt

pub unescaped_arm : {E : Type 0} (old mid new : Tokenizer) (inner : ScriptState) (c : ℕ) (r : Result (Option TokenKind) E) → old.state ≡ state.ScriptData inner → its.Unescaped ≡ script_step_of inner c →
    mid ≡ record old { state = state.Script } → Follows mid new (c ∷ []) r → Follows old new (c ∷ []) r
unescaped_arm old mid new inner c (Ok told) is came only follows = λ none.
    goes_on_before old mid new (state.ScriptData inner) state.Script c [] [] told is (moved old mid state.Script only) refl (subst (Comes inner inner c) (sym came) (comes inner c)) (nothing inner) (λ t m. refl) (follows none)
unescaped_arm old mid new inner c (Err e) is came only follows = tt

-- ---- names

slash_follows : (old mid new : Tokenizer) (inner : ScriptState) (c : ℕ) → old.state ≡ state.ScriptData inner → its.Slash ≡ script_step_of inner c → mid ≡ record old { letters = mid.letters } → string_bytes mid.letters ≡ [] →
    TextGoesOn mid new (doubled double.End) (encode_utf8 c) → FollowsStandard old new (c ∷ []) None
slash_follows old mid new inner c is came cleared empty goes =
    let made : Tokenizer = record old { state = doubled double.End; letters = mid.letters; text = new.text; errors = new.errors; refused = new.refused } in
    let new_is : new ≡ made = goes.only ∙ ap {A = Tokenizer} (λ t. record t { state = doubled double.End; text = new.text; errors = new.errors; refused = new.refused }) cleared in
    let text : string_bytes new.text ≡ string_bytes old.text ++ encode_utf8_all (c ∷ []) =
    goes.text ∙ ap (λ t. string_bytes t.text ++ encode_utf8 c) cleared ∙ ap (λ e. string_bytes old.text ++ e) (sym (append-nil (encode_utf8 c))) in
    let steps : Comes inner inner c its.Slash = subst (Comes inner inner c) (sym came) (comes inner c) in
    subst (λ t. FollowsStandard old t (c ∷ []) None) (sym new_is)
    (emits_text old made (c ∷ []) (c ∷ []) (sym (ap (λ t. t.refused) cleared) ∙ goes.memory) (record { in_foreign = refl; after_return = refl }) text (λ m ahead rest stands.
    let at : Before old inner ahead m = before old inner ahead m is stands in
    let b : Bool = old.in_foreign in
    let n : Machine = record m { state = there.ScriptDataDoubleEscapeEnd; buffer = [] } in
    record {
      machine = n;
      goes = subst (λ front. Goes m (front ++ (c ∷ []) ++ rest) (AChar c ∷ []) n rest) (sym at.nothing) (subst (λ k. Goes k (c ∷ rest) (AChar c ∷ []) n rest) at.machine (steps b m rest));
      stands = record { reference = stands.reference; state = refl; last_start = stands.last_start; held = (refl, empty) };
    }))

pub slash_arm : {E : Type 0} (old mid new : Tokenizer) (inner : ScriptState) (c : ℕ) (r : Result (Option TokenKind) E) → old.state ≡ state.ScriptData inner → its.Slash ≡ script_step_of inner c →
    mid ≡ record old { letters = mid.letters } → string_bytes mid.letters ≡ [] → OnOk r (new.refused ≡ false → TextGoesOn mid new (doubled double.End) (encode_utf8 c)) → IfOk r (λ told. told ≡ None) →
    Follows old new (c ∷ []) r
slash_arm old mid new inner c (Ok told) is came cleared empty goes told_is = λ none.
    subst (λ k. FollowsStandard old new (c ∷ []) k) (sym told_is) (slash_follows old mid new inner c is came cleared empty (goes none))
slash_arm old mid new inner c (Err e) is came cleared empty goes told_is = tt

letter_follows : (old new : Tokenizer) (inner : ScriptState) (c : ℕ) → old.state ≡ state.ScriptData inner → its.Letter ≡ script_step_of inner c → AddsLetter old new c → new.refused ≡ false →
    FollowsStandard old new (c ∷ []) None
letter_follows old new inner c is came adds none =
    let made : Tokenizer = record old { letters = new.letters; text = new.text } in
    let text : string_bytes new.text ≡ string_bytes old.text ++ encode_utf8_all (c ∷ []) = adds.text ∙ ap (λ e. string_bytes old.text ++ e) (sym (append-nil (encode_utf8 c))) in
    let steps : Comes inner inner c its.Letter = subst (Comes inner inner c) (sym came) (comes inner c) in
    subst (λ t. FollowsStandard old t (c ∷ []) None) (sym adds.only)
    (emits_text old made (c ∷ []) (c ∷ []) (sym (ap (λ t. t.refused) adds.only) ∙ none) (record { in_foreign = refl; after_return = refl }) text (λ m ahead rest stands.
    let at : Before old inner ahead m = before old inner ahead m is stands in
    let b : Bool = old.in_foreign in
    let n : Machine = record m { state = script_state_of inner; buffer = m.buffer ++ to_ascii_lowercase c ∷ [] } in
    let letters : Spells made.letters n.buffer = one_more (string_bytes new.letters) (string_bytes old.letters) m.buffer (to_ascii_lowercase c) adds.letters (steps.1.0 old ahead m at.held) in
    record {
      machine = n;
      goes = subst (λ front. Goes m (front ++ (c ∷ []) ++ rest) (AChar c ∷ []) n rest) (sym at.nothing) (subst (λ k. Goes k (c ∷ rest) (AChar c ∷ []) n rest) at.machine (steps.0 b m rest));
      stands = record { reference = stands.reference; state = ap state_of (sym is); last_start = stands.last_start; held = subst (λ s. Held s made [] n) (sym is) (steps.1.1 made n letters) };
    }))

pub letter_arm : {E : Type 0} (old new : Tokenizer) (inner : ScriptState) (c : ℕ) (r : Result (Option TokenKind) E) → old.state ≡ state.ScriptData inner → its.Letter ≡ script_step_of inner c → OnOk r (AddsLetter old new c) →
    IfOk r (λ told. told ≡ None) → Follows old new (c ∷ []) r
letter_arm old new inner c (Ok told) is came adds told_is = λ none. subst (λ k. FollowsStandard old new (c ∷ []) k) (sym told_is) (letter_follows old new inner c is came adds none)
letter_arm old new inner c (Err e) is came adds told_is = tt

behind_holds : (is_end is_script : Bool) → HoldsNothing (behind_name_of is_end is_script)
behind_holds false true t m = refl
behind_holds false false t m = refl
behind_holds true true t m = refl
behind_holds true false t m = refl

script_spells : codes "script" ≡ encode_utf8_all (codes "script")
unfolding encode_utf8
script_spells = refl

named_follows : (old new : Tokenizer) (inner : ScriptState) (is_end : Bool) (c : ℕ) → old.state ≡ state.ScriptData inner → its.Named is_end ≡ script_step_of inner c →
    TextGoesOn old new (behind_name_of is_end (bytes_eq (string_bytes old.letters) (codes "script"))) (encode_utf8 c) → FollowsStandard old new (c ∷ []) None
named_follows old new inner is_end c is came goes =
    let is_script : Bool = bytes_eq (string_bytes old.letters) (codes "script") in
    let made : Tokenizer = record old { state = behind_name_of is_end is_script; text = new.text; errors = new.errors; refused = new.refused } in
    let text : string_bytes new.text ≡ string_bytes old.text ++ encode_utf8_all (c ∷ []) = goes.text ∙ ap (λ e. string_bytes old.text ++ e) (sym (append-nil (encode_utf8 c))) in
    let steps : Comes inner inner c (its.Named is_end) = subst (Comes inner inner c) (sym came) (comes inner c) in
    subst (λ t. FollowsStandard old t (c ∷ []) None) (sym goes.only)
    (emits_text old made (c ∷ []) (c ∷ []) goes.memory (record { in_foreign = refl; after_return = refl }) text (λ m ahead rest stands.
    let at : Before old inner ahead m = before old inner ahead m is stands in
    let b : Bool = old.in_foreign in
    let same : is_script ≡ bytes_eq m.buffer (codes "script") = same_names (string_bytes old.letters) (codes "script") m.buffer (codes "script") (steps.1.0 old ahead m at.held) script_spells in
    let n : Machine = at_state m (state_of (behind_name_of is_end (bytes_eq m.buffer (codes "script")))) in
    record {
      machine = n;
      goes = subst (λ front. Goes m (front ++ (c ∷ []) ++ rest) (AChar c ∷ []) n rest) (sym at.nothing) (subst (λ k. Goes k (c ∷ rest) (AChar c ∷ []) n rest) at.machine (steps.0 b m rest));
      stands = record { reference = stands.reference; state = ap (λ x. state_of (behind_name_of is_end x)) (sym same); last_start = stands.last_start; held = behind_holds is_end is_script made n };
    }))

pub named_arm : {E : Type 0} (old new : Tokenizer) (inner : ScriptState) (is_end : Bool) (c : ℕ) (r : Result (Option TokenKind) E) → old.state ≡ state.ScriptData inner → its.Named is_end ≡ script_step_of inner c →
    OnOk r (new.refused ≡ false → TextGoesOn old new (behind_name_of is_end (bytes_eq (string_bytes old.letters) (codes "script"))) (encode_utf8 c)) → IfOk r (λ told. told ≡ None) → Follows old new (c ∷ []) r
named_arm old new inner is_end c (Ok told) is came goes told_is = λ none. subst (λ k. FollowsStandard old new (c ∷ []) k) (sym told_is) (named_follows old new inner is_end c is came (goes none))
named_arm old new inner is_end c (Err e) is came goes told_is = tt
