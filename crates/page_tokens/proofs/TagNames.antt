-- The tokenizer reads the names of tags as the standard does.
use Rattle.std.specs.Prelude.{◌≡◌, ℕ, ◌<◌, Bool, true, false, ◌==◌, ◌||◌, List, [], ◌∷◌, ◌++◌, map, length, Option, None, Result, Ok, Err, IfOk, OnOk, string_bytes, encode_utf8, refl}
use Rattle.std.proofs.Common.{inl, arith}
use Rattle.std.specs.Char.{to_ascii_lowercase}
use Rattle.std.proofs.lemmas.Bool.{ne_eqb, true≢false}
use Rattle.std.proofs.lemmas.List.{append-nil}
use mathlib.Core.Path.{◌∙◌, sym, ap, subst}
use Rattle.standard_tokens.specs.Entries.{EmitTag, Switch}
use Rattle.standard_tokens.specs.Machine.{Machine, at_state, last_start_of, taken, token_of}
use Rattle.standard_tokens.specs.States as there
use Rattle.standard_tokens.specs.Table.{entries}
use Rattle.page_tokens.specs.Changes.{Gains, Remembers}
use Rattle.page_tokens.specs.Comments.{shown_of}
use Rattle.page_tokens.specs.Reading.{text_of}
use Rattle.page_tokens.specs.Runs.{is_space_of}
use Rattle.page_tokens.specs.Standard.{EmitsTag, Follows, FollowsStandard, Goes, Held, IsDraft, Keeps, Stands, Told}
use Rattle.page_tokens.specs.StandardStates.{state_of}
use Rattle.page_tokens.specs.declared.token.TokenKind.{TokenKind}
use Rattle.page_tokens.specs.declared.tokenizer.Tokenizer.{Tokenizer}
use Rattle.page_tokens.specs.declared.tokenizer.state.AttrState.TheVariants as attr
use Rattle.page_tokens.specs.declared.tokenizer.state.Place.TheVariants as place
use Rattle.page_tokens.specs.declared.tokenizer.state.State.{State}
use Rattle.page_tokens.specs.declared.tokenizer.state.State.TheVariants as state
use Rattle.page_tokens.specs.declared.tokenizer.state.TagState.TheVariants as tag
use Rattle.page_tokens.proofs.DeclarationFollows.{led}
use Rattle.page_tokens.proofs.Lowered.{one_lowered}
use Rattle.page_tokens.proofs.StandardSteps.{by_bool, by_entry, in_its_state, taking}
use Rattle.page_tokens.proofs.Switches.{ReadsNothingAhead, switches}
use Rattle.page_tokens.proofs.TagSteps.{IsNameLetter, name_letter, naming}

-- ---- a tag is emitted

-- in the state a tag is being read
abbrev pub HoldsDraft : State → Type 0
HoldsDraft from = (t : Tokenizer) (ahead : List ℕ) (m : Machine) → Held from t ahead m → IsDraft t.tag m.tag

-- where the machine stands, the entry is this one
pub emitted_tag_where : (old new : Tokenizer) (from : State) (told : Option TokenKind) → old.state ≡ from → Keeps old new → (0 < length (string_bytes old.tag.name) → EmitsTag old new told) →
    ((b : Bool) (m : Machine) (ahead rest : List ℕ) → Stands old ahead m → taken b (at_state m (state_of from)) (62 ∷ rest) (entries (state_of from)) ≡ taking (EmitTag ∷ []) (Switch there.Data) (62 ∷ [])) →
    ReadsNothingAhead from → HoldsDraft from → FollowsStandard old new (62 ∷ []) told
emitted_tag_where old new from told is keeps named_emits entry nothing drafted = record {
  memory = keeps.memory;
  leaves = keeps.leaves;
  reads = λ m ahead rest stands.
      let held : Held from old ahead m = subst (λ s. Held s old ahead m) is stands.held in
      let draft : IsDraft old.tag m.tag = drafted old ahead m held in
      let emits : EmitsTag old new told = named_emits draft.named in
      let b : Bool = old.in_foreign in
      let n : Machine = record m { state = there.Data; last_start = last_start_of m.tag m.last_start } in
      let at : m.state ≡ state_of from = stands.state ∙ ap state_of is in
      let step : Goes (at_state m (state_of from)) (62 ∷ rest) (token_of m.tag ∷ []) n rest =
      by_entry (at_state m (state_of from)) (62 ∷ rest) (taking (EmitTag ∷ []) (Switch there.Data) (62 ∷ [])) (λ x. entry x m ahead rest stands) refl in
      record {
        machine = n;
        ahead' = [];
        characters = [];
        tokens = token_of m.tag ∷ [];
        goes = subst (λ front. Goes m (front ++ (62 ∷ []) ++ rest) (token_of m.tag ∷ []) n rest) (sym (nothing old ahead m held))
            (subst (λ k. Goes k (62 ∷ rest) (token_of m.tag ∷ []) n rest) (in_its_state m (state_of from) at) step);
        holds = inl (record {
          reference = emits.same_reference ∙ stands.reference;
          state = ap state_of (sym emits.now_state);
          last_start = emits.last_start m.tag draft m.last_start stands.last_start;
          held = subst (λ s. Held s new [] n) (sym emits.now_state) refl;
        });
        text = emits.text ∙ sym (append-nil (text_of old));
        ends = subst (λ k. Told k new (token_of m.tag ∷ [])) (sym emits.told_is) (m.tag, refl, emits.last_tag m.tag draft);
      };
}

-- the entry is this one on every machine
pub emitted_tag : (old new : Tokenizer) (from : State) (told : Option TokenKind) → old.state ≡ from → Keeps old new → (0 < length (string_bytes old.tag.name) → EmitsTag old new told) →
    ((b : Bool) (m : Machine) (rest : List ℕ) → taken b (at_state m (state_of from)) (62 ∷ rest) (entries (state_of from)) ≡ taking (EmitTag ∷ []) (Switch there.Data) (62 ∷ [])) →
    ReadsNothingAhead from → HoldsDraft from → FollowsStandard old new (62 ∷ []) told
emitted_tag old new from told is keeps named_emits entry nothing drafted = emitted_tag_where old new from told is keeps named_emits (λ b m ahead rest stands. entry b m rest) nothing drafted

-- ---- the name

name_nothing : ReadsNothingAhead (state.Tag tag.Name)
name_nothing t ahead m held = held.0

name_draft : HoldsDraft (state.Tag tag.Name)
name_draft t ahead m held = held.1

pub slash_arm : {E : Type 0} (old new : Tokenizer) (c : ℕ) (r : Result (Option TokenKind) E) → old.state ≡ state.Tag tag.Name → c ≡ 47 → new ≡ record old { state = state.Tag tag.SelfClosing } →
    IfOk r (λ told. told ≡ None) → Follows old new (c ∷ []) r
unfolding taken entries
slash_arm old new c (Ok told) is at only told_is = λ none. subst (λ d. FollowsStandard old new (d ∷ []) told) (sym at)
    (switches old new (state.Tag tag.Name) (state.Tag tag.SelfClosing) 47 told is only told_is none (λ b m rest. refl) name_nothing (λ t other ahead m held. (refl, held.1)))
slash_arm old new c (Err e) is at only told_is = tt

pub space_cases : (P : ℕ → Type 0) (c : ℕ) → is_space_of c ≡ true → P 9 → P 10 → P 12 → P 32 → P c
space_cases P c h p9 p10 p12 p32 =
    by_bool (λ e x. (x || e == 10 || e == 12 || e == 32) ≡ true → P e) c 9 (λ _. p9)
    (λ h9. by_bool (λ e x. (x || e == 12 || e == 32) ≡ true → P e) c 10 (λ _. p10)
    (λ h10. by_bool (λ e x. (x || e == 32) ≡ true → P e) c 12 (λ _. p12)
    (λ h12. by_bool (λ e x. x ≡ true → P e) c 32 (λ _. p32) (λ h32 f. absurd (cc))))) h

pub space_arm : {E : Type 0} (old new : Tokenizer) (c : ℕ) (r : Result (Option TokenKind) E) → old.state ≡ state.Tag tag.Name → is_space_of c ≡ true → new ≡ record old { state = state.Attribute attr.BeforeName } →
    IfOk r (λ told. told ≡ None) → Follows old new (c ∷ []) r
unfolding taken entries
space_arm old new c (Ok told) is space only told_is = λ none.
    let at : (d : ℕ) → ((b : Bool) (m : Machine) (rest : List ℕ) → taken b (at_state m there.TagName) (d ∷ rest) (entries there.TagName) ≡ taking [] (Switch there.BeforeAttributeName) (d ∷ [])) → FollowsStandard old new (d ∷ []) told =
    λ d entry. switches old new (state.Tag tag.Name) (state.Attribute attr.BeforeName) d told is only told_is none entry name_nothing (λ t other ahead m held. (refl, held.1)) in
    space_cases (λ d. FollowsStandard old new (d ∷ []) told) c space (at 9 (λ b m rest. refl)) (at 10 (λ b m rest. refl)) (at 12 (λ b m rest. refl)) (at 32 (λ b m rest. refl))
space_arm old new c (Err e) is space only told_is = tt

pub greater_arm : {E : Type 0} (old new : Tokenizer) (c : ℕ) (r : Result (Option TokenKind) E) → old.state ≡ state.Tag tag.Name → c ≡ 62 → OnOk r (new.refused ≡ false → Keeps old new) →
    (0 < length (string_bytes old.tag.name) → IfOk r (λ told. new.refused ≡ false → EmitsTag old new told)) → Follows old new (c ∷ []) r
unfolding taken entries
greater_arm old new c (Ok told) is at keeps emits = λ none. subst (λ d. FollowsStandard old new (d ∷ []) told) (sym at)
    (emitted_tag old new (state.Tag tag.Name) told is (keeps none) (λ named. emits named none) (λ b m rest. refl) name_nothing name_draft)
greater_arm old new c (Err e) is at keeps emits = tt

pub differs : (test : ℕ → Bool) (k c : ℕ) → test c ≡ false → test k ≡ true → (k == c) ≡ false
differs test k c fails passes = ne_eqb k c (λ e. true≢false (sym passes ∙ ap test e ∙ fails))

pub name_letter_of : (c : ℕ) → (c ≡ 47 → ⊥) → (c ≡ 62 → ⊥) → is_space_of c ≡ false → IsNameLetter c
name_letter_of c no_slash no_greater no_space = record {
  tab = differs is_space_of 9 c no_space refl;
  line_feed = differs is_space_of 10 c no_space refl;
  form_feed = differs is_space_of 12 c no_space refl;
  space = differs is_space_of 32 c no_space refl;
  slash = ne_eqb 47 c (λ e. no_slash (sym e));
  greater = ne_eqb 62 c (λ e. no_greater (sym e));
}

pub long : (xs ys : List ℕ) → 0 < length xs → 0 < length (xs ++ ys)
long [] ys h = absurd (omega (arith, h))
long (x ∷ xs) ys h = omega arith

named : (old new : Tokenizer) (c : ℕ) → old.state ≡ state.Tag tag.Name → old.refused ≡ false → IsNameLetter c → Gains place.TagName old new (encode_utf8 (shown_of c)) → FollowsStandard old new (c ∷ []) None
named old new c is memory letter gains =
    let only : new ≡ record old { tag = record old.tag { name = new.tag.name }; errors = new.errors; refused = new.refused } = gains.0 in
    led old new (c ∷ []) memory (record { in_foreign = ap (λ t. t.in_foreign) only; after_return = ap (λ t. t.after_return) only }) (ap text_of only) (λ m ahead rest stands.
    let held : Held (state.Tag tag.Name) old ahead m = subst (λ s. Held s old ahead m) is stands.held in
    let draft : IsDraft old.tag m.tag = held.1 in
    let b : Bool = old.in_foreign in
    let more : List ℕ = m.tag.name ++ to_ascii_lowercase (shown_of c) ∷ [] in
    let n : Machine = naming m more in
    let at : m.state ≡ there.TagName = stands.state ∙ ap state_of is in
    let made : Tokenizer = record old { tag = record old.tag { name = new.tag.name }; errors = new.errors; refused = new.refused } in
    let step : Goes (at_state m there.TagName) (c ∷ rest) [] n rest = name_letter b m m.tag.name rest c letter in
    let same : made.state ≡ state.Tag tag.Name = is in
    let new_draft : IsDraft made.tag n.tag = record {
      kind = draft.kind;
      named = subst (λ (bytes : List ℕ). 0 < length bytes) (sym gains.1) (long (string_bytes old.tag.name) (encode_utf8 (shown_of c)) draft.named);
      name = ap (map to_ascii_lowercase) gains.1 ∙ one_lowered (string_bytes old.tag.name) (encode_utf8 (shown_of c)) m.tag.name (shown_of c) draft.name refl;
      attrs = draft.attrs;
      self_closing = draft.self_closing;
    } in
    record {
      machine = n;
      goes = subst (λ front. Goes m (front ++ (c ∷ []) ++ rest) [] n rest) (sym held.0) (subst (λ k. Goes k (c ∷ rest) [] n rest) (in_its_state m there.TagName at) step);
      stands = subst (λ t. Stands t [] n) (sym only) (record { reference = stands.reference; state = ap state_of (sym is); last_start = stands.last_start; held = subst (λ s. Held s made [] n) (sym is) (refl, new_draft) });
    })

pub name_arm : {E : Type 0} (old new : Tokenizer) (c : ℕ) (r : Result (Option TokenKind) E) → old.state ≡ state.Tag tag.Name → (c ≡ 47 → ⊥) → (c ≡ 62 → ⊥) → is_space_of c ≡ false →
    OnOk r (Gains place.TagName old new (encode_utf8 (shown_of c))) → Remembers old new → IfOk r (λ told. told ≡ None) → Follows old new (c ∷ []) r
name_arm old new c (Ok told) is no_slash no_greater no_space gains keeps told_is = λ none.
    subst (λ k. FollowsStandard old new (c ∷ []) k) (sym told_is) (named old new c is (keeps none) (name_letter_of c no_slash no_greater no_space) gains)
name_arm old new c (Err e) is no_slash no_greater no_space gains keeps told_is = tt
