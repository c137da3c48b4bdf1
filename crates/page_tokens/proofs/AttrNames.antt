-- The states of an attribute's name: what each character does.
use Rattle.std.specs.Prelude.{◌≡◌, ℕ, ◌<◌, true, false, [], ◌∷◌, length, Option, None, Result, Ok, Err, IfOk, OnOk, string_bytes, encode_utf8, refl}
use Rattle.std.proofs.lemmas.Bool.{ne_eqb}
use mathlib.Core.Path.{sym, subst}
use Rattle.standard_tokens.specs.Entries.{EmitTag, Reconsume, Stay, Switch}
use Rattle.standard_tokens.specs.Machine.{at_state, taken}
use Rattle.standard_tokens.specs.States as there
use Rattle.standard_tokens.specs.Table.{entries}
use Rattle.page_tokens.specs.Changes.{Gains, Remembers}
use Rattle.page_tokens.specs.Comments.{shown_of}
use Rattle.page_tokens.specs.Runs.{is_space_of}
use Rattle.page_tokens.specs.Standard.{EmitsTag, Follows, FollowsStandard, Keeps}
use Rattle.page_tokens.specs.TagStates.{BeginsAttr, ends_name_of}
use Rattle.page_tokens.specs.declared.token.TokenKind.{TokenKind}
use Rattle.page_tokens.specs.declared.tokenizer.Tokenizer.{Tokenizer}
use Rattle.page_tokens.specs.declared.tokenizer.state.AttrState.TheVariants as attr
use Rattle.page_tokens.specs.declared.tokenizer.state.Place.TheVariants as place
use Rattle.page_tokens.specs.declared.tokenizer.state.State.TheVariants as state
use Rattle.page_tokens.specs.declared.tokenizer.state.TagState.TheVariants as tag
use Rattle.page_tokens.proofs.AttrFollows.{begins_after, begins_before, named_follows}
use Rattle.page_tokens.proofs.StandardSteps.{by_entry, taking, then_on}
use Rattle.page_tokens.proofs.TagArms.{begin_arm, emit_arm, reconsume_arm, switch_arm}
use Rattle.page_tokens.proofs.TagMoves.{EmitsOver, Entry, OnlyErrors, Over, as_it_is, emitted_plain, ends_cases, no_end, stayed, stays_on, switched}
use Rattle.page_tokens.proofs.TagNames.{name_letter_of, space_cases}

-- ---- before a name

pub space_before : (old : Tokenizer) (c : ℕ) → old.state ≡ state.Attribute attr.BeforeName → is_space_of c ≡ true → old.refused ≡ false → FollowsStandard old old (c ∷ []) None
unfolding taken entries
space_before old c is space =
    stays_on old (state.Attribute attr.BeforeName) c is (stayed there.BeforeAttributeName c (space_cases (λ d. Entry there.BeforeAttributeName d [] Stay) c space (λ b m rest. refl) (λ b m rest. refl) (λ b m rest. refl) (λ b m rest. refl)))
    (λ t ahead m held. held.0) (λ t other ahead m held. (refl, held.1))

pub slash_before : {E : Type 0} (old new : Tokenizer) (c : ℕ) (r : Result (Option TokenKind) E) → old.state ≡ state.Attribute attr.BeforeName → c ≡ 47 → new ≡ record old { state = state.Tag tag.SelfClosing } →
    IfOk r (λ told. told ≡ None) → Follows old new (c ∷ []) r
unfolding taken entries
slash_before old new c r is at only told_is =
    switch_arm old old new (state.Attribute attr.BeforeName) (state.Tag tag.SelfClosing) c r is refl (λ e. e) only told_is
    (subst (Over there.BeforeAttributeName there.SelfClosingStartTag) (sym at) (λ b m rest. then_on (by_entry (at_state m there.BeforeAttributeName) (47 ∷ rest) (taking [] (Reconsume there.AfterAttributeName) (47 ∷ [])) (λ x. refl) refl)
    (by_entry (at_state m there.AfterAttributeName) (47 ∷ rest) (taking [] (Switch there.SelfClosingStartTag) (47 ∷ [])) (λ x. refl) refl)))
    (λ t ahead m held. held.0) (λ t other ahead m held. (refl, held.1))

emits_before_name : EmitsOver there.BeforeAttributeName as_it_is
unfolding taken entries
emits_before_name b m rest =
    then_on (by_entry (at_state m there.BeforeAttributeName) (62 ∷ rest) (taking [] (Reconsume there.AfterAttributeName) (62 ∷ [])) (λ x. refl) refl)
    (by_entry (at_state m there.AfterAttributeName) (62 ∷ rest) (taking (EmitTag ∷ []) (Switch there.Data) (62 ∷ [])) (λ x. refl) refl)

pub greater_before : {E : Type 0} (old new : Tokenizer) (c : ℕ) (r : Result (Option TokenKind) E) → old.state ≡ state.Attribute attr.BeforeName → c ≡ 62 → OnOk r (new.refused ≡ false → Keeps old new) →
    (0 < length (string_bytes old.tag.name) → IfOk r (λ told. new.refused ≡ false → EmitsTag old new told)) → Follows old new (c ∷ []) r
greater_before old new c r is at keeps emits =
    emit_arm old old new (state.Attribute attr.BeforeName) as_it_is c r is at refl (λ e. e) (λ one draft. draft) keeps emits emits_before_name (λ t ahead m held. held.0) (λ t ahead m held. held.1)

pub name_begins : {E : Type 0} (old new : Tokenizer) (c : ℕ) (r : Result (Option TokenKind) E) → old.state ≡ state.Attribute attr.BeforeName → is_space_of c ≡ false → (c ≡ 47 → ⊥) → (c ≡ 62 → ⊥) →
    OnOk r (new.refused ≡ false → BeginsAttr old new (encode_utf8 (shown_of c))) → IfOk r (λ told. told ≡ None) → Follows old new (c ∷ []) r
name_begins old new c r is no_space no_slash no_greater begins told_is =
    begin_arm old new (state.Attribute attr.BeforeName) c r is begins told_is (begins_before c (name_letter_of c no_slash no_greater no_space)) (λ t ahead m held. held.0) (λ t ahead m held. held.1)

-- ---- in a name

pub equals_in_name : {E : Type 0} (old mid new : Tokenizer) (c : ℕ) (r : Result (Option TokenKind) E) → old.state ≡ state.Attribute attr.Name → c ≡ 61 → OnlyErrors old mid → Remembers old mid →
    new ≡ record mid { state = state.Attribute attr.BeforeValue } → IfOk r (λ told. told ≡ None) → Follows old new (c ∷ []) r
unfolding taken entries
equals_in_name old mid new c r is at mid_is remembers only told_is =
    switch_arm old mid new (state.Attribute attr.Name) (state.Attribute attr.BeforeValue) c r is mid_is remembers only told_is
    (subst (Over there.AttributeName there.BeforeAttributeValue) (sym at) (switched there.AttributeName there.BeforeAttributeValue 61 (λ b m rest. refl)))
    (λ t ahead m held. held.0) (λ t other ahead m held. (refl, held.1, held.2))

pub end_in_name : {E : Type 0} (old mid new : Tokenizer) (c : ℕ) (r : Result (Option TokenKind) E) → old.state ≡ state.Attribute attr.Name → ends_name_of c ≡ true → OnlyErrors old mid → Remembers old mid →
    Follows (record mid { state = state.Attribute attr.AfterName }) new (c ∷ []) r → Follows old new (c ∷ []) r
unfolding taken entries
end_in_name old mid new c r is ends mid_is remembers follows =
    reconsume_arm old mid new (state.Attribute attr.Name) (state.Attribute attr.AfterName) c r is mid_is remembers
    (ends_cases (λ d. Entry there.AttributeName d [] (Reconsume there.AfterAttributeName)) c ends (λ b m rest. refl) (λ b m rest. refl) (λ b m rest. refl) (λ b m rest. refl) (λ b m rest. refl) (λ b m rest. refl))
    (λ t ahead m held. held.0) (λ t other ahead m held. (refl, held.1, held.2)) follows

pub letter_in_name : {E : Type 0} (old mid new : Tokenizer) (c : ℕ) (r : Result (Option TokenKind) E) → old.state ≡ state.Attribute attr.Name → (c ≡ 61 → ⊥) → ends_name_of c ≡ false → OnlyErrors old mid → Remembers old mid →
    OnOk r (Gains place.AttrName mid new (encode_utf8 (shown_of c))) → Remembers mid new → IfOk r (λ told. told ≡ None) → Follows old new (c ∷ []) r
letter_in_name old mid new c (Ok told) is no_equals goes_on mid_is remembers gains keeps told_is = λ none.
    named_follows old mid new c told is mid_is remembers gains keeps (no_end c goes_on) (ne_eqb 61 c (λ e. no_equals (sym e))) told_is none
letter_in_name old mid new c (Err e) is no_equals goes_on mid_is remembers gains keeps told_is = tt

-- ---- after a name

pub space_after : (old : Tokenizer) (c : ℕ) → old.state ≡ state.Attribute attr.AfterName → is_space_of c ≡ true → old.refused ≡ false → FollowsStandard old old (c ∷ []) None
unfolding taken entries
space_after old c is space =
    stays_on old (state.Attribute attr.AfterName) c is (stayed there.AfterAttributeName c (space_cases (λ d. Entry there.AfterAttributeName d [] Stay) c space (λ b m rest. refl) (λ b m rest. refl) (λ b m rest. refl) (λ b m rest. refl)))
    (λ t ahead m held. held.0) (λ t other ahead m held. (refl, held.1, held.2))

pub slash_after : {E : Type 0} (old new : Tokenizer) (c : ℕ) (r : Result (Option TokenKind) E) → old.state ≡ state.Attribute attr.AfterName → c ≡ 47 → new ≡ record old { state = state.Tag tag.SelfClosing } →
    IfOk r (λ told. told ≡ None) → Follows old new (c ∷ []) r
unfolding taken entries
slash_after old new c r is at only told_is =
    switch_arm old old new (state.Attribute attr.AfterName) (state.Tag tag.SelfClosing) c r is refl (λ e. e) only told_is
    (subst (Over there.AfterAttributeName there.SelfClosingStartTag) (sym at) (switched there.AfterAttributeName there.SelfClosingStartTag 47 (λ b m rest. refl)))
    (λ t ahead m held. held.0) (λ t other ahead m held. (refl, held.1))

pub equals_after : {E : Type 0} (old new : Tokenizer) (c : ℕ) (r : Result (Option TokenKind) E) → old.state ≡ state.Attribute attr.AfterName → c ≡ 61 → new ≡ record old { state = state.Attribute attr.BeforeValue } →
    IfOk r (λ told. told ≡ None) → Follows old new (c ∷ []) r
unfolding taken entries
equals_after old new c r is at only told_is =
    switch_arm old old new (state.Attribute attr.AfterName) (state.Attribute attr.BeforeValue) c r is refl (λ e. e) only told_is
    (subst (Over there.AfterAttributeName there.BeforeAttributeValue) (sym at) (switched there.AfterAttributeName there.BeforeAttributeValue 61 (λ b m rest. refl)))
    (λ t ahead m held. held.0) (λ t other ahead m held. (refl, held.1, held.2))

pub greater_after : {E : Type 0} (old new : Tokenizer) (c : ℕ) (r : Result (Option TokenKind) E) → old.state ≡ state.Attribute attr.AfterName → c ≡ 62 → OnOk r (new.refused ≡ false → Keeps old new) →
    (0 < length (string_bytes old.tag.name) → IfOk r (λ told. new.refused ≡ false → EmitsTag old new told)) → Follows old new (c ∷ []) r
unfolding taken entries
greater_after old new c r is at keeps emits =
    emit_arm old old new (state.Attribute attr.AfterName) as_it_is c r is at refl (λ e. e) (λ one draft. draft) keeps emits (emitted_plain there.AfterAttributeName (λ b m rest. refl)) (λ t ahead m held. held.0) (λ t ahead m held. held.1)

pub name_begins_after : {E : Type 0} (old new : Tokenizer) (c : ℕ) (r : Result (Option TokenKind) E) → old.state ≡ state.Attribute attr.AfterName → is_space_of c ≡ false → (c ≡ 47 → ⊥) → (c ≡ 61 → ⊥) → (c ≡ 62 → ⊥) →
    OnOk r (new.refused ≡ false → BeginsAttr old new (encode_utf8 (shown_of c))) → IfOk r (λ told. told ≡ None) → Follows old new (c ∷ []) r
name_begins_after old new c r is no_space no_slash no_equals no_greater begins told_is =
    begin_arm old new (state.Attribute attr.AfterName) c r is begins told_is (begins_after c (name_letter_of c no_slash no_greater no_space) (ne_eqb 61 c (λ e. no_equals (sym e))))
    (λ t ahead m held. held.0) (λ t ahead m held. held.1)
