-- The states of an attribute's value, and the end of a tag: what each character does.
use Rattle.std.specs.Prelude.{◌≡◌, ℕ, ◌<◌, ◌==◌, true, false, [], ◌∷◌, length, Option, None, Result, Ok, Err, IfOk, OnOk, string_bytes, encode_utf8, refl}
use Rattle.std.proofs.lemmas.Bool.{ne_eqb}
use mathlib.Core.Path.{sym, ap, subst}
use Rattle.standard_tokens.specs.Entries.{Add, AttrValue, Current, EmitTag, ReturnTo, SelfClosing, Stay, Switch, replacement}
use Rattle.standard_tokens.specs.Machine.{Machine, Tag as StandardTag, at_state, taken}
use Rattle.standard_tokens.specs.States as there
use Rattle.standard_tokens.specs.Table.{entries}
use Rattle.page_tokens.specs.Changes.{Gains, Remembers}
use Rattle.page_tokens.specs.Comments.{shown_of}
use Rattle.page_tokens.specs.Runs.{is_space_of}
use Rattle.page_tokens.specs.Standard.{AllowsReference, EmitsTag, Follows, FollowsStandard, Held, IsDraft, Keeps}
use Rattle.page_tokens.specs.StandardStates.{attr_state_of}
use Rattle.page_tokens.specs.TagStates.{quote_of}
use Rattle.page_tokens.specs.TextStates.{BeginsReference}
use Rattle.page_tokens.specs.declared.token.TokenKind.{TokenKind}
use Rattle.page_tokens.specs.declared.tokenizer.Tokenizer.{Tokenizer}
use Rattle.page_tokens.specs.declared.tokenizer.draft.TagDraft.{TagDraft}
use Rattle.page_tokens.specs.declared.tokenizer.state.AttrState.{AttrState}
use Rattle.page_tokens.specs.declared.tokenizer.state.AttrState.TheVariants as attr
use Rattle.page_tokens.specs.declared.tokenizer.state.Place.TheVariants as place
use Rattle.page_tokens.specs.declared.tokenizer.state.Quote.{Quote}
use Rattle.page_tokens.specs.declared.tokenizer.state.Quote.TheVariants as quote
use Rattle.page_tokens.specs.declared.tokenizer.state.State.TheVariants as state
use Rattle.page_tokens.specs.declared.tokenizer.state.TagState.TheVariants as tag
use Rattle.page_tokens.proofs.AttrFollows.{InValue, valued_follows}
use Rattle.page_tokens.proofs.StandardSteps.{by_entry, taking}
use Rattle.page_tokens.proofs.Switches.{ReadsNothingAhead}
use Rattle.page_tokens.proofs.TagArms.{emit_arm, reconsume_arm, switch_arm}
use Rattle.page_tokens.proofs.TagMoves.{EmitsOver, Entry, OnlyErrors, Over, as_it_is, emitted_plain, stayed, stays_on, switched}
use Rattle.page_tokens.proofs.TagNames.{HoldsDraft, differs, space_cases}
use Rattle.page_tokens.proofs.TextFollows.{begins_reference}

-- ---- before a value

pub space_before_value : (old : Tokenizer) (c : ℕ) → old.state ≡ state.Attribute attr.BeforeValue → is_space_of c ≡ true → old.refused ≡ false → FollowsStandard old old (c ∷ []) None
unfolding taken entries
space_before_value old c is space =
    stays_on old (state.Attribute attr.BeforeValue) c is (stayed there.BeforeAttributeValue c (space_cases (λ d. Entry there.BeforeAttributeValue d [] Stay) c space (λ b m rest. refl) (λ b m rest. refl) (λ b m rest. refl) (λ b m rest. refl)))
    (λ t ahead m held. held.0) (λ t other ahead m held. (refl, held.1, held.2))

pub quote_before_value : {E : Type 0} (old new : Tokenizer) (which : Quote) (c : ℕ) (r : Result (Option TokenKind) E) → old.state ≡ state.Attribute attr.BeforeValue → c ≡ quote_of which →
    new ≡ record old { state = state.Attribute (attr.Quoted which) } → IfOk r (λ told. told ≡ None) → Follows old new (c ∷ []) r
unfolding taken entries
quote_before_value old new quote.Double c r is at only told_is =
    switch_arm old old new (state.Attribute attr.BeforeValue) (state.Attribute (attr.Quoted quote.Double)) c r is refl (λ e. e) only told_is
    (subst (Over there.BeforeAttributeValue there.AttributeValueDoubleQuoted) (sym at) (switched there.BeforeAttributeValue there.AttributeValueDoubleQuoted 34 (λ b m rest. refl)))
    (λ t ahead m held. held.0) (λ t other ahead m held. (refl, held.1, held.2))
quote_before_value old new quote.Single c r is at only told_is =
    switch_arm old old new (state.Attribute attr.BeforeValue) (state.Attribute (attr.Quoted quote.Single)) c r is refl (λ e. e) only told_is
    (subst (Over there.BeforeAttributeValue there.AttributeValueSingleQuoted) (sym at) (switched there.BeforeAttributeValue there.AttributeValueSingleQuoted 39 (λ b m rest. refl)))
    (λ t ahead m held. held.0) (λ t other ahead m held. (refl, held.1, held.2))

pub greater_before_value : {E : Type 0} (old mid new : Tokenizer) (c : ℕ) (r : Result (Option TokenKind) E) → old.state ≡ state.Attribute attr.BeforeValue → c ≡ 62 → OnlyErrors old mid → Remembers old mid →
    OnOk r (new.refused ≡ false → Keeps mid new) → (0 < length (string_bytes mid.tag.name) → IfOk r (λ told. new.refused ≡ false → EmitsTag mid new told)) → Follows old new (c ∷ []) r
unfolding taken entries
greater_before_value old mid new c r is at mid_is remembers keeps emits =
    let same : mid.tag ≡ old.tag = ap (λ t. t.tag) mid_is in
    let all : mid ≡ record old { tag = mid.tag; errors = mid.errors; refused = mid.refused } = subst (λ (d : TagDraft). mid ≡ record old { tag = d; errors = mid.errors; refused = mid.refused }) (sym same) mid_is in
    emit_arm old mid new (state.Attribute attr.BeforeValue) as_it_is c r is at all remembers (λ one draft. subst (λ (d : TagDraft). IsDraft d one) (sym same) draft) keeps emits
    (emitted_plain there.BeforeAttributeValue (λ b m rest. refl)) (λ t ahead m held. held.0) (λ t ahead m held. held.1)

pub value_begins : {E : Type 0} (old new : Tokenizer) (c : ℕ) (r : Result (Option TokenKind) E) → old.state ≡ state.Attribute attr.BeforeValue → is_space_of c ≡ false → (c ≡ 34 → ⊥) → (c ≡ 39 → ⊥) → (c ≡ 62 → ⊥) →
    Follows (record old { state = state.Attribute attr.Unquoted }) new (c ∷ []) r → Follows old new (c ∷ []) r
unfolding taken entries
value_begins old new c r is no_space no_double no_single no_greater follows =
    let h9 : (9 == c) ≡ false = differs is_space_of 9 c no_space refl in
    let h10 : (10 == c) ≡ false = differs is_space_of 10 c no_space refl in
    let h12 : (12 == c) ≡ false = differs is_space_of 12 c no_space refl in
    let h32 : (32 == c) ≡ false = differs is_space_of 32 c no_space refl in
    let h34 : (34 == c) ≡ false = ne_eqb 34 c (λ e. no_double (sym e)) in
    let h39 : (39 == c) ≡ false = ne_eqb 39 c (λ e. no_single (sym e)) in
    let h62 : (62 == c) ≡ false = ne_eqb 62 c (λ e. no_greater (sym e)) in
    reconsume_arm old old new (state.Attribute attr.BeforeValue) (state.Attribute attr.Unquoted) c r is refl (λ e. e) (λ b m rest. rw (h9, h10, h12, h32, h34, h39, h62) refl)
    (λ t ahead m held. held.0) (λ t other ahead m held. (refl, held.1, held.2)) follows

-- ---- in a value

reference_arm : {E : Type 0} (old new : Tokenizer) (inner : AttrState) (c : ℕ) (r : Result (Option TokenKind) E) → old.state ≡ state.Attribute inner → c ≡ 38 → AllowsReference (state.Attribute inner) → OnOk r (BeginsReference old new) → IfOk r (λ told. told ≡ None) →
    Entry (attr_state_of inner) 38 (ReturnTo (attr_state_of inner) ∷ []) (Switch there.CharacterReference) → ReadsNothingAhead (state.Attribute inner) → HoldsDraft (state.Attribute inner) → InValue inner → Follows old new (c ∷ []) r
reference_arm old new inner c (Ok told) is at allows begins told_is entry nothing drafted in_value = λ none.
    let same : new.tag ≡ old.tag = ap (λ t. t.tag) begins.only in
    subst (λ d. FollowsStandard old new (d ∷ []) told) (sym at) (begins_reference old new (state.Attribute inner) told is allows begins told_is none entry nothing (λ m ahead held.
    let n : Machine = record m { state = there.CharacterReference; return_state = attr_state_of inner } in
    let some : 0 < length (string_bytes old.tag.attr_name) = (in_value old m).0 (subst (λ a. Held (state.Attribute inner) old a m) (nothing old ahead m held) held) in
    (in_value new n).1 (subst (λ (d : TagDraft). IsDraft d m.tag) (sym same) (drafted old ahead m held)) (subst (λ (d : TagDraft). 0 < length (string_bytes d.attr_name)) (sym same) some)))
reference_arm old new inner c (Err e) is at allows begins told_is entry nothing drafted in_value = tt

letter_arm : {E : Type 0} (old mid new : Tokenizer) (inner : AttrState) (c : ℕ) (r : Result (Option TokenKind) E) → old.state ≡ state.Attribute inner → OnlyErrors old mid → Remembers old mid →
    OnOk r (Gains place.AttrValue mid new (encode_utf8 (shown_of c))) → Remembers mid new → IfOk r (λ told. told ≡ None) → Entry (attr_state_of inner) 0 (Add AttrValue replacement ∷ []) Stay →
    ((0 == c) ≡ false → Entry (attr_state_of inner) c (Add AttrValue Current ∷ []) Stay) → ReadsNothingAhead (state.Attribute inner) → HoldsDraft (state.Attribute inner) → InValue inner → Follows old new (c ∷ []) r
letter_arm old mid new inner c (Ok told) is mid_is remembers gains keeps told_is null other nothing drafted in_value =
    valued_follows old mid new inner c told is mid_is remembers gains keeps told_is null other nothing drafted in_value
letter_arm old mid new inner c (Err e) is mid_is remembers gains keeps told_is null other nothing drafted in_value = tt

pub quote_in_value : {E : Type 0} (old new : Tokenizer) (which : Quote) (c : ℕ) (r : Result (Option TokenKind) E) → old.state ≡ state.Attribute (attr.Quoted which) → c ≡ quote_of which →
    new ≡ record old { state = state.Attribute attr.AfterQuoted } → IfOk r (λ told. told ≡ None) → Follows old new (c ∷ []) r
unfolding taken entries
quote_in_value old new quote.Double c r is at only told_is =
    switch_arm old old new (state.Attribute (attr.Quoted quote.Double)) (state.Attribute attr.AfterQuoted) c r is refl (λ e. e) only told_is
    (subst (Over there.AttributeValueDoubleQuoted there.AfterAttributeValueQuoted) (sym at) (switched there.AttributeValueDoubleQuoted there.AfterAttributeValueQuoted 34 (λ b m rest. refl)))
    (λ t ahead m held. held.0) (λ t other ahead m held. (refl, held.1))
quote_in_value old new quote.Single c r is at only told_is =
    switch_arm old old new (state.Attribute (attr.Quoted quote.Single)) (state.Attribute attr.AfterQuoted) c r is refl (λ e. e) only told_is
    (subst (Over there.AttributeValueSingleQuoted there.AfterAttributeValueQuoted) (sym at) (switched there.AttributeValueSingleQuoted there.AfterAttributeValueQuoted 39 (λ b m rest. refl)))
    (λ t ahead m held. held.0) (λ t other ahead m held. (refl, held.1))

pub reference_in_value : {E : Type 0} (old new : Tokenizer) (which : Quote) (c : ℕ) (r : Result (Option TokenKind) E) → old.state ≡ state.Attribute (attr.Quoted which) → c ≡ 38 → OnOk r (BeginsReference old new) →
    IfOk r (λ told. told ≡ None) → Follows old new (c ∷ []) r
unfolding taken entries
reference_in_value old new quote.Double c r is at begins told_is =
    reference_arm old new (attr.Quoted quote.Double) c r is at tt begins told_is (λ b m rest. refl) (λ t ahead m held. held.0) (λ t ahead m held. held.1) (λ t m. ((λ held. held.2), (λ draft some. (refl, draft, some))))
reference_in_value old new quote.Single c r is at begins told_is =
    reference_arm old new (attr.Quoted quote.Single) c r is at tt begins told_is (λ b m rest. refl) (λ t ahead m held. held.0) (λ t ahead m held. held.1) (λ t m. ((λ held. held.2), (λ draft some. (refl, draft, some))))

pub letter_in_value : {E : Type 0} (old new : Tokenizer) (which : Quote) (c : ℕ) (r : Result (Option TokenKind) E) → old.state ≡ state.Attribute (attr.Quoted which) → (c ≡ quote_of which → ⊥) → (c ≡ 38 → ⊥) →
    OnOk r (Gains place.AttrValue old new (encode_utf8 (shown_of c))) → Remembers old new → IfOk r (λ told. told ≡ None) → Follows old new (c ∷ []) r
unfolding taken entries
letter_in_value old new quote.Double c r is no_quote no_reference gains keeps told_is =
    let h34 : (34 == c) ≡ false = ne_eqb 34 c (λ e. no_quote (sym e)) in
    let h38 : (38 == c) ≡ false = ne_eqb 38 c (λ e. no_reference (sym e)) in
    letter_arm old old new (attr.Quoted quote.Double) c r is refl (λ e. e) gains keeps told_is (λ b m rest. refl) (λ h0 b m rest. rw (h34, h38, h0) refl) (λ t ahead m held. held.0) (λ t ahead m held. held.1)
    (λ t m. ((λ held. held.2), (λ draft some. (refl, draft, some))))
letter_in_value old new quote.Single c r is no_quote no_reference gains keeps told_is =
    let h39 : (39 == c) ≡ false = ne_eqb 39 c (λ e. no_quote (sym e)) in
    let h38 : (38 == c) ≡ false = ne_eqb 38 c (λ e. no_reference (sym e)) in
    letter_arm old old new (attr.Quoted quote.Single) c r is refl (λ e. e) gains keeps told_is (λ b m rest. refl) (λ h0 b m rest. rw (h39, h38, h0) refl) (λ t ahead m held. held.0) (λ t ahead m held. held.1)
    (λ t m. ((λ held. held.2), (λ draft some. (refl, draft, some))))

-- ---- in a value without quotes

pub space_unquoted : {E : Type 0} (old new : Tokenizer) (c : ℕ) (r : Result (Option TokenKind) E) → old.state ≡ state.Attribute attr.Unquoted → is_space_of c ≡ true → new ≡ record old { state = state.Attribute attr.BeforeName } →
    IfOk r (λ told. told ≡ None) → Follows old new (c ∷ []) r
unfolding taken entries
space_unquoted old new c r is space only told_is =
    switch_arm old old new (state.Attribute attr.Unquoted) (state.Attribute attr.BeforeName) c r is refl (λ e. e) only told_is
    (switched there.AttributeValueUnquoted there.BeforeAttributeName c (space_cases (λ d. Entry there.AttributeValueUnquoted d [] (Switch there.BeforeAttributeName)) c space (λ b m rest. refl) (λ b m rest. refl) (λ b m rest. refl) (λ b m rest. refl)))
    (λ t ahead m held. held.0) (λ t other ahead m held. (refl, held.1))

pub reference_unquoted : {E : Type 0} (old new : Tokenizer) (c : ℕ) (r : Result (Option TokenKind) E) → old.state ≡ state.Attribute attr.Unquoted → c ≡ 38 → OnOk r (BeginsReference old new) → IfOk r (λ told. told ≡ None) →
    Follows old new (c ∷ []) r
unfolding taken entries
reference_unquoted old new c r is at begins told_is =
    reference_arm old new attr.Unquoted c r is at tt begins told_is (λ b m rest. refl) (λ t ahead m held. held.0) (λ t ahead m held. held.1) (λ t m. ((λ held. held.2), (λ draft some. (refl, draft, some))))

pub greater_unquoted : {E : Type 0} (old new : Tokenizer) (c : ℕ) (r : Result (Option TokenKind) E) → old.state ≡ state.Attribute attr.Unquoted → c ≡ 62 → OnOk r (new.refused ≡ false → Keeps old new) →
    (0 < length (string_bytes old.tag.name) → IfOk r (λ told. new.refused ≡ false → EmitsTag old new told)) → Follows old new (c ∷ []) r
unfolding taken entries
greater_unquoted old new c r is at keeps emits =
    emit_arm old old new (state.Attribute attr.Unquoted) as_it_is c r is at refl (λ e. e) (λ one draft. draft) keeps emits (emitted_plain there.AttributeValueUnquoted (λ b m rest. refl)) (λ t ahead m held. held.0) (λ t ahead m held. held.1)

pub letter_unquoted : {E : Type 0} (old mid new : Tokenizer) (c : ℕ) (r : Result (Option TokenKind) E) → old.state ≡ state.Attribute attr.Unquoted → is_space_of c ≡ false → (c ≡ 38 → ⊥) → (c ≡ 62 → ⊥) → OnlyErrors old mid → Remembers old mid →
    OnOk r (Gains place.AttrValue mid new (encode_utf8 (shown_of c))) → Remembers mid new → IfOk r (λ told. told ≡ None) → Follows old new (c ∷ []) r
unfolding taken entries
letter_unquoted old mid new c r is no_space no_reference no_greater mid_is remembers gains keeps told_is =
    let h9 : (9 == c) ≡ false = differs is_space_of 9 c no_space refl in
    let h10 : (10 == c) ≡ false = differs is_space_of 10 c no_space refl in
    let h12 : (12 == c) ≡ false = differs is_space_of 12 c no_space refl in
    let h32 : (32 == c) ≡ false = differs is_space_of 32 c no_space refl in
    let h38 : (38 == c) ≡ false = ne_eqb 38 c (λ e. no_reference (sym e)) in
    let h62 : (62 == c) ≡ false = ne_eqb 62 c (λ e. no_greater (sym e)) in
    letter_arm old mid new attr.Unquoted c r is mid_is remembers gains keeps told_is (λ b m rest. refl) (λ h0 b m rest. rw (h9, h10, h12, h32, h38, h62, h0) refl) (λ t ahead m held. held.0) (λ t ahead m held. held.1)
    (λ t m. ((λ held. held.2), (λ draft some. (refl, draft, some))))

-- ---- after a value in quotes

pub space_after_value : {E : Type 0} (old new : Tokenizer) (c : ℕ) (r : Result (Option TokenKind) E) → old.state ≡ state.Attribute attr.AfterQuoted → is_space_of c ≡ true → new ≡ record old { state = state.Attribute attr.BeforeName } →
    IfOk r (λ told. told ≡ None) → Follows old new (c ∷ []) r
unfolding taken entries
space_after_value old new c r is space only told_is =
    switch_arm old old new (state.Attribute attr.AfterQuoted) (state.Attribute attr.BeforeName) c r is refl (λ e. e) only told_is
    (switched there.AfterAttributeValueQuoted there.BeforeAttributeName c
    (space_cases (λ d. Entry there.AfterAttributeValueQuoted d [] (Switch there.BeforeAttributeName)) c space (λ b m rest. refl) (λ b m rest. refl) (λ b m rest. refl) (λ b m rest. refl)))
    (λ t ahead m held. held.0) (λ t other ahead m held. (refl, held.1))

pub slash_after_value : {E : Type 0} (old new : Tokenizer) (c : ℕ) (r : Result (Option TokenKind) E) → old.state ≡ state.Attribute attr.AfterQuoted → c ≡ 47 → new ≡ record old { state = state.Tag tag.SelfClosing } →
    IfOk r (λ told. told ≡ None) → Follows old new (c ∷ []) r
unfolding taken entries
slash_after_value old new c r is at only told_is =
    switch_arm old old new (state.Attribute attr.AfterQuoted) (state.Tag tag.SelfClosing) c r is refl (λ e. e) only told_is
    (subst (Over there.AfterAttributeValueQuoted there.SelfClosingStartTag) (sym at) (switched there.AfterAttributeValueQuoted there.SelfClosingStartTag 47 (λ b m rest. refl)))
    (λ t ahead m held. held.0) (λ t other ahead m held. (refl, held.1))

pub greater_after_value : {E : Type 0} (old new : Tokenizer) (c : ℕ) (r : Result (Option TokenKind) E) → old.state ≡ state.Attribute attr.AfterQuoted → c ≡ 62 → OnOk r (new.refused ≡ false → Keeps old new) →
    (0 < length (string_bytes old.tag.name) → IfOk r (λ told. new.refused ≡ false → EmitsTag old new told)) → Follows old new (c ∷ []) r
unfolding taken entries
greater_after_value old new c r is at keeps emits =
    emit_arm old old new (state.Attribute attr.AfterQuoted) as_it_is c r is at refl (λ e. e) (λ one draft. draft) keeps emits (emitted_plain there.AfterAttributeValueQuoted (λ b m rest. refl)) (λ t ahead m held. held.0) (λ t ahead m held. held.1)

pub other_after_value : {E : Type 0} (old mid new : Tokenizer) (c : ℕ) (r : Result (Option TokenKind) E) → old.state ≡ state.Attribute attr.AfterQuoted → is_space_of c ≡ false → (c ≡ 47 → ⊥) → (c ≡ 62 → ⊥) → OnlyErrors old mid → Remembers old mid →
    Follows (record mid { state = state.Attribute attr.BeforeName }) new (c ∷ []) r → Follows old new (c ∷ []) r
unfolding taken entries
other_after_value old mid new c r is no_space no_slash no_greater mid_is remembers follows =
    let h9 : (9 == c) ≡ false = differs is_space_of 9 c no_space refl in
    let h10 : (10 == c) ≡ false = differs is_space_of 10 c no_space refl in
    let h12 : (12 == c) ≡ false = differs is_space_of 12 c no_space refl in
    let h32 : (32 == c) ≡ false = differs is_space_of 32 c no_space refl in
    let h47 : (47 == c) ≡ false = ne_eqb 47 c (λ e. no_slash (sym e)) in
    let h62 : (62 == c) ≡ false = ne_eqb 62 c (λ e. no_greater (sym e)) in
    reconsume_arm old mid new (state.Attribute attr.AfterQuoted) (state.Attribute attr.BeforeName) c r is mid_is remembers (λ b m rest. rw (h9, h10, h12, h32, h47, h62) refl)
    (λ t ahead m held. held.0) (λ t other ahead m held. (refl, held.1)) follows

-- ---- after the `/` of a tag

-- the flag is set
abbrev closed : StandardTag → StandardTag
closed one = record one { self_closing = true }

emits_closed : EmitsOver there.SelfClosingStartTag closed
unfolding taken entries
emits_closed b m rest = by_entry (at_state m there.SelfClosingStartTag) (62 ∷ rest) (taking (SelfClosing ∷ EmitTag ∷ []) (Switch there.Data) (62 ∷ [])) (λ x. refl) refl

pub greater_closes : {E : Type 0} (old new : Tokenizer) (c : ℕ) (r : Result (Option TokenKind) E) → old.state ≡ state.Tag tag.SelfClosing → c ≡ 62 →
    OnOk r (new.refused ≡ false → Keeps (record old { tag = record old.tag { self_closing = true } }) new) →
    (0 < length (string_bytes old.tag.name) → IfOk r (λ told. new.refused ≡ false → EmitsTag (record old { tag = record old.tag { self_closing = true } }) new told)) → Follows old new (c ∷ []) r
greater_closes old new c r is at keeps emits =
    emit_arm old (record old { tag = record old.tag { self_closing = true } }) new (state.Tag tag.SelfClosing) closed c r is at refl (λ e. e)
    (λ one draft. record { kind = draft.kind; named = draft.named; name = draft.name; attrs = draft.attrs; self_closing = refl }) keeps emits emits_closed (λ t ahead m held. held.0) (λ t ahead m held. held.1)

pub other_closes : {E : Type 0} (old mid new : Tokenizer) (c : ℕ) (r : Result (Option TokenKind) E) → old.state ≡ state.Tag tag.SelfClosing → (c ≡ 62 → ⊥) → OnlyErrors old mid → Remembers old mid →
    Follows (record mid { state = state.Attribute attr.BeforeName }) new (c ∷ []) r → Follows old new (c ∷ []) r
unfolding taken entries
other_closes old mid new c r is no_greater mid_is remembers follows =
    let h62 : (62 == c) ≡ false = ne_eqb 62 c (λ e. no_greater (sym e)) in
    reconsume_arm old mid new (state.Tag tag.SelfClosing) (state.Attribute attr.BeforeName) c r is mid_is remembers (λ b m rest. rw h62 refl) (λ t ahead m held. held.0) (λ t other ahead m held. (refl, held.1)) follows
