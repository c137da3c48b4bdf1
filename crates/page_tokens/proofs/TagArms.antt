-- What the calls that a state of tags or attributes makes come to, of their results.
use Rattle.std.specs.Prelude.{◌≡◌, ℕ, ◌<◌, false, [], ◌∷◌, length, Option, None, Result, Ok, Err, IfOk, OnOk, string_bytes, encode_utf8}
use mathlib.Core.Path.{◌∙◌, sym, ap, subst}
use Rattle.standard_tokens.specs.Entries.{Reconsume}
use Rattle.standard_tokens.specs.Machine.{Tag as StandardTag}
use Rattle.page_tokens.specs.Changes.{Remembers}
use Rattle.page_tokens.specs.Comments.{shown_of}
use Rattle.page_tokens.specs.Standard.{EmitsTag, Follows, FollowsStandard, IsDraft, Keeps}
use Rattle.page_tokens.specs.StandardStates.{state_of}
use Rattle.page_tokens.specs.TagStates.{BeginsAttr}
use Rattle.page_tokens.specs.declared.token.TokenKind.{TokenKind}
use Rattle.page_tokens.specs.declared.tokenizer.Tokenizer.{Tokenizer}
use Rattle.page_tokens.specs.declared.tokenizer.state.State.{State}
use Rattle.page_tokens.proofs.AttrFollows.{Begins, begins_follow}
use Rattle.page_tokens.proofs.Switches.{HoldsAlso, ReadsNothingAhead, reconsumes}
use Rattle.page_tokens.proofs.TagMoves.{EmitsOver, Entry, OnlyErrors, Over, emitted_on, switches_on}
use Rattle.page_tokens.proofs.TagNames.{HoldsDraft}

-- only the state changes, and errors before it
pub switch_arm : {E : Type 0} (old mid new : Tokenizer) (from to : State) (c : ℕ) (r : Result (Option TokenKind) E) → old.state ≡ from → OnlyErrors old mid → Remembers old mid → new ≡ record mid { state = to } →
    IfOk r (λ told. told ≡ None) → Over (state_of from) (state_of to) c → ReadsNothingAhead from → HoldsAlso from to → Follows old new (c ∷ []) r
switch_arm old mid new from to c (Ok told) is mid_is remembers only told_is over nothing also = λ none.
    let same : record mid { state = to } ≡ record old { state = to; errors = mid.errors; refused = mid.refused } = ap {A = Tokenizer} (λ t. record t { state = to }) mid_is in
    let all : new ≡ record old { state = to; errors = new.errors; refused = new.refused } = only ∙ same ∙ ap {A = Tokenizer} (λ t. record old { state = to; errors = t.errors; refused = t.refused }) (sym only) in
    switches_on old new from to c told is all (remembers (sym (ap (λ t. t.refused) only) ∙ none)) told_is over nothing also
switch_arm old mid new from to c (Err e) is mid_is remembers only told_is over nothing also = tt

-- the character is read in another state
pub reconsume_arm : {E : Type 0} (old mid new : Tokenizer) (from to : State) (c : ℕ) (r : Result (Option TokenKind) E) → old.state ≡ from → OnlyErrors old mid → Remembers old mid → Entry (state_of from) c [] (Reconsume (state_of to)) →
    ReadsNothingAhead from → HoldsAlso from to → Follows (record mid { state = to }) new (c ∷ []) r → Follows old new (c ∷ []) r
reconsume_arm old mid new from to c (Ok told) is mid_is remembers entry nothing also follows = λ none.
    reconsumes old (record mid { state = to }) new from to c told is (ap {A = Tokenizer} (λ t. record t { state = to }) mid_is) remembers entry nothing also (follows none)
reconsume_arm old mid new from to c (Err e) is mid_is remembers entry nothing also follows = tt

-- the tag is emitted; `mid` is what `emit_tag` finds
pub emit_arm : {E : Type 0} (old mid new : Tokenizer) (from : State) (made : StandardTag → StandardTag) (c : ℕ) (r : Result (Option TokenKind) E) → old.state ≡ from → c ≡ 62 →
    mid ≡ record old { tag = mid.tag; errors = mid.errors; refused = mid.refused } → Remembers old mid → ((one : StandardTag) → IsDraft old.tag one → IsDraft mid.tag (made one)) → OnOk r (new.refused ≡ false → Keeps mid new) →
    (0 < length (string_bytes mid.tag.name) → IfOk r (λ told. new.refused ≡ false → EmitsTag mid new told)) → EmitsOver (state_of from) made → ReadsNothingAhead from → HoldsDraft from → Follows old new (c ∷ []) r
emit_arm old mid new from made c (Ok told) is at mid_is remembers is_draft keeps emits over nothing drafted = λ none. subst (λ d. FollowsStandard old new (d ∷ []) told) (sym at)
    (emitted_on old mid new from made told is mid_is remembers is_draft (keeps none) (λ named. emits named none) over nothing drafted)
emit_arm old mid new from made c (Err e) is at mid_is remembers is_draft keeps emits over nothing drafted = tt

-- an attribute begins
pub begin_arm : {E : Type 0} (old new : Tokenizer) (from : State) (c : ℕ) (r : Result (Option TokenKind) E) → old.state ≡ from → OnOk r (new.refused ≡ false → BeginsAttr old new (encode_utf8 (shown_of c))) → IfOk r (λ told. told ≡ None) →
    Begins (state_of from) c → ReadsNothingAhead from → HoldsDraft from → Follows old new (c ∷ []) r
begin_arm old new from c (Ok told) is begins told_is goes nothing drafted = λ none. begins_follow old new from c told is (begins none) told_is goes nothing drafted
begin_arm old new from c (Err e) is begins told_is goes nothing drafted = tt
