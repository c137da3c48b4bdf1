-- The tokenizer reads the names and values of attributes as the standard does.
use Rattle.std.specs.Prelude.{◌≡◌, ℕ, ◌<◌, ◌≤◌, ◌==◌, Bool, false, cond, List, [], ◌∷◌, ◌++◌, map, length, reverse, Option, None, Result, Ok, Err, OnOk, string_bytes, refl}
use Rattle.std.proofs.Common.{arith}
use Rattle.std.specs.Char.{encode_utf8, to_ascii_lowercase, len_utf8}
use Rattle.std.specs.Str.{encode_utf8_all}
use Rattle.std.proofs.lemmas.List.{append-nil}
use Rattle.std.proofs.lemmas.Str.{encodes-append, length-encode, len_utf8_bounds}
use mathlib.Core.Path.{◌∙◌, sym, ap, subst}
use Rattle.standard_tokens.specs.Entries.{Add, AttrName, AttrValue, Current, NewAttr, Reconsume, Stay, Switch, replacement}
use Rattle.standard_tokens.specs.Machine.{Machine, Tag as StandardTag, at_state, distinct, taken}
use Rattle.standard_tokens.specs.States as there
use Rattle.standard_tokens.specs.States.{State as StandardState}
use Rattle.standard_tokens.specs.Table.{entries}
use Rattle.standard_tokens.specs.Tokens.{Attr}
use Rattle.page_tokens.specs.Changes.{Gains, Remembers}
use Rattle.page_tokens.specs.Comments.{shown_of}
use Rattle.page_tokens.specs.Drafts.{FinishesAttr}
use Rattle.page_tokens.specs.Reading.{text_of}
use Rattle.page_tokens.specs.Standard.{AreAttrs, FollowsStandard, Goes, Held, HoldsAttrs, IsDraft, Stands}
use Rattle.page_tokens.specs.StandardStates.{attr_state_of, state_of}
use Rattle.page_tokens.specs.TagStates.{BeginsAttr}
use Rattle.page_tokens.specs.declared.attribute.TagAttr.{TagAttr}
use Rattle.page_tokens.specs.declared.token.TokenKind.{TokenKind}
use Rattle.page_tokens.specs.declared.tokenizer.Tokenizer.{Tokenizer}
use Rattle.page_tokens.specs.declared.tokenizer.draft.TagDraft.{TagDraft}
use Rattle.page_tokens.specs.declared.tokenizer.state.AttrState.{AttrState}
use Rattle.page_tokens.specs.declared.tokenizer.state.AttrState.TheVariants as attr
use Rattle.page_tokens.specs.declared.tokenizer.state.Place.TheVariants as place
use Rattle.page_tokens.specs.declared.tokenizer.state.State.{State}
use Rattle.page_tokens.specs.declared.tokenizer.state.State.TheVariants as state
use Rattle.page_tokens.proofs.Lowered.{one_lowered}
use Rattle.page_tokens.proofs.StandardSteps.{by_bool, by_entry, taking, then_on}
use Rattle.page_tokens.proofs.Switches.{ReadsNothingAhead}
use Rattle.page_tokens.proofs.TagFollows.{draft_of_finish, unfinished}
use Rattle.page_tokens.proofs.TagMoves.{Entry, OnlyErrors, moves}
use Rattle.page_tokens.proofs.TagNames.{HoldsDraft}
use Rattle.page_tokens.proofs.TagSteps.{IsNameLetter, an_attr, attr_letter, with_attrs}

-- ---- texts

pub some_bytes : (c : ℕ) → 0 < length (encode_utf8 c)
some_bytes c =
    let some : 1 ≤ len_utf8 c = (len_utf8_bounds c).0 in
    let long : length (encode_utf8 c) ≡ len_utf8 c = length-encode c in
    omega (arith, some, long)

pub longer : (xs ys : List ℕ) → 0 < length xs → 0 < length (xs ++ ys)
longer [] ys h = absurd (omega (arith, h))
longer (x ∷ xs) ys h = omega arith

-- an attribute that is being read
pub holds_attr : (kept : List TagAttr) (name value : List ℕ) (one : Attr) (older : List Attr) → 0 < length name → map to_ascii_lowercase name ≡ encode_utf8_all one.name → value ≡ encode_utf8_all one.value →
    AreAttrs kept (distinct (reverse older)) → HoldsAttrs kept name value (one ∷ older)
holds_attr kept [] value one older some name_is value_is are = absurd (omega (arith, some))
holds_attr kept (b ∷ name) value one older some name_is value_is are = (name_is, value_is, are)

-- no attribute is being read
pub none_held : (kept : List TagAttr) (name value : List ℕ) (attrs : List Attr) → name ≡ [] → HoldsAttrs kept name value attrs → (value ≡ []) × AreAttrs kept (distinct (reverse attrs))
none_held kept [] value attrs none held = held
none_held kept (b ∷ name) value attrs none held = absurd (cc)

-- ---- an attribute begins

-- the character is the first letter of an attribute's name
abbrev pub Begins : StandardState → ℕ → Type 0
Begins s c = (b : Bool) (m : Machine) (rest : List ℕ) →
    Goes (at_state m s) (c ∷ rest) [] (with_attrs m there.AttributeName (an_attr (to_ascii_lowercase (shown_of c) ∷ []) [] ∷ m.tag.attrs)) rest

pub first_letter : (s : StandardState) (c : ℕ) → Entry s c (NewAttr ∷ []) (Reconsume there.AttributeName) → IsNameLetter c → (61 == c) ≡ false → Begins s c
first_letter s c entry is h61 b m rest =
    then_on (by_entry (at_state m s) (c ∷ rest) (taking (NewAttr ∷ []) (Reconsume there.AttributeName) (c ∷ [])) (λ x. entry x m rest) refl) (attr_letter b m [] [] rest m.tag.attrs c is h61)

-- before a name, `=` is a letter
pub begins_before : (c : ℕ) → IsNameLetter c → Begins there.BeforeAttributeName c
unfolding taken entries
begins_before c is b m rest =
    by_bool (λ d _. Goes M (d ∷ rest) [] (with_attrs m there.AttributeName (an_attr (to_ascii_lowercase (shown_of d) ∷ []) [] ∷ m.tag.attrs)) rest) c 61
    (by_entry M (61 ∷ rest) (taking (NewAttr ∷ Add AttrName Current ∷ []) (Switch there.AttributeName) (61 ∷ [])) (λ x. refl) refl)
    (λ h61. first_letter there.BeforeAttributeName c (λ b m rest. rw (is.tab, is.line_feed, is.form_feed, is.space, is.slash, is.greater, h61) refl) is h61 b m rest)
  where
    M : Machine
    M = at_state m there.BeforeAttributeName

pub begins_after : (c : ℕ) → IsNameLetter c → (61 == c) ≡ false → Begins there.AfterAttributeName c
unfolding taken entries
begins_after c is h61 = first_letter there.AfterAttributeName c (λ b m rest. rw (is.tab, is.line_feed, is.form_feed, is.space, is.slash, is.greater, h61) refl) is h61

begun : (draft more : TagDraft) (one : StandardTag) (c : ℕ) → IsDraft draft one → string_bytes draft.attr_name ≡ [] → string_bytes more.attr_name ≡ encode_utf8 (shown_of c) →
    IsDraft (record draft { attr_name = more.attr_name }) (record one { attrs = an_attr (to_ascii_lowercase (shown_of c) ∷ []) [] ∷ one.attrs })
begun draft more one c is none some =
    let held : (string_bytes draft.attr_value ≡ []) × AreAttrs draft.attrs.kept.items (distinct (reverse one.attrs)) = none_held draft.attrs.kept.items (string_bytes draft.attr_name) (string_bytes draft.attr_value) one.attrs none is.attrs in
    record {
      kind = is.kind;
      named = is.named;
      name = is.name;
      attrs = holds_attr draft.attrs.kept.items (string_bytes more.attr_name) (string_bytes draft.attr_value) (an_attr (to_ascii_lowercase (shown_of c) ∷ []) []) one.attrs (subst (λ (bytes : List ℕ). 0 < length bytes) (sym some) (some_bytes (shown_of c)))
          (ap (map to_ascii_lowercase) some ∙ one_lowered [] (encode_utf8 (shown_of c)) [] (shown_of c) refl refl) held.0 held.1;
      self_closing = is.self_closing;
    }

pub begins_follow : (old new : Tokenizer) (from : State) (c : ℕ) (told : Option TokenKind) → old.state ≡ from → BeginsAttr old new (encode_utf8 (shown_of c)) → told ≡ None → Begins (state_of from) c → ReadsNothingAhead from →
    HoldsDraft from → FollowsStandard old new (c ∷ []) told
begins_follow old new from c told is begins told_is goes nothing drafted =
    let done : TagDraft = begins.finished in
    let made : Tokenizer = record old { state = state.Attribute attr.Name; tag = record done { attr_name = new.tag.attr_name }; errors = new.errors; refused = new.refused } in
    let only : new ≡ made = begins.only in
    moves old new from c told is begins.memory (record { in_foreign = ap (λ t. t.in_foreign) only; after_return = ap (λ t. t.after_return) only }) (ap text_of only) told_is nothing (λ m rest stands.
    let held : Held from old [] m = subst (λ s. Held s old [] m) is stands.held in
    let finished : IsDraft done m.tag × (string_bytes done.attr_name ≡ []) = draft_of_finish old.tag done m.tag begins.none begins.some (drafted old [] m held) in
    let n : Machine = with_attrs m there.AttributeName (an_attr (to_ascii_lowercase (shown_of c) ∷ []) [] ∷ m.tag.attrs) in
    let draft : IsDraft made.tag n.tag = begun done new.tag m.tag c finished.0 finished.1 begins.name_is in
    let some : 0 < length (string_bytes new.tag.attr_name) = subst (λ (bytes : List ℕ). 0 < length bytes) (sym begins.name_is) (some_bytes (shown_of c)) in
    record {
      machine = n;
      goes = goes old.in_foreign m rest;
      stands = subst (λ t. Stands t [] n) (sym only) (record { reference = stands.reference; state = refl; last_start = stands.last_start; held = (refl, draft, some) });
    })

-- what `begin_attr` does: `done` is the tokenizer with the attribute finished, `mid` with errors
begins_attr : (old done mid new : Tokenizer) (bytes : List ℕ) → done ≡ record old { tag = done.tag } → (string_bytes old.tag.attr_name ≡ [] → done ≡ old) → (0 < length (string_bytes old.tag.attr_name) → FinishesAttr old.tag done.tag) →
    OnlyErrors done mid → Remembers done mid → Gains place.AttrName (record mid { state = state.Attribute attr.Name }) new bytes → Remembers (record mid { state = state.Attribute attr.Name }) new → new.refused ≡ false → BeginsAttr old new bytes
begins_attr old done mid new bytes done_is none some mid_is remembers gains keeps free =
    let all : mid ≡ record old { tag = done.tag; errors = mid.errors; refused = mid.refused } = mid_is ∙ ap {A = Tokenizer} (λ t. record t { errors = mid.errors; refused = mid.refused }) done_is in
    let empty : string_bytes mid.tag.attr_name ≡ [] = ap (λ t. string_bytes t.tag.attr_name) mid_is ∙ no_name (string_bytes old.tag.attr_name) refl in
    record {
      memory = sym (ap (λ t. t.refused) done_is) ∙ remembers (keeps free);
      finished = done.tag;
      none = λ e. ap (λ t. t.tag) (none e);
      some = some;
      only = gains.0 ∙ ap {A = Tokenizer} (λ t. record t { state = state.Attribute attr.Name; tag = record t.tag { attr_name = new.tag.attr_name }; errors = new.errors; refused = new.refused }) all;
      name_is = gains.1 ∙ ap (λ e. e ++ bytes) empty;
    }
  where
    no_name : (name : List ℕ) → string_bytes old.tag.attr_name ≡ name → string_bytes done.tag.attr_name ≡ []
    no_name [] e = ap (λ t. string_bytes t.tag.attr_name) (none e) ∙ e
    no_name (b ∷ name) e = (some (subst (λ (n : List ℕ). 0 < length n) (sym e) (omega arith))).name

pub begins_arm : {E : Type 0} (old done mid new : Tokenizer) (bytes : List ℕ) (r : Result (Option TokenKind) E) → done ≡ record old { tag = done.tag } → (string_bytes old.tag.attr_name ≡ [] → done ≡ old) →
    (0 < length (string_bytes old.tag.attr_name) → FinishesAttr old.tag done.tag) → OnlyErrors done mid → Remembers done mid → OnOk r (Gains place.AttrName (record mid { state = state.Attribute attr.Name }) new bytes) →
    Remembers (record mid { state = state.Attribute attr.Name }) new → OnOk r (new.refused ≡ false → BeginsAttr old new bytes)
begins_arm old done mid new bytes (Ok told) done_is none some mid_is remembers gains keeps = begins_attr old done mid new bytes done_is none some mid_is remembers gains keeps
begins_arm old done mid new bytes (Err e) done_is none some mid_is remembers gains keeps = tt

-- ---- a letter of a name

-- the attribute that is being read, and the standard's
pub record Open (draft : TagDraft) (one : StandardTag) : Type 0 where
  pub attr : Attr
  pub older : List Attr
  pub are : one.attrs ≡ attr ∷ older
  pub name : map to_ascii_lowercase (string_bytes draft.attr_name) ≡ encode_utf8_all attr.name
  pub value : string_bytes draft.attr_value ≡ encode_utf8_all attr.value
  pub kept : AreAttrs draft.attrs.kept.items (distinct (reverse older))

pub open_attr : (draft : TagDraft) (one : StandardTag) → 0 < length (string_bytes draft.attr_name) → IsDraft draft one → Open draft one
open_attr draft one some is =
    let u : (attr : Attr) × (older : List Attr) × (one.attrs ≡ attr ∷ older) × (map to_ascii_lowercase (string_bytes draft.attr_name) ≡ encode_utf8_all attr.name)
    × (string_bytes draft.attr_value ≡ encode_utf8_all attr.value) × AreAttrs draft.attrs.kept.items (distinct (reverse older)) =
    unfinished draft.attrs.kept.items (string_bytes draft.attr_name) (string_bytes draft.attr_value) one.attrs some is.attrs in
    record { attr = u.0; older = u.1; are = u.2; name = u.3; value = u.4; kept = u.5 }

pub named_follows : (old mid new : Tokenizer) (c : ℕ) (told : Option TokenKind) → old.state ≡ state.Attribute attr.Name → OnlyErrors old mid → Remembers old mid → Gains place.AttrName mid new (encode_utf8 (shown_of c)) →
    Remembers mid new → IsNameLetter c → (61 == c) ≡ false → told ≡ None → new.refused ≡ false → FollowsStandard old new (c ∷ []) told
named_follows old mid new c told is mid_is remembers gains keeps letter h61 told_is free =
    let made : Tokenizer = record old { tag = record old.tag { attr_name = new.tag.attr_name }; errors = new.errors; refused = new.refused } in
    let only : new ≡ made = gains.0 ∙ ap {A = Tokenizer} (λ t. record t { tag = record t.tag { attr_name = new.tag.attr_name }; errors = new.errors; refused = new.refused }) mid_is in
    let bytes : string_bytes new.tag.attr_name ≡ string_bytes old.tag.attr_name ++ encode_utf8 (shown_of c) = gains.1 ∙ ap (λ t. string_bytes t.tag.attr_name ++ encode_utf8 (shown_of c)) mid_is in
    moves old new (state.Attribute attr.Name) c told is (remembers (keeps free)) (record { in_foreign = ap (λ t. t.in_foreign) only; after_return = ap (λ t. t.after_return) only }) (ap text_of only) told_is (λ t ahead m held. held.0) (λ m rest stands.
    let held : Held (state.Attribute attr.Name) old [] m = subst (λ s. Held s old [] m) is stands.held in
    let draft : IsDraft old.tag m.tag = held.1 in
    let was : Open old.tag m.tag = open_attr old.tag m.tag held.2 draft in
    let more : List ℕ = was.attr.name ++ to_ascii_lowercase (shown_of c) ∷ [] in
    let n : Machine = with_attrs m there.AttributeName (an_attr more was.attr.value ∷ was.older) in
    let some : 0 < length (string_bytes new.tag.attr_name) = subst (λ (bytes : List ℕ). 0 < length bytes) (sym bytes) (longer (string_bytes old.tag.attr_name) (encode_utf8 (shown_of c)) held.2) in
    let new_draft : IsDraft made.tag n.tag = record {
      kind = draft.kind;
      named = draft.named;
      name = draft.name;
      attrs = holds_attr old.tag.attrs.kept.items (string_bytes new.tag.attr_name) (string_bytes old.tag.attr_value) (an_attr more was.attr.value) was.older some
          (ap (map to_ascii_lowercase) bytes ∙ one_lowered (string_bytes old.tag.attr_name) (encode_utf8 (shown_of c)) was.attr.name (shown_of c) was.name refl) was.value was.kept;
      self_closing = draft.self_closing;
    } in
    let same : Held (state.Attribute attr.Name) made [] n = (refl, new_draft, some) in
    record {
      machine = n;
      goes = subst (λ attrs. Goes (with_attrs m there.AttributeName attrs) (c ∷ rest) [] n rest) (sym was.are) (attr_letter old.in_foreign m was.attr.name was.attr.value rest was.older c letter h61);
      stands = subst (λ t. Stands t [] n) (sym only) (record { reference = stands.reference; state = ap state_of (sym is); last_start = stands.last_start; held = subst (λ s. Held s made [] n) (sym is) same });
    })

-- ---- a letter of a value

-- the attribute has a name in the state, which is one of a value
abbrev pub InValue : AttrState → Type 0
InValue inner = (t : Tokenizer) (m : Machine) → ((Held (state.Attribute inner) t [] m → 0 < length (string_bytes t.tag.attr_name)) × (IsDraft t.tag m.tag → 0 < length (string_bytes t.tag.attr_name) → Held (state.Attribute inner) t [] m))

value_letter : (s : StandardState) (b : Bool) (m : Machine) (name value rest : List ℕ) (older : List Attr) (c : ℕ) → Entry s 0 (Add AttrValue replacement ∷ []) Stay → ((0 == c) ≡ false → Entry s c (Add AttrValue Current ∷ []) Stay) →
    Goes (with_attrs m s (an_attr name value ∷ older)) (c ∷ rest) [] (with_attrs m s (an_attr name (value ++ shown_of c ∷ []) ∷ older)) rest
value_letter s b m name value rest older c null other =
    by_bool (λ d x. Goes M (d ∷ rest) [] (with_attrs m s (an_attr name (value ++ cond x 0xfffd d ∷ []) ∷ older)) rest) c 0
    (by_entry M (0 ∷ rest) (taking (Add AttrValue replacement ∷ []) Stay (0 ∷ [])) (λ x. null x M rest) refl)
    (λ h0. by_entry M (c ∷ rest) (taking (Add AttrValue Current ∷ []) Stay (c ∷ [])) (λ x. other h0 x M rest) refl)
  where
    M : Machine
    M = with_attrs m s (an_attr name value ∷ older)

pub valued_follows : (old mid new : Tokenizer) (inner : AttrState) (c : ℕ) (told : Option TokenKind) → old.state ≡ state.Attribute inner → OnlyErrors old mid → Remembers old mid → Gains place.AttrValue mid new (encode_utf8 (shown_of c)) →
    Remembers mid new → told ≡ None → Entry (attr_state_of inner) 0 (Add AttrValue replacement ∷ []) Stay → ((0 == c) ≡ false → Entry (attr_state_of inner) c (Add AttrValue Current ∷ []) Stay) →
    ReadsNothingAhead (state.Attribute inner) → HoldsDraft (state.Attribute inner) → InValue inner → new.refused ≡ false → FollowsStandard old new (c ∷ []) told
valued_follows old mid new inner c told is mid_is remembers gains keeps told_is null other nothing drafted in_value free =
    let made : Tokenizer = record old { tag = record old.tag { attr_value = new.tag.attr_value }; errors = new.errors; refused = new.refused } in
    let only : new ≡ made = gains.0 ∙ ap {A = Tokenizer} (λ t. record t { tag = record t.tag { attr_value = new.tag.attr_value }; errors = new.errors; refused = new.refused }) mid_is in
    let bytes : string_bytes new.tag.attr_value ≡ string_bytes old.tag.attr_value ++ encode_utf8 (shown_of c) = gains.1 ∙ ap (λ t. string_bytes t.tag.attr_value ++ encode_utf8 (shown_of c)) mid_is in
    moves old new (state.Attribute inner) c told is (remembers (keeps free)) (record { in_foreign = ap (λ t. t.in_foreign) only; after_return = ap (λ t. t.after_return) only }) (ap text_of only) told_is nothing (λ m rest stands.
    let held : Held (state.Attribute inner) old [] m = subst (λ s. Held s old [] m) is stands.held in
    let draft : IsDraft old.tag m.tag = drafted old [] m held in
    let some : 0 < length (string_bytes old.tag.attr_name) = (in_value old m).0 held in
    let was : Open old.tag m.tag = open_attr old.tag m.tag some draft in
    let more : List ℕ = was.attr.value ++ shown_of c ∷ [] in
    let n : Machine = with_attrs m (attr_state_of inner) (an_attr was.attr.name more ∷ was.older) in
    let value_is : string_bytes new.tag.attr_value ≡ encode_utf8_all more =
    bytes ∙ ap (λ e. e ++ encode_utf8 (shown_of c)) was.value ∙ ap (λ e. encode_utf8_all was.attr.value ++ e) (sym (append-nil (encode_utf8 (shown_of c)))) ∙ sym (encodes-append was.attr.value (shown_of c ∷ [])) in
    let new_draft : IsDraft made.tag n.tag = record {
      kind = draft.kind;
      named = draft.named;
      name = draft.name;
      attrs = holds_attr old.tag.attrs.kept.items (string_bytes old.tag.attr_name) (string_bytes new.tag.attr_value) (an_attr was.attr.name more) was.older some was.name value_is was.kept;
      self_closing = draft.self_closing;
    } in
    let same : Held (state.Attribute inner) made [] n = (in_value made n).1 new_draft some in
    record {
      machine = n;
      goes = subst (λ attrs. Goes (with_attrs m (attr_state_of inner) attrs) (c ∷ rest) [] n rest) (sym was.are) (value_letter (attr_state_of inner) old.in_foreign m was.attr.name was.attr.value rest was.older c null other);
      stands = subst (λ t. Stands t [] n) (sym only) (record { reference = stands.reference; state = ap state_of (sym is); last_start = stands.last_start; held = subst (λ s. Held s made [] n) (sym is) same });
    })
