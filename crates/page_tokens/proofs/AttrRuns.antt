-- Runs in the names and values of attributes are copied as the standard reads them.
use Rattle.std.specs.Prelude.{◌≡◌, ℕ, ◌<◌, Bool, false, List, [], ◌∷◌, ◌++◌, map, length, None, string_bytes, refl}
use Rattle.std.specs.Char.{to_ascii_lowercase}
use Rattle.std.specs.Str.{encode_utf8_all}
use mathlib.Core.Path.{◌∙◌, sym, ap, subst}
use Rattle.standard_tokens.specs.Entries.{Add, AttrValue, Current, Stay}
use Rattle.standard_tokens.specs.Machine.{Machine}
use Rattle.standard_tokens.specs.States as there
use Rattle.standard_tokens.specs.States.{State as StandardState}
use Rattle.standard_tokens.specs.Tokens.{Attr}
use Rattle.page_tokens.specs.FastPaths.{AddsToAttrName, AddsToValue}
use Rattle.page_tokens.specs.Standard.{FollowsStandard, Goes, Held, IsDraft}
use Rattle.page_tokens.specs.StandardStates.{attr_state_of, state_of}
use Rattle.page_tokens.specs.declared.tokenizer.Tokenizer.{Tokenizer}
use Rattle.page_tokens.specs.declared.tokenizer.state.AttrState.{AttrState}
use Rattle.page_tokens.specs.declared.tokenizer.state.AttrState.TheVariants as attr
use Rattle.page_tokens.specs.declared.tokenizer.state.State.TheVariants as state
use Rattle.page_tokens.proofs.AttrFollows.{InValue, Open, holds_attr, longer, open_attr}
use Rattle.page_tokens.proofs.DeclarationFollows.{led}
use Rattle.page_tokens.proofs.RunFollows.{NoneEnds, gathered_by, gathered_plain, more_lowered, more_spelled}
use Rattle.page_tokens.proofs.StandardSteps.{by_entry, in_its_state, taking}
use Rattle.page_tokens.proofs.Switches.{ReadsNothingAhead}
use Rattle.page_tokens.proofs.TagMoves.{Entry}
use Rattle.page_tokens.proofs.TagNames.{HoldsDraft}
use Rattle.page_tokens.proofs.TagSteps.{an_attr, with_attrs}

-- the machine that stands at an attribute
at_attr : (m : Machine) (s : StandardState) (one : Attr) (older : List Attr) → m.state ≡ s → m.tag.attrs ≡ one ∷ older → with_attrs m s (one ∷ older) ≡ m
at_attr m s one older at are = ap (λ attrs. with_attrs m s attrs) (sym are) ∙ in_its_state m s at

pub attr_name_run : (old new : Tokenizer) (ends : ℕ → Bool) (cs : List ℕ) → old.state ≡ state.Attribute attr.Name → AddsToAttrName old new (encode_utf8_all cs) → old.refused ≡ false →
    ((b : Bool) (m : Machine) (name value : List ℕ) (older : List Attr) (c : ℕ) (rest : List ℕ) → ends c ≡ false →
    Goes (with_attrs m there.AttributeName (an_attr name value ∷ older)) (c ∷ rest) [] (with_attrs m there.AttributeName (an_attr (name ++ to_ascii_lowercase c ∷ []) value ∷ older)) rest) →
    NoneEnds ends cs → FollowsStandard old new cs None
attr_name_run old new ends cs is adds none one all =
    let made : Tokenizer = record old { tag = record old.tag { attr_name = new.tag.attr_name } } in
    subst (λ t. FollowsStandard old t cs None) (sym adds.0)
    (led old made cs none (record { in_foreign = refl; after_return = refl }) refl (λ m ahead rest stands.
    let held : Held (state.Attribute attr.Name) old ahead m = subst (λ s. Held s old ahead m) is stands.held in
    let draft : IsDraft old.tag m.tag = held.1 in
    let was : Open old.tag m.tag = open_attr old.tag m.tag held.2 draft in
    let b : Bool = old.in_foreign in
    let s : StandardState = there.AttributeName in
    let more : List ℕ = was.attr.name ++ map to_ascii_lowercase cs in
    let n : Machine = with_attrs m s (an_attr more was.attr.value ∷ was.older) in
    let at : with_attrs m s (was.attr ∷ was.older) ≡ m = at_attr m s was.attr was.older (stands.state ∙ ap state_of is) was.are in
    let run : Goes (with_attrs m s (was.attr ∷ was.older)) (cs ++ rest) [] n rest =
    gathered_by to_ascii_lowercase ends (λ d. with_attrs m s (an_attr d was.attr.value ∷ was.older)) (λ d c rest goes_on. one b m d was.attr.value was.older c rest goes_on) was.attr.name cs rest all in
    let some : 0 < length (string_bytes new.tag.attr_name) = subst (λ (bytes : List ℕ). 0 < length bytes) (sym adds.1) (longer (string_bytes old.tag.attr_name) (encode_utf8_all cs) held.2) in
    let new_draft : IsDraft made.tag n.tag = record {
      kind = draft.kind;
      named = draft.named;
      name = draft.name;
      attrs = holds_attr old.tag.attrs.kept.items (string_bytes new.tag.attr_name) (string_bytes old.tag.attr_value) (an_attr more was.attr.value) was.older some
          (more_lowered (string_bytes new.tag.attr_name) (string_bytes old.tag.attr_name) cs was.attr.name adds.1 was.name) was.value was.kept;
      self_closing = draft.self_closing;
    } in
    record {
      machine = n;
      goes = subst (λ front. Goes m (front ++ cs ++ rest) [] n rest) (sym held.0) (subst (λ k. Goes k (cs ++ rest) [] n rest) at run);
      stands = record { reference = stands.reference; state = ap state_of (sym is); last_start = stands.last_start; held = subst (λ s. Held s made [] n) (sym is) (refl, new_draft, some) };
    }))

pub value_run : (old new : Tokenizer) (inner : AttrState) (ends : ℕ → Bool) (cs : List ℕ) → old.state ≡ state.Attribute inner → AddsToValue old new (encode_utf8_all cs) → old.refused ≡ false →
    ((c : ℕ) → ends c ≡ false → Entry (attr_state_of inner) c (Add AttrValue Current ∷ []) Stay) → ReadsNothingAhead (state.Attribute inner) → HoldsDraft (state.Attribute inner) → InValue inner →
    NoneEnds ends cs → FollowsStandard old new cs None
value_run old new inner ends cs is adds none entry nothing drafted in_value all =
    let made : Tokenizer = record old { tag = record old.tag { attr_value = new.tag.attr_value } } in
    subst (λ t. FollowsStandard old t cs None) (sym adds.0)
    (led old made cs none (record { in_foreign = refl; after_return = refl }) refl (λ m ahead rest stands.
    let held : Held (state.Attribute inner) old ahead m = subst (λ s. Held s old ahead m) is stands.held in
    let draft : IsDraft old.tag m.tag = drafted old ahead m held in
    let empty : ahead ≡ [] = nothing old ahead m held in
    let named : 0 < length (string_bytes old.tag.attr_name) = (in_value old m).0 (subst (λ a. Held (state.Attribute inner) old a m) empty held) in
    let was : Open old.tag m.tag = open_attr old.tag m.tag named draft in
    let b : Bool = old.in_foreign in
    let s : StandardState = attr_state_of inner in
    let more : List ℕ = was.attr.value ++ cs in
    let n : Machine = with_attrs m s (an_attr was.attr.name more ∷ was.older) in
    let at : with_attrs m s (was.attr ∷ was.older) ≡ m = at_attr m s was.attr was.older (stands.state ∙ ap state_of is) was.are in
    let run : Goes (with_attrs m s (was.attr ∷ was.older)) (cs ++ rest) [] n rest =
    gathered_plain ends (λ d. with_attrs m s (an_attr was.attr.name d ∷ was.older))
    (λ d c rest goes_on. let k : Machine = with_attrs m s (an_attr was.attr.name d ∷ was.older) in by_entry k (c ∷ rest) (taking (Add AttrValue Current ∷ []) Stay (c ∷ [])) (λ x. entry c goes_on x k rest) refl) was.attr.value cs rest all in
    let new_draft : IsDraft made.tag n.tag = record {
      kind = draft.kind;
      named = draft.named;
      name = draft.name;
      attrs = holds_attr old.tag.attrs.kept.items (string_bytes old.tag.attr_name) (string_bytes new.tag.attr_value) (an_attr was.attr.name more) was.older named was.name
          (more_spelled (string_bytes new.tag.attr_value) (string_bytes old.tag.attr_value) cs was.attr.value adds.1 was.value) was.kept;
      self_closing = draft.self_closing;
    } in
    let same : Held (state.Attribute inner) made [] n = (in_value made n).1 new_draft named in
    record {
      machine = n;
      goes = subst (λ front. Goes m (front ++ cs ++ rest) [] n rest) (sym empty) (subst (λ k. Goes k (cs ++ rest) [] n rest) at run);
      stands = record { reference = stands.reference; state = ap state_of (sym is); last_start = stands.last_start; held = subst (λ s. Held s made [] n) (sym is) same };
    }))
