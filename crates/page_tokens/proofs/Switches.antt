-- The two most frequent kinds of entry: the character only changes the state, or it is read again in another state.
use Rattle.std.specs.Prelude.{◌≡◌, ℕ, Bool, false, List, [], ◌∷◌, ◌++◌, Option, None, refl}
use mathlib.Core.Path.{◌∙◌, sym, ap, subst}
use Rattle.standard_tokens.specs.Entries.{Switch, Reconsume}
use Rattle.standard_tokens.specs.Machine.{Machine, at_state, taken}
use Rattle.standard_tokens.specs.Table.{entries}
use Rattle.page_tokens.specs.Changes.{Remembers}
use Rattle.page_tokens.specs.Reading.{text_of}
use Rattle.page_tokens.specs.Standard.{FollowsStandard, Goes, Held, Stands}
use Rattle.page_tokens.specs.StandardStates.{state_of}
use Rattle.page_tokens.specs.declared.token.TokenKind.{TokenKind}
use Rattle.page_tokens.specs.declared.tokenizer.Tokenizer.{Tokenizer}
use Rattle.page_tokens.specs.declared.tokenizer.state.State.{State}
use Rattle.page_tokens.proofs.DeclarationFollows.{led, through}
use Rattle.page_tokens.proofs.StandardSteps.{by_entry, in_its_state, taking}

-- nothing is read ahead in the state
abbrev pub ReadsNothingAhead : State → Type 0
ReadsNothingAhead s = (t : Tokenizer) (ahead : List ℕ) (m : Machine) → Held s t ahead m → ahead ≡ []

-- what is held in one state is held in the other
abbrev pub HoldsAlso : State → State → Type 0
HoldsAlso from to = (t other : Tokenizer) (ahead : List ℕ) (m : Machine) → Held from t ahead m →
    Held to (record t { state = to; errors = other.errors; refused = other.refused }) [] (at_state m (state_of to))

-- the character only changes the state
pub switches : (old new : Tokenizer) (from to : State) (c : ℕ) (told : Option TokenKind) → old.state ≡ from → new ≡ record old { state = to } → told ≡ None → new.refused ≡ false →
    ((b : Bool) (m : Machine) (rest : List ℕ) → taken b (at_state m (state_of from)) (c ∷ rest) (entries (state_of from)) ≡ taking [] (Switch (state_of to)) (c ∷ [])) →
    ReadsNothingAhead from → HoldsAlso from to → FollowsStandard old new (c ∷ []) told
switches old new from to c told is only told_is none entry nothing also =
    let made : Tokenizer = record old { state = to } in
    let memory : old.refused ≡ false = sym (ap (λ t. t.refused) only) ∙ none in
    subst (λ t. FollowsStandard old t (c ∷ []) told) (sym only) (subst (λ k. FollowsStandard old made (c ∷ []) k) (sym told_is)
    (led old made (c ∷ []) memory (record { in_foreign = refl; after_return = refl }) refl (λ m ahead rest stands.
    let held : Held from old ahead m = subst (λ s. Held s old ahead m) is stands.held in
    let b : Bool = old.in_foreign in
    let n : Machine = at_state m (state_of to) in
    let at : m.state ≡ state_of from = stands.state ∙ ap state_of is in
    let step : Goes (at_state m (state_of from)) (c ∷ rest) [] n rest = by_entry (at_state m (state_of from)) (c ∷ rest) (taking [] (Switch (state_of to)) (c ∷ [])) (λ x. entry x m rest) refl in
    record {
      machine = n;
      goes = subst (λ front. Goes m (front ++ (c ∷ []) ++ rest) [] n rest) (sym (nothing old ahead m held)) (subst (λ k. Goes k (c ∷ rest) [] n rest) (in_its_state m (state_of from) at) step);
      stands = record { reference = stands.reference; state = refl; last_start = stands.last_start; held = also old old ahead m held };
    })))

-- the characters are read in another state
pub reconsumes_all : (old mid new : Tokenizer) (from to : State) (c : ℕ) (cs : List ℕ) (told : Option TokenKind) → old.state ≡ from → mid ≡ record old { state = to; errors = mid.errors; refused = mid.refused } → Remembers old mid →
    ((b : Bool) (m : Machine) (rest : List ℕ) → taken b (at_state m (state_of from)) (c ∷ rest) (entries (state_of from)) ≡ taking [] (Reconsume (state_of to)) (c ∷ [])) →
    ReadsNothingAhead from → HoldsAlso from to → FollowsStandard mid new (c ∷ cs) told → FollowsStandard old new (c ∷ cs) told
reconsumes_all old mid new from to c cs told is only remembers entry nothing also follows =
    through old mid new (c ∷ cs) told remembers (record { in_foreign = ap (λ t. t.in_foreign) only; after_return = ap (λ t. t.after_return) only }) (ap text_of only) (λ m ahead rest stands.
    let held : Held from old ahead m = subst (λ s. Held s old ahead m) is stands.held in
    let b : Bool = old.in_foreign in
    let n : Machine = at_state m (state_of to) in
    let at : m.state ≡ state_of from = stands.state ∙ ap state_of is in
    let step : Goes (at_state m (state_of from)) (c ∷ (cs ++ rest)) [] n (c ∷ (cs ++ rest)) =
    by_entry (at_state m (state_of from)) (c ∷ (cs ++ rest)) (taking [] (Reconsume (state_of to)) (c ∷ [])) (λ x. entry x m (cs ++ rest)) refl in
    record {
      machine = n;
      goes = subst (λ front. Goes m (front ++ (c ∷ cs) ++ rest) [] n (c ∷ (cs ++ rest))) (sym (nothing old ahead m held)) (subst (λ k. Goes k (c ∷ (cs ++ rest)) [] n (c ∷ (cs ++ rest))) (in_its_state m (state_of from) at) step);
      stands = subst (λ t. Stands t [] n) (sym only) (record { reference = stands.reference; state = refl; last_start = stands.last_start; held = also old mid ahead m held });
    }) follows

-- the character is read in another state
pub reconsumes : (old mid new : Tokenizer) (from to : State) (c : ℕ) (told : Option TokenKind) → old.state ≡ from → mid ≡ record old { state = to; errors = mid.errors; refused = mid.refused } → Remembers old mid →
    ((b : Bool) (m : Machine) (rest : List ℕ) → taken b (at_state m (state_of from)) (c ∷ rest) (entries (state_of from)) ≡ taking [] (Reconsume (state_of to)) (c ∷ [])) →
    ReadsNothingAhead from → HoldsAlso from to → FollowsStandard mid new (c ∷ []) told → FollowsStandard old new (c ∷ []) told
reconsumes old mid new from to c told is only remembers entry nothing also follows = reconsumes_all old mid new from to c [] told is only remembers entry nothing also follows
