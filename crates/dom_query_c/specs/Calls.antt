-- What a call on a handle promises, by what the handle held before, what it holds after, and the answer.
use Rattle.std.specs.Prelude.{ℕ, ℤ, ◌≡◌, ◌<◌, ◌≤ℤ◌, ◌⊎◌, Err, List, None, Ok, Option, MatchOption, Result, length, negsuc, pos, take}
use Rattle.c_state.specs.declared.fault.Fault.{Fault}
use Rattle.c_state.specs.declared.state.State.{State}

-- The answer for C: the count, unless it is more than the greatest answer, or a number below 0 for a fault
abbrev pub IsAnswer : Result ℕ Fault → ℤ → Type 0
IsAnswer (Ok count) answer = (answer ≡ pos count) ⊎ (9223372036854775807 < count)
IsAnswer (Err fault) answer = pos 0 ≤ℤ answer → ⊥

-- A question to what the handle holds, or a change of it, as its contract says, and the answer
pub record Asked {S : Type 0} (old new : S) (answer : ℤ) (Says : Result ℕ Fault → S → S → Type 0) : Type 0 where
  pub given : Result ℕ Fault
  pub said : Says given old new
  pub answered : IsAnswer given answer

-- A handle that holds nothing says so: the answer is -2. Else what it holds is asked, and the handle still has it
abbrev pub Asks : {S : Type 0} → Option S → Option S → ℤ → (Result ℕ Fault → S → S → Type 0) → Type 0
Asks old new answer Says = MatchOption old (answer ≡ negsuc 1) (λ s. MatchOption new ⊥ (λ t. Asked s t answer Says))

-- The length is the answer, and as much is written as there is room for
abbrev pub GivesKept : Result ℕ Fault → List ℕ → List ℕ → List ℕ → Type 0
GivesKept given before after kept = (given ≡ Ok (length kept)) × (take (length kept) after ≡ take (length before) kept)

-- An answer of 0 or more says that the handle has something of which this holds. Else the handle holds what it held
pub record Reads {S : Type 0} (old new : Option S) (answer : ℤ) (IsIt : S → Type 0) : Type 0 where
  pub ok : pos 0 ≤ℤ answer → MatchOption new ⊥ IsIt
  pub err : (pos 0 ≤ℤ answer → ⊥) → new ≡ old

-- The handle of a document still has it, and this holds of it. A handle without a document says so: the answer is -2
abbrev pub Lends : {S : Type 0} → Option S → Option S → ℤ → (S → Type 0) → Type 0
Lends old new answer Holds = (new ≡ old) × MatchOption old (answer ≡ negsuc 1) Holds

-- The handle still has its document; what was found in it may be other than before
abbrev pub KeepsDocument : Option State → Option State → Type 0
KeepsDocument old new = MatchOption old (new ≡ None) (λ s. MatchOption new ⊥ (λ t. t.document ≡ s.document))
