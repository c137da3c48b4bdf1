-- A question to what a handle holds, and the answer.
use Rattle.std.proofs.Common.{◌≡◌, ℕ, ℤ, subst, sym}
use Rattle.std.specs.Prelude.{MatchOption, None, Option, Result, Some, negsuc}
use Rattle.c_state.specs.declared.fault.Fault.{Fault}
use Rattle.dom_query_c.specs.Calls.{Asked, Asks, IsAnswer}

pub asked : {S : Type 0} (old new : Option S) (answer : ℤ) (Says : Result ℕ Fault → S → S → Type 0) (s t : S) (given : Result ℕ Fault) → old ≡ Some s → new ≡ Some t → Says given s t → IsAnswer given answer → Asks old new answer Says
asked {S} old new answer Says s t given was is said answered =
    subst (λ (o : Option S). Asks o new answer Says) (sym was)
    (subst (λ (o : Option S). MatchOption o ⊥ (λ t. Asked s t answer Says)) (sym is) (record { given = given; said = said; answered = answered }))

pub closed : {S : Type 0} (old new : Option S) (answer : ℤ) (Says : Result ℕ Fault → S → S → Type 0) → old ≡ None → answer ≡ negsuc 1 → Asks old new answer Says
closed {S} old new answer Says was said = subst (λ (o : Option S). Asks o new answer Says) (sym was) said
