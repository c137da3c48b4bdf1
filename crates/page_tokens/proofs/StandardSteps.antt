-- Steps of the standard's machine, one behind the other.
use Rattle.std.specs.Prelude.{◌≡◌, ℕ, Bool, true, false, ◌==◌, cond, List, ◌++◌, refl}
use Rattle.std.proofs.lemmas.Bool.{eqb-true, eqb-false, ne_eqb}
use Rattle.std.proofs.lemmas.List.{append-nil, append_assoc}
use mathlib.Core.Path.{sym, ap, subst}
use Rattle.standard_tokens.specs.Entries.{Act, Then}
use Rattle.standard_tokens.specs.Machine.{Machine, Step, Taken, all_emitted, at_state, step, step_by, stops, taken}
use Rattle.standard_tokens.specs.States.{State as StandardState}
use Rattle.standard_tokens.specs.Table.{entries}
use Rattle.standard_tokens.specs.Tokens.{Token as StandardToken}
use Rattle.page_tokens.specs.Standard.{Goes, stays, steps}

abbrev pub taking : List Act → Then → List ℕ → Taken
taking acts goes current = record { acts = acts; goes = goes; current = current }

pub then_on : {m n k : Machine} {text mid rest : List ℕ} {ts us : List StandardToken} → Goes m text ts n mid → Goes n mid us k rest → Goes m text (ts ++ us) k rest
then_on stays more = more
then_on {m} {n} {k} {text} {mid} {rest} {ts} {us} (steps {tokens = later} s is runs goes) more =
    subst (λ all. Goes m text all k rest) (sym (append_assoc s.tokens later us)) (steps s is runs (then_on goes more))

-- where the machine stands behind an entry
pub by_entry : (m : Machine) (text : List ℕ) (t : Taken) → ((x : Bool) → taken x m text (entries m.state) ≡ t) → stops t.goes ≡ false →
    Goes m text (all_emitted t.current t.acts m) (step_by m text t).machine (step_by m text t).rest
unfolding step
by_entry m text t is runs =
    let s : Step = step_by m text t in
    subst (λ all. Goes m text all s.machine s.rest) (append-nil s.tokens) (steps s (λ x. ap (step_by m text) (is x)) runs stays)

-- a machine is the one that stands in its state
pub in_its_state : (m : Machine) (s : StandardState) → m.state ≡ s → at_state m s ≡ m
in_its_state m s is = ap (at_state m) (sym is)

-- by a test of a character
pub by_bool : (P : ℕ → Bool → Type 0) (c k : ℕ) → P k true → ((k == c) ≡ false → P c false) → P c (c == k)
by_bool P c k yes_case no_case = go (c == k) refl
  where
    go : (b : Bool) → (c == k) ≡ b → P c b
    go true e = subst (λ d. P d true) (sym (eqb-true c k e)) yes_case
    go false e = no_case (ne_eqb k c (λ d. eqb-false c k e (sym d)))

pub by_test : {A : Type 0} (P : ℕ → A → Type 0) (c k : ℕ) (x y : A) → P k x → ((k == c) ≡ false → P c y) → P c (cond (c == k) x y)
by_test {A} P c k x y yes_case no_case = by_bool (λ d b. P d (cond b x y)) c k yes_case no_case
