-- What `run` computes is read.
use Rattle.std.specs.Prelude.{◌≡◌, ℕ, zero, suc, Bool, true, false, List, [], ◌++◌, Some, refl}
use Rattle.std.proofs.lemmas.Option.{same_Some}
use mathlib.Core.Path.{sym}
use Rattle.standard_tokens.specs.Examples.{Example}
use Rattle.standard_tokens.specs.Laws.{IsExampleRead}
use Rattle.standard_tokens.specs.Machine.{normalized, start_in}
use Rattle.standard_tokens.specs.Reading.{Feedback, Reader, Reads, here, next, after, plain_feedback, reader, run, step_at}
use Rattle.standard_tokens.specs.States.{Data}
use Rattle.standard_tokens.specs.Tokens.{Token}

-- where reading ends, and what was read until then
record Ends (f : Feedback) (r : Reader) (tokens : List Token) : Type 0 where
  pub last : Reader
  pub reads : Reads f r last
  pub stops : (step_at f last).stopped ≡ true
  pub all : tokens ≡ last.seen ++ (step_at f last).tokens

-- where the step at the front stops, or what is behind it ends
ends_by : (f : Feedback) (steps : ℕ) (r : Reader) (tokens : List Token) → (run f steps (after f r (step_at f r)) ≡ Some tokens → Ends f (after f r (step_at f r)) tokens) →
    (b : Bool) → (step_at f r).stopped ≡ b →
    elim b [ true ↦ Some (r.seen ++ (step_at f r).tokens) | false ↦ run f steps (after f r (step_at f r)) ] ≡ Some tokens → Ends f r tokens
ends_by f steps r tokens later true stops same = record { last = r; reads = here; stops = stops; all = sym (same_Some _ _ same) }
ends_by f steps r tokens later false runs same =
    let more : Ends f (after f r (step_at f r)) tokens = later same in
    record { last = more.last; reads = next (step_at f r) refl runs more.reads; stops = more.stops; all = more.all }

run_ends : (f : Feedback) (steps : ℕ) (r : Reader) (tokens : List Token) → run f steps r ≡ Some tokens → Ends f r tokens
unfolding run
run_ends f zero r tokens h = cc
run_ends f (suc steps) r tokens h = ends_by f steps r tokens (λ same. run_ends f steps (after f r (step_at f r)) tokens same) (step_at f r).stopped refl h

pub by_running : (steps : ℕ) (example : Example) → run (plain_feedback example.foreign) steps (reader (start_in Data) (normalized example.text) []) ≡ Some example.tokens → IsExampleRead example
by_running steps example h =
    let ends : Ends (plain_feedback example.foreign) (reader (start_in Data) (normalized example.text) []) example.tokens = run_ends (plain_feedback example.foreign) steps (reader (start_in Data) (normalized example.text) []) example.tokens h in
    record { last = ends.last; reads = ends.reads; stops = ends.stops; all = ends.all }
