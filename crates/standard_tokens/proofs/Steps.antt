-- Steps of the tokenizer, one behind the other.
use Rattle.std.specs.Prelude.{◌≡◌, ℕ, Bool, true, false, ◌==◌, List, [], ◌∷◌, ◌++◌, map, None, refl}
use Rattle.std.proofs.lemmas.Bool.{ne_eqb, true≢false}
use Rattle.std.proofs.lemmas.List.{append-nil, append_assoc}
use mathlib.Core.Path.{◌∙◌, sym, ap, subst}
use Rattle.standard_tokens.specs.Entries.{Act, Then}
use Rattle.standard_tokens.specs.Machine.{Machine, Step, Taken, all_emitted, step, step_by, stops, taken}
use Rattle.standard_tokens.specs.Reading.{Feedback, IsFeedback, Reader, Reads, here, next, answered, switched, after, may_switch, reader}
use Rattle.standard_tokens.specs.Table.{entries}
use Rattle.standard_tokens.specs.Tokens.{Token, AChar}

pub go_on : {f : Feedback} {a b c : Reader} → Reads f a b → Reads f b c → Reads f a c
go_on here more = more
go_on (next s is runs reads) more = next s is runs (go_on reads more)

abbrev pub taking : List Act → Then → List ℕ → Taken
taking acts goes current = record { acts = acts; goes = goes; current = current }

-- a step whose entry is known, and what it emits, and how that is answered
pub step_to : {f : Feedback} {r : Reader} (t : Taken) (tokens : List Token) (m : Machine) → taken (f.in_foreign r.seen) r.machine r.text (entries r.machine.state) ≡ t →
    stops t.goes ≡ false → all_emitted t.current t.acts r.machine ≡ tokens → answered f r.seen tokens (step_by r.machine r.text t).machine ≡ m →
    Reads f r (reader m (step_by r.machine r.text t).rest (r.seen ++ tokens))
unfolding step
step_to {f} {r} t tokens m is runs emits answers =
    let s : Step = step_by r.machine r.text t in
    let same : after f r s ≡ reader m s.rest (r.seen ++ tokens) =
    ap (λ ts. reader (answered f r.seen ts s.machine) s.rest (r.seen ++ ts)) emits ∙ ap (λ n. reader n s.rest (r.seen ++ tokens)) answers in
    next s (ap (step_by r.machine r.text) is) runs (subst (Reads f (after f r s)) same here)

-- where it stands behind a step whose entry is known, and that emits these tokens
abbrev pub behind : Reader → Taken → List Token → Reader
behind r t tokens = let s : Step = step_by r.machine r.text t in reader s.machine s.rest (r.seen ++ tokens)

abbrev pub behind_none : Reader → Taken → Reader
behind_none r t = let s : Step = step_by r.machine r.text t in reader s.machine s.rest r.seen

-- a step that emits nothing
pub silent : {f : Feedback} {r : Reader} (t : Taken) → taken (f.in_foreign r.seen) r.machine r.text (entries r.machine.state) ≡ t →
    stops t.goes ≡ false → all_emitted t.current t.acts r.machine ≡ [] → Reads f r (behind_none r t)
silent {f} {r} t is runs none =
    let s : Step = step_by r.machine r.text t in
    subst (λ seen. Reads f r (reader s.machine s.rest seen)) (append-nil r.seen) (step_to t [] s.machine is runs none refl)

-- a step that emits a token, behind which tree construction does not switch
pub loud : {f : Feedback} {r : Reader} → IsFeedback f → (t : Taken) (token : Token) →
    taken (f.in_foreign r.seen) r.machine r.text (entries r.machine.state) ≡ t → stops t.goes ≡ false →
    all_emitted t.current t.acts r.machine ≡ token ∷ [] → may_switch token ≡ false → Reads f r (behind r t (token ∷ []))
loud {f} {r} honest t token is runs one stays =
    let s : Step = step_by r.machine r.text t in
    step_to t (token ∷ []) s.machine is runs one (ap (λ state. switched state s.machine) (honest r.seen token stays))

-- behind characters tree construction does not switch
chars_stay : (f : Feedback) → IsFeedback f → (seen : List Token) (c : ℕ) (cs : List ℕ) → f.switch (seen ++ map AChar (c ∷ cs)) ≡ None
chars_stay f honest seen c [] = honest seen (AChar c) refl
chars_stay f honest seen c (d ∷ cs) =
    ap f.switch (sym (append_assoc seen (AChar c ∷ []) (map AChar (d ∷ cs)))) ∙ chars_stay f honest (seen ++ AChar c ∷ []) d cs

-- a step that emits characters
pub telling : {f : Feedback} {r : Reader} → IsFeedback f → (t : Taken) (c : ℕ) (cs : List ℕ) →
    taken (f.in_foreign r.seen) r.machine r.text (entries r.machine.state) ≡ t → stops t.goes ≡ false →
    all_emitted t.current t.acts r.machine ≡ map AChar (c ∷ cs) → Reads f r (behind r t (map AChar (c ∷ cs)))
telling {f} {r} honest t c cs is runs emits =
    let s : Step = step_by r.machine r.text t in
    step_to t (map AChar (c ∷ cs)) s.machine is runs emits (ap (λ state. switched state s.machine) (chars_stay f honest r.seen c cs))

-- a character that passes a test is none that does not
pub other : (test : ℕ → Bool) (k c : ℕ) → test c ≡ true → test k ≡ false → (k == c) ≡ false
other test k c passes fails = ne_eqb k c (λ e. true≢false (sym passes ∙ ap test (sym e) ∙ fails))

-- a character that fails a test is none that passes
pub none : (test : ℕ → Bool) (k c : ℕ) → test c ≡ false → test k ≡ true → (k == c) ≡ false
none test k c fails passes = ne_eqb k c (λ e. true≢false (sym passes ∙ ap test e ∙ fails))
