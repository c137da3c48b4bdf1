-- The runs after nodes were detached and put back.
use Rattle.std.proofs.Common.{ℕ, ◌≡◌, ◌<◌, Bool, true, false, List, [], ◌∷◌, Option, Some, None, refl, sym, ap, ◌∙◌, inl, inr, length, arith}
use Rattle.std.specs.Prelude.{◌==◌, ◌&&◌, is_some, if◌then◌else◌}
use Rattle.std.proofs.lemmas.Bool.{cases_Bool, eq-eqb, eqb-true, or_parts, true≢false, or_right, or_left}
use Rattle.dom_links.specs.Forest.{Forest, run_of}
use Rattle.dom_links.specs.Lists.{is_member, without}
use Rattle.dom_links.specs.declared.gap.InsertionPoint.TheVariants.{FrontOf}
use Rattle.dom_links.specs.Moves.{detach, moved_to, run_with}
use Rattle.dom_sanitize.specs.Plan.{all_done, clear_one, cut_one, ids, put_one, staying}
use Rattle.dom_sanitize.specs.declared.plan.Step.{Step}
use Rattle.dom_sanitize.proofs.MovedNodes.{length-from, list_from}
use Rattle.dom_links.proofs.forest.Neighbours.{without_one-none}
use Rattle.dom_links.proofs.moves.Cuts.{one-stands}
use Rattle.dom_sanitize.proofs.NumberLists.{turned}

pub run-detach : (x : ℕ) (forest : Forest) (n : ℕ) → n < length forest.runs → run_of (detach (x ∷ []) forest) n ≡ (if x == n then x ∷ [] else without (x ∷ []) (run_of forest n))
run-detach x forest n h =
    list_from 0 (λ m run. if is_member m (x ∷ []) then x ∷ [] else without (x ∷ []) run) forest.runs n h
    ∙ ap (λ m. if is_member m (x ∷ []) then x ∷ [] else without (x ∷ []) (run_of forest n)) (omega arith)
    ∙ ap (λ t. if t then x ∷ [] else without (x ∷ []) (run_of forest n)) (one-stands x n)

pub long-detach : (x : ℕ) (forest : Forest) → length (detach (x ∷ []) forest).runs ≡ length forest.runs
long-detach x forest = length-from 0 (λ m run. if is_member m (x ∷ []) then x ∷ [] else without (x ∷ []) run) forest.runs

-- a node that is put among children stands in no run, and in no other node's
pub run-put : (x p : ℕ) (forest : Forest) (n : ℕ) → n < length forest.runs → run_of (moved_to (x ∷ []) (FrontOf p) forest) n ≡ (if x == n then [] else without (x ∷ []) (run_of forest n))
run-put x p forest n h =
    let inner = detach (x ∷ []) forest in
    list_from 0 (λ m run. run_with (FrontOf p) (x ∷ []) inner m) inner.runs n (omega (arith, h, long-detach x forest))
    ∙ ap (λ m. if is_member m (x ∷ []) then [] else run_of inner m) (omega arith)
    ∙ ap (λ t. if t then [] else run_of inner n) (one-stands x n)
    ∙ ap (λ (run : List ℕ). if x == n then [] else run) (run-detach x forest n h)
    ∙ twice (x == n)
  where
    twice : (t : Bool) → (if t then [] else (if t then x ∷ [] else without (x ∷ []) (run_of forest n))) ≡ (if t then [] else without (x ∷ []) (run_of forest n))
    twice true = refl
    twice false = refl

long-put : (x p : ℕ) (forest : Forest) → length (moved_to (x ∷ []) (FrontOf p) forest).runs ≡ length forest.runs
long-put x p forest =
    let inner = detach (x ∷ []) forest in
    length-from 0 (λ m run. run_with (FrontOf p) (x ∷ []) inner m) inner.runs ∙ long-detach x forest

pub runs-all_cut : (steps : List Step) (forest : Forest) → length (all_done cut_one steps forest).runs ≡ length forest.runs
runs-all_cut [] forest = refl
runs-all_cut (s ∷ steps) forest = long-detach s.id (all_done cut_one steps forest) ∙ runs-all_cut steps forest

runs-put_one : (home : Option ℕ) (x : ℕ) (forest : Forest) → length (put_one (record { id = x; home = home }) forest).runs ≡ length forest.runs
runs-put_one None x forest = refl
runs-put_one (Some p) x forest = long-put x p forest

pub runs-all_put : (steps : List Step) (forest : Forest) → length (all_done put_one steps forest).runs ≡ length forest.runs
runs-all_put [] forest = refl
runs-all_put (s ∷ steps) forest = runs-put_one s.home s.id (all_done put_one steps forest) ∙ runs-all_put steps forest

here : (x : ℕ) (xs : List ℕ) → is_member x (x ∷ xs) ≡ true
here x xs = or_left (x == x) (is_member x xs) (eq-eqb x x refl)

not_one : (x n : ℕ) → (x == n) ≡ false → is_member x (n ∷ []) ≡ false
not_one x n f = one-stands n x ∙ turned x n f

-- who was detached stands alone
pub run-of_cut : (n : ℕ) (steps : List Step) (forest : Forest) → n < length forest.runs → is_member n (ids steps) ≡ true → run_of (all_done cut_one steps forest) n ≡ n ∷ []
run-of_cut n [] forest h s = absurd (true≢false (sym s))
run-of_cut n (s ∷ steps) forest h is =
    let rest = all_done cut_one steps forest in
    let known : n < length rest.runs = omega (arith, h, runs-all_cut steps forest) in
    run-detach s.id rest n known ∙ (elim (cases_Bool (s.id == n)) [
      | inl t ↦ rw t (ap (λ m. m ∷ []) (eqb-true s.id n t))
      | inr f ↦ (let below : is_member n (ids steps) ≡ true = rw f at is in
          rw f (ap (without (s.id ∷ [])) (run-of_cut n steps forest h below) ∙ without_one-none (n ∷ []) s.id (not_one s.id n f)))
    ])

-- another run, in which none of them stood, is as it was
pub run-beside_cut : (n : ℕ) (steps : List Step) (forest : Forest) → n < length forest.runs → is_member n (ids steps) ≡ false
    → ((m : ℕ) → is_member m (ids steps) ≡ true → is_member m (run_of forest n) ≡ false) → run_of (all_done cut_one steps forest) n ≡ run_of forest n
run-beside_cut n [] forest h out none = refl
run-beside_cut n (s ∷ steps) forest h out none =
    let rest = all_done cut_one steps forest in
    let two = or_parts (s.id == n) (is_member n (ids steps)) out in
    let known : n < length rest.runs = omega (arith, h, runs-all_cut steps forest) in
    run-detach s.id rest n known
    ∙ rw two.0 (ap (without (s.id ∷ [])) (run-beside_cut n steps forest h two.1 (λ m t. none m (or_right (s.id == m) (is_member m (ids steps)) t)))
    ∙ without_one-none (run_of forest n) s.id (none s.id (here s.id (ids steps))))

run-one_put : (home : Option ℕ) (x : ℕ) (forest : Forest) (n : ℕ) → n < length forest.runs →
    run_of (put_one (record { id = x; home = home }) forest) n ≡ (if (x == n) && is_some home then [] else (if is_some home then without (x ∷ []) (run_of forest n) else run_of forest n))
run-one_put None x forest n h = sym (never (x == n))
  where
    never : (t : Bool) → (if t && false then [] else run_of forest n) ≡ run_of forest n
    never true = refl
    never false = refl
run-one_put (Some p) x forest n h = run-put x p forest n h ∙ same (x == n)
  where
    same : (t : Bool) → (if t then [] else without (x ∷ []) (run_of forest n)) ≡ (if t && true then [] else without (x ∷ []) (run_of forest n))
    same true = refl
    same false = refl

-- who was put back stands in no run
pub run-of_put : (n : ℕ) (steps : List Step) (forest : Forest) → n < length forest.runs → staying n steps ≡ true → run_of (all_done put_one steps forest) n ≡ []
run-of_put n [] forest h s = absurd (true≢false (sym s))
run-of_put n (s ∷ steps) forest h is =
    let rest = all_done put_one steps forest in
    let known : n < length rest.runs = omega (arith, h, runs-all_put steps forest) in
    run-one_put s.home s.id rest n known ∙ (elim (cases_Bool ((s.id == n) && is_some s.home)) [
      | inl t ↦ rw t refl
      | inr f ↦ rw f (still (is_some s.home) (run-of_put n steps forest h (rw f at is)))
    ])
  where
    still : (t : Bool) → run_of (all_done put_one steps forest) n ≡ [] → (if t then without (s.id ∷ []) (run_of (all_done put_one steps forest) n) else run_of (all_done put_one steps forest) n) ≡ []
    still true none = ap (without (s.id ∷ [])) none
    still false none = none

-- the run of another is as it was
pub run-beside_put : (n : ℕ) (steps : List Step) (forest : Forest) → n < length forest.runs → staying n steps ≡ false
    → ((m : ℕ) → is_member m (ids steps) ≡ true → (m == n) ≡ false → is_member m (run_of forest n) ≡ false) → run_of (all_done put_one steps forest) n ≡ run_of forest n
run-beside_put n [] forest h out none = refl
run-beside_put n (s ∷ steps) forest h out none =
    let rest = all_done put_one steps forest in
    let known : n < length rest.runs = omega (arith, h, runs-all_put steps forest) in
    let two = or_parts ((s.id == n) && is_some s.home) (staying n steps) out in
    let later = run-beside_put n steps forest h two.1 (λ m t. none m (or_right (s.id == m) (is_member m (ids steps)) t)) in
    run-one_put s.home s.id rest n known ∙ rw two.0 (still (is_some s.home) later two.0)
  where
    alone : (t : Bool) → (t && true) ≡ false → t ≡ false
    alone true e = e
    alone false e = e

    still : (t : Bool) → run_of (all_done put_one steps forest) n ≡ run_of forest n → ((s.id == n) && t) ≡ false
        → (if t then without (s.id ∷ []) (run_of (all_done put_one steps forest) n) else run_of (all_done put_one steps forest) n) ≡ run_of forest n
    still true same off = ap (without (s.id ∷ [])) same ∙ without_one-none (run_of forest n) s.id (none s.id (here s.id (ids steps)) (alone (s.id == n) off))
    still false same off = same

-- clearing leaves the runs
run-clear_one : (names : List (List ℕ)) (home : Option ℕ) (x : ℕ) (forest : Forest) → (clear_one names (record { id = x; home = home }) forest).runs ≡ forest.runs
run-clear_one names None x forest = refl
run-clear_one names (Some p) x forest = refl

pub runs-cleared : (names : List (List ℕ)) (steps : List Step) (forest : Forest) → (all_done (clear_one names) steps forest).runs ≡ forest.runs
runs-cleared names [] forest = refl
runs-cleared names (s ∷ steps) forest = run-clear_one names s.home s.id (all_done (clear_one names) steps forest) ∙ runs-cleared names steps forest
