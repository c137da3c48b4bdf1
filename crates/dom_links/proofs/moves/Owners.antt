-- Who owns the list in which a node stands, and nodes without a parent.
use Rattle.std.proofs.Common.{ℕ, zero, suc, ◌≡◌, ◌<◌, ◌+◌, true, false, List, [], ◌∷◌, Some, None, refl, sym, ap, ◌∙◌, arith, inl, inr, length, get_or}
use Rattle.std.specs.Prelude.{◌==◌, ◌||◌}
use Rattle.std.proofs.lemmas.Bool.{cases_Bool, true≢false, eq-eqb, eqb-true}
use Rattle.dom_links.specs.Lists.{is_member}
use Rattle.dom_links.specs.Forest.{Forest, StandsOnce, children_of, run_of, owner_from, parent}
use Rattle.dom_links.proofs.forest.Places.{cases_Option, siblings_run}

-- who owns the list in which n stands
pub owner_same : (i : ℕ) (lists others : List (List ℕ)) (n : ℕ) → length lists ≡ length others → ((q : ℕ) → is_member n (get_or lists q []) ≡ is_member n (get_or others q [])) → owner_from i lists n ≡ owner_from i others n
owner_same i [] [] n h e = refl
owner_same i [] (ms ∷ others) n h e = absurd (omega arith)
owner_same i (ns ∷ lists) [] n h e = absurd (omega arith)
owner_same i (ns ∷ lists) (ms ∷ others) n h e =
    let here : is_member n ns ≡ is_member n ms = e 0 in
    rw (here, owner_same (i + 1) lists others n (omega arith) (λ q. e (suc q))) refl

pub owner_none : (i : ℕ) (lists : List (List ℕ)) (n : ℕ) → ((q : ℕ) → is_member n (get_or lists q []) ≡ false) → owner_from i lists n ≡ None
owner_none i [] n e = refl
owner_none i (ns ∷ lists) n e = let here : is_member n ns ≡ false = e 0 in rw here (owner_none (i + 1) lists n (λ q. e (suc q)))

pub owner_found : (i : ℕ) (lists : List (List ℕ)) (p n : ℕ) → is_member n (get_or lists p []) ≡ true → ((q : ℕ) → (q ≡ p → ⊥) → is_member n (get_or lists q []) ≡ false) → owner_from i lists n ≡ Some (i + p)
owner_found i [] p n h e = cc
owner_found i (ns ∷ lists) zero n h e = let z : i ≡ i + 0 = omega arith in rw h (ap Some z)
owner_found i (ns ∷ lists) (suc p) n h e =
    let here : is_member n ns ≡ false = e 0 (λ q. omega arith) in
    let z : i + 1 + p ≡ i + suc p = omega arith in
    rw here (owner_found (i + 1) lists p n h (λ q ne. e (suc q) (λ q'. ne (omega arith))) ∙ ap Some z)

-- a node without a parent stands in no list of children
pub no_child : (forest : Forest) (x p : ℕ) → StandsOnce forest → parent forest x ≡ None → is_member x (children_of forest p) ≡ false
no_child forest x p once none = elim (cases_Bool (is_member x (children_of forest p))) [
  | inl t ↦ (let some = (once.in_children p x t).1 in cc)
  | inr f ↦ f
]

-- a forest in which x stands alone
pub record Alone (forest : Forest) (x : ℕ) : Type 0 where
  pub known : x < length forest.content
  pub no_parent : parent forest x ≡ None
  pub alone : run_of forest x ≡ x ∷ []

-- a node without a parent stands in its own run
pub in_own_run : (forest : Forest) (m n : ℕ) → StandsOnce forest → m < length forest.content → is_member n (run_of forest m) ≡ true → is_member m (run_of forest m) ≡ true
in_own_run forest m n once h s = elim (cases_Option (parent forest m)) [
  | inl none ↦ ap (is_member m) (sym (siblings_run forest m none)) ∙ once.placed m h
  | inr (p, some) ↦ absurd (true≢false (sym s ∙ ap (is_member n) (once.no_run p m some)))
]

pub only_one : (forest : Forest) (x m : ℕ) → StandsOnce forest → m < length forest.content → run_of forest m ≡ x ∷ [] → x ≡ m
only_one forest x m once h same =
    let stands : is_member x (run_of forest m) ≡ true = ap (is_member x) same ∙ rw (eq-eqb x x refl) refl in
    let own : ((x == m) || false) ≡ true = ap (is_member m) (sym same) ∙ in_own_run forest m x once h stands in
    eqb-true x m ((elim (x == m) as (λ t. (t || false) ≡ true → t ≡ true) [ true ↦ (λ e. refl) | false ↦ (λ e. e) ]) own)
