-- Paths along links, and what marks state of them.
use Rattle.std.proofs.Common.{Bool, ℕ, zero, suc, ◌≡◌, ◌<◌, ◌≤◌, ◌+◌, true, false, List, [], ◌∷◌, Option, Some, None, refl, sym, ap, ◌∙◌, subst, arith, cond, inl, inr, ◌⊎◌, length, get_or}
use Rattle.std.specs.Prelude.{◌==◌, MatchBool}
use Rattle.std.proofs.lemmas.Bool.{cases_Bool, cases_lt, eq-eqb, ne_eqb, eqb-true, eqb-false}
use Rattle.std.proofs.lemmas.List.{get_or_default, get_or_past, get_or-set_same, get_or-set_other, length-set}
use Rattle.std.proofs.Math.ListN.{set}
use Rattle.dom_links.specs.Validation.{LinkPath, one_link, then_link, Ends, last_one, link_then, HasCycle, AreMarks, link_at}

-- where a way's first link leads
starts : (link : ℕ → Option ℕ) (m n : ℕ) → LinkPath link m n → (k : ℕ) × (link m ≡ Some k) × ((k ≡ n) ⊎ LinkPath link k n)
starts link _ _ (one_link m n e) = (n, e, inl refl)
starts link _ _ (then_link m k n way e) =
    let first = starts link m k way in (
      first.0,
      first.1,
      inr (elim first.2 [
        | inl same ↦ one_link first.0 n (subst (λ (j : ℕ). link j ≡ Some n) (sym same) e)
        | inr rest ↦ then_link first.0 k n rest e
      ]),
    )

-- where links come to an end, no way leads back
pub no_return : (link : ℕ → Option ℕ) (n : ℕ) → Ends link n → LinkPath link n n → ⊥
no_return link _ (last_one n none) way = (let first = starts link n n way in let two = sym none ∙ first.1 in cc)
no_return link _ (link_then m n some ends) way =
    let first = starts link m m way in
    let same : first.0 ≡ n = (let two = sym first.1 ∙ some in cc) in
    no_return link n ends (elim first.2 [
      | inl here ↦ (let e : m ≡ n = sym here ∙ same in subst (λ (j : ℕ). LinkPath link j n) e (one_link m n some))
      | inr rest ↦ then_link n m n (subst (λ (j : ℕ). LinkPath link j m) same rest) some
    ])

pub ends_along : (link : ℕ → Option ℕ) (m n : ℕ) → LinkPath link m n → Ends link n → Ends link m
ends_along link _ _ (one_link m n e) ends = link_then m n e ends
ends_along link _ _ (then_link m k n way e) ends = ends_along link m k way (link_then k n e ends)

-- The way from `start` is at `at`, and has marked what it met
pub record Walks (links : List (Option ℕ)) (marks : List ℕ) (start at : ℕ) : Type 0 where
  pub long : length marks ≡ length links
  pub here : at < length links
  pub met : (n : ℕ) → n < start → 0 < get_or marks n 0
  pub begun : get_or marks start 0 ≡ 0 → at ≡ start
  pub small : (n : ℕ) → get_or marks n 0 ≤ start + 1
  pub ended : (n : ℕ) → 0 < get_or marks n 0 → get_or marks n 0 ≤ start → Ends (link_at links) n
  pub going : (n : ℕ) → get_or marks n 0 ≡ start + 1 → LinkPath (link_at links) n at

pub walk_starts : (links : List (Option ℕ)) (marks : List ℕ) (start : ℕ) → AreMarks links marks start → start < length links → Walks links marks start start
walk_starts links marks start earlier h = record {
  long = earlier.long;
  here = h;
  met = earlier.met;
  begun = λ e. refl;
  small = λ n. (let s = earlier.small n in omega arith);
  ended = λ n marked old. earlier.ended n marked;
  going = λ n e. absurd (let s = earlier.small n in omega arith);
}

-- a mark after one was set
set_at : (marks : List ℕ) (at mark n : ℕ) → at < length marks → ((at ≡ n) × (get_or (set marks at mark) n 0 ≡ mark)) ⊎ ((at ≡ n → ⊥) × (get_or (set marks at mark) n 0 ≡ get_or marks n 0))
set_at marks at mark n h = elim (cases_Bool (at == n)) [
  | inl t ↦ (let e = eqb-true at n t in inl (e, ap (λ (k : ℕ). get_or (set marks at mark) k 0) (sym e) ∙ get_or-set_same marks at mark 0 h))
  | inr f ↦ (let ne = eqb-false at n f in inr (ne, get_or-set_other marks at n mark 0 (λ e. ne (sym e))))
]

pub walk_goes_on : (links : List (Option ℕ)) (marks : List ℕ) (start at next : ℕ) → Walks links marks start at → get_or marks at 0 ≡ 0 → link_at links at ≡ Some next → next < length links →
    Walks links (set marks at (start + 1)) start next
walk_goes_on links marks start at next walk new some known =
    let inside : at < length marks = (let h = walk.here in let l = walk.long in omega arith) in
    record {
      long = length-set marks at (start + 1) ∙ walk.long;
      here = known;
      met = λ n h. elim (set_at marks at (start + 1) n inside) [
        | inl same ↦ (let e = same.1 in omega arith)
        | inr other ↦ (let e = other.1 in let m = walk.met n h in omega arith)
      ];
      begun = λ e. elim (set_at marks at (start + 1) start inside) [
        | inl same ↦ absurd (let m = same.1 in omega arith)
        | inr other ↦ absurd (other.0 (walk.begun (sym other.1 ∙ e)))
      ];
      small = λ n. elim (set_at marks at (start + 1) n inside) [
        | inl same ↦ (let e = same.1 in omega arith)
        | inr other ↦ (let e = other.1 in let s = walk.small n in omega arith)
      ];
      ended = λ n marked old. elim (set_at marks at (start + 1) n inside) [
        | inl same ↦ absurd (let e = same.1 in omega arith)
        | inr other ↦ (let e = other.1 in walk.ended n (omega arith) (omega arith))
      ];
      going = λ n e. elim (set_at marks at (start + 1) n inside) [
        | inl same ↦ subst (λ (k : ℕ). LinkPath (link_at links) k next) same.0 (one_link at next some)
        | inr other ↦ then_link n at next (walk.going n (sym other.1 ∙ e)) some
      ];
    }

-- the way has come to an end
pub walk_ends : (links : List (Option ℕ)) (marks : List ℕ) (start at : ℕ) → Walks links marks start at → get_or marks at 0 ≡ 0 → link_at links at ≡ None → AreMarks links (set marks at (start + 1)) (start + 1)
walk_ends links marks start at walk new none =
    let inside : at < length marks = (let h = walk.here in let l = walk.long in omega arith) in
    let last : Ends (link_at links) at = last_one at none in
    record {
      long = length-set marks at (start + 1) ∙ walk.long;
      met = λ n h. elim (set_at marks at (start + 1) n inside) [
        | inl same ↦ (let e = same.1 in omega arith)
        | inr other ↦ (let e = other.1 in elim (cases_lt n start) [
          | inl less ↦ (let m = walk.met n less in omega arith)
          | inr past ↦ (let is : n ≡ start = omega arith in elim (cases_lt 0 (get_or marks n 0)) [
            | inl marked ↦ omega arith
            | inr low ↦ (let z : get_or marks start 0 ≡ 0 = ap (λ (k : ℕ). get_or marks k 0) (sym is) ∙ omega arith in absurd (other.0 (walk.begun z ∙ sym is)))
          ])
        ])
      ];
      small = λ n. elim (set_at marks at (start + 1) n inside) [
        | inl same ↦ (let e = same.1 in omega arith)
        | inr other ↦ (let e = other.1 in let s = walk.small n in omega arith)
      ];
      ended = λ n marked. elim (set_at marks at (start + 1) n inside) [
        | inl same ↦ subst (Ends (link_at links)) same.0 last
        | inr other ↦ (let e = other.1 in elim (cases_lt start (get_or marks n 0)) [
          | inl now ↦ (let s = walk.small n in ends_along (link_at links) n at (walk.going n (omega arith)) last)
          | inr old ↦ walk.ended n (omega arith) old
        ])
      ];
    }

-- the way has come to what an earlier one has met
pub walk_joins : (links : List (Option ℕ)) (marks : List ℕ) (start at : ℕ) → Walks links marks start at → (get_or marks at 0 ≡ 0 → ⊥) → (get_or marks at 0 ≡ start + 1 → ⊥) → AreMarks links marks (start + 1)
walk_joins links marks start at walk marked other =
    let s = walk.small at in
    let rest : Ends (link_at links) at = walk.ended at (omega arith) (omega arith) in
    record {
      long = walk.long;
      met = λ n h. elim (cases_lt n start) [
        | inl less ↦ walk.met n less
        | inr past ↦ (let is : n ≡ start = omega arith in elim (cases_lt 0 (get_or marks n 0)) [
          | inl here ↦ here
          | inr low ↦ (let z : get_or marks start 0 ≡ 0 = ap (λ (k : ℕ). get_or marks k 0) (sym is) ∙ omega arith in absurd (marked (ap (λ (k : ℕ). get_or marks k 0) (walk.begun z) ∙ z)))
        ])
      ];
      small = walk.small;
      ended = λ n m. elim (cases_lt start (get_or marks n 0)) [
        | inl now ↦ (let t = walk.small n in ends_along (link_at links) n at (walk.going n (omega arith)) rest)
        | inr old ↦ walk.ended n m old
      ];
    }

-- the way has come to what it has met
pub walk_reaches : (links : List (Option ℕ)) (marks : List ℕ) (start at : ℕ) → Walks links marks start at → get_or marks at 0 ≡ start + 1 → HasCycle (link_at links)
walk_reaches links marks start at walk mine = (at, walk.going at mine)

-- how many numbers have no mark
abbrev pub unmarked : List ℕ → ℕ
unmarked [] = 0
unmarked (m ∷ ms) = cond (m == 0) (unmarked ms + 1) (unmarked ms)

pub fewer_unmarked : (marks : List ℕ) (at mark : ℕ) → at < length marks → get_or marks at 0 ≡ 0 → unmarked (set marks at (mark + 1)) < unmarked marks
fewer_unmarked [] at mark h e = absurd (omega arith)
fewer_unmarked (m ∷ ms) zero mark h e =
    let new : (mark + 1 == 0) ≡ false = ne_eqb (mark + 1) 0 (λ z. omega arith) in
    let old : (m == 0) ≡ true = eq-eqb m 0 e in
    rw (new, old) (omega arith)
fewer_unmarked (m ∷ ms) (suc at) mark h e =
    let rest = fewer_unmarked ms at mark (omega arith) e in
    elim (m == 0) as (λ t. cond t (unmarked (set ms at (mark + 1)) + 1) (unmarked (set ms at (mark + 1))) < cond t (unmarked ms + 1) (unmarked ms)) [ true ↦ omega arith | false ↦ rest ]

-- the link that is read at a place, whatever is read past the end
pub link_is : (links : List (Option ℕ)) (n : ℕ) (d link : Option ℕ) → n < length links → get_or links n d ≡ link → link_at links n ≡ link
link_is links n d link h e = get_or_default links n None d h ∙ e

-- the end of a loop over a way
pub walk_over : (links : List (Option ℕ)) (marks : List ℕ) (start at : ℕ) (mine : Bool) → mine ≡ (get_or marks at 0 == start + 1) → Walks links marks start at → (get_or marks at 0 ≡ 0 → ⊥) →
    MatchBool mine (HasCycle (link_at links)) (AreMarks links marks (start + 1))
walk_over links marks start at true e walk marked = walk_reaches links marks start at walk (eqb-true (get_or marks at 0) (start + 1) (sym e))
walk_over links marks start at false e walk marked = walk_joins links marks start at walk marked (eqb-false (get_or marks at 0) (start + 1) (sym e))

-- all are marked
pub all_end : (links : List (Option ℕ)) (marks : List ℕ) (n : ℕ) → AreMarks links marks (length links) → Ends (link_at links) n
all_end links marks n done = elim (cases_lt n (length links)) [
  | inl here ↦ done.ended n (done.met n here)
  | inr past ↦ last_one n (get_or_past links n None past)
]

-- a link before a way
pub way_after : (link : ℕ → Option ℕ) (n k m : ℕ) → link n ≡ Some k → LinkPath link k m → LinkPath link n m
way_after link n _ _ e (one_link k m f) = then_link n k m (one_link n k e) f
way_after link n _ _ e (then_link k j m way f) = then_link n j m (way_after link n k j e way) f
