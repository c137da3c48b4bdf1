-- The best of a list.
use Rattle.std.proofs.Common.{ℕ, ◌≡◌, ◌⊎◌, ◌+◌, ◌<◌, ℤ, ◌<ℤ◌, ◌≤ℤ◌, Bool, true, false, true≢false, cond, List, [], ◌∷◌, ◌++◌, Option, Some, None, inl, inr, refl, sym, ap, ◌∙◌, subst, arith, length, take, get_or, append_assoc}
use Rattle.std.specs.Prelude.{int_lt, ◌&&◌, ◌==◌}
use Rattle.std.proofs.lemmas.Bool.{cases_Bool, eqb-true}
use Rattle.std.proofs.lemmas.Int.{ints}
use Rattle.std.proofs.lemmas.List.{take_more}
use Rattle.dom_links.specs.Lists.{is_member}
use Rattle.dom_links.proofs.forest.Neighbours.{is_member-append}
use Rattle.dom_article.specs.Best.{IsBestOf, IsFirstGreatest, beats}

lower : (a b : ℤ) → int_lt a b ≡ true → a <ℤ b
lower a b is = grind (arith, ints)

not_lower : (a b : ℤ) → int_lt a b ≡ false → b ≤ℤ a
not_lower a b is = grind (arith, ints)

lower_than : (a b c : ℤ) → a <ℤ b → b <ℤ c → a <ℤ c
lower_than a b c one two = omega (arith, ints)

at_most_than : (a b c : ℤ) → a ≤ℤ b → b <ℤ c → a <ℤ c
at_most_than a b c one two = omega (arith, ints)

both_so : (a b : Bool) → (a && b) ≡ true → (a ≡ true) × (b ≡ true)
both_so true b e = (refl, e)
both_so false b e = absurd (true≢false (sym e))

pub in_either : (xs ys : List ℕ) (m : ℕ) → is_member m (xs ++ ys) ≡ true → (is_member m xs ≡ true) ⊎ (is_member m ys ≡ true)
in_either xs ys m s = elim (cases_Bool (is_member m xs)) [ inl t ↦ inl t | inr f ↦ inr (let both = sym (is_member-append xs ys m) ∙ s in rw f at both) ]

pub first_or_later : (n m : ℕ) (ns : List ℕ) → is_member m (n ∷ ns) ≡ true → (n ≡ m) ⊎ (is_member m ns ≡ true)
first_or_later n m ns s = elim (cases_Bool (n == m)) [ inl t ↦ inl (eqb-true n m t) | inr f ↦ inr (rw f at s) ]

only : (n m : ℕ) → is_member m (n ∷ []) ≡ true → n ≡ m
only n m s = elim (first_or_later n m [] s) [ inl e ↦ e | inr empty ↦ absurd (true≢false (sym empty)) ]

-- all that pass have smaller scores than a node that beats the first greatest
beaten : (test : ℕ → Bool) (score : ℕ → ℤ) (ns : List ℕ) (b n m : ℕ) → IsFirstGreatest test score ns b → score b <ℤ score n → is_member m ns ≡ true → test m ≡ true → score m <ℤ score n
beaten test score ns b n m best more s passes = elim (in_either best.before (b ∷ best.later) m (sym (ap (is_member m) best.split) ∙ s)) [
  | inl early ↦ lower_than (score m) (score b) (score n) (best.greater m early passes) more
  | inr late ↦ elim (first_or_later b m best.later late) [
    | inl same ↦ subst (λ (k : ℕ). score k <ℤ score n) same more
    | inr after ↦ at_most_than (score m) (score b) (score n) (best.as_great m after passes) more
  ]
]

new_best : (test : ℕ → Bool) (score : ℕ → ℤ) (ns : List ℕ) (n : ℕ) → test n ≡ true → ((m : ℕ) → is_member m ns ≡ true → test m ≡ true → score m <ℤ score n) → IsFirstGreatest test score (ns ++ n ∷ []) n
new_best test score ns n passes all = record {
  passes = passes;
  before = ns;
  later = [];
  split = refl;
  greater = all;
  as_great = λ m s _. absurd (true≢false (sym s));
}

old_best : (test : ℕ → Bool) (score : ℕ → ℤ) (ns : List ℕ) (b n : ℕ) → IsFirstGreatest test score ns b → (test n ≡ true → score n ≤ℤ score b) → IsFirstGreatest test score (ns ++ n ∷ []) b
old_best test score ns b n best less = record {
  passes = best.passes;
  before = best.before;
  later = best.later ++ n ∷ [];
  split = ap (λ ms. ms ++ n ∷ []) best.split ∙ append_assoc best.before (b ∷ best.later) (n ∷ []);
  greater = best.greater;
  as_great = λ m s passes. elim (in_either best.later (n ∷ []) m s) [
    | inl old ↦ best.as_great m old passes
    | inr new ↦ (let same = only n m new in subst (λ (k : ℕ). score k ≤ℤ score b) same (less (subst (λ (k : ℕ). test k ≡ true) (sym same) passes)))
  ];
}

-- One node more.
pub best_more : (test : ℕ → Bool) (score : ℕ → ℤ) (ns : List ℕ) (best : Option ℕ) (n : ℕ) → IsBestOf test score ns best → IsBestOf test score (ns ++ n ∷ []) (cond (beats test score best n) (Some n) best)
best_more test score ns None n none = elim (cases_Bool (test n)) [
  | inl t ↦ rw t (new_best test score ns n t (λ m s passes. absurd (true≢false (sym passes ∙ none m s))))
  | inr f ↦ rw f (λ m s. elim (in_either ns (n ∷ []) m s) [ inl old ↦ none m old | inr new ↦ subst (λ (k : ℕ). test k ≡ false) (only n m new) f ])
]
best_more test score ns (Some b) n best = elim (cases_Bool (test n)) [
  | inr f ↦ rw f (old_best test score ns b n best (λ passes. absurd (true≢false (sym passes ∙ f))))
  | inl t ↦ elim (cases_Bool (int_lt (score b) (score n))) [
    | inl more ↦ rw (t, more) (new_best test score ns n t (λ m s passes. beaten test score ns b n m best (lower (score b) (score n) more) s passes))
    | inr not ↦ rw (t, not) (old_best test score ns b n best (λ passes. not_lower (score b) (score n) not))
  ]
]

-- The next node of a list.
pub best_next : (test : ℕ → Bool) (score : ℕ → ℤ) (ns : List ℕ) (i n : ℕ) (best : Option ℕ) → i < length ns → n ≡ get_or ns i n → IsBestOf test score (take i ns) best →
    IsBestOf test score (take (i + 1) ns) (cond (beats test score best n) (Some n) best)
best_next test score ns i n best inside is so_far =
    let e : take (i + 1) ns ≡ take i ns ++ n ∷ [] = take_more ns i n inside ∙ ap (λ (k : ℕ). take i ns ++ k ∷ []) (sym is) in
    subst (λ (ms : List ℕ). IsBestOf test score ms (cond (beats test score best n) (Some n) best)) (sym e) (best_more test score (take i ns) best n so_far)
