-- What the search of a round starts from.
use Rattle.std.proofs.Common.{ℕ, ◌≡◌, ◌<◌, ℤ, ◌<ℤ◌, ◌≤ℤ◌, Bool, true, true≢false, List, [], ◌∷◌, ◌++◌, Some, inl, inr, refl, sym, ap, ◌∙◌, subst, arith}
use Rattle.std.specs.Prelude.{◌==◌}
use Rattle.std.proofs.lemmas.Bool.{cases_Bool, eq-eqb}
use Rattle.std.proofs.lemmas.Int.{ints}
use Rattle.dom_links.specs.Lists.{is_member}
use Rattle.dom_article.specs.Best.{IsFirstGreatest, NonePasses, sums_at}
use Rattle.dom_article.specs.Chosen.{IsLargest, is_main_at, size_at}
use Rattle.dom_article.specs.declared.page.Page.{Page}
use Rattle.dom_article.specs.declared.rounds.Round.{Round}
use Rattle.dom_article.proofs.BestLemmas.{first_or_later, in_either}

in_middle : (xs ys : List ℕ) (n : ℕ) → is_member n (xs ++ n ∷ ys) ≡ true
in_middle [] ys n = rw (eq-eqb n n refl) refl
in_middle (x ∷ xs) ys n = elim (cases_Bool (x == n)) [ inl t ↦ rw t refl | inr f ↦ rw f (in_middle xs ys n) ]

stands : (test : ℕ → Bool) (score : ℕ → ℤ) (ns : List ℕ) (n : ℕ) → IsFirstGreatest test score ns n → is_member n ns ≡ true
stands test score ns n best = ap (is_member n) best.split ∙ in_middle best.before best.later n

lower_is_most : (a b : ℤ) → a <ℤ b → a ≤ℤ b
lower_is_most a b less = omega (arith, ints)

no_more : (a : ℤ) → a ≤ℤ a
no_more a = omega (arith, ints)

-- no node that passes has a greater score
at_most : (test : ℕ → Bool) (score : ℕ → ℤ) (ns : List ℕ) (n m : ℕ) → IsFirstGreatest test score ns n → is_member m ns ≡ true → test m ≡ true → score m ≤ℤ score n
at_most test score ns n m best s passes = elim (in_either best.before (n ∷ best.later) m (sym (ap (is_member m) best.split) ∙ s)) [
  | inl early ↦ lower_is_most (score m) (score n) (best.greater m early passes)
  | inr late ↦ elim (first_or_later n m best.later late) [
    | inl same ↦ subst (λ (k : ℕ). score k ≤ℤ score n) same (no_more (score n))
    | inr after ↦ best.as_great m after passes
  ]
]

-- where no element says that it is the article, none is the largest
pub no_main : (page : Page) (round : Round) → NonePasses (is_main_at page round) page.order.items → (n : ℕ) → IsLargest page round n → ⊥
no_main page round none n is =
    let best : IsFirstGreatest (is_main_at page round) (size_at round) page.order.items n = is.largest in
    true≢false (sym best.passes ∙ none n (stands (is_main_at page round) (size_at round) page.order.items n best))

-- where the largest one is small, none is large
pub small_main : (page : Page) (round : Round) (main : ℕ) → IsFirstGreatest (is_main_at page round) (size_at round) page.order.items main → (sums_at round.sums.items main).size < 400 → (n : ℕ) → IsLargest page round n → ⊥
small_main page round main most small n is =
    let best : IsFirstGreatest (is_main_at page round) (size_at round) page.order.items n = is.largest in
    let large = is.large in
    let less = at_most (is_main_at page round) (size_at round) page.order.items main n most (stands (is_main_at page round) (size_at round) page.order.items n best) best.passes in
    omega (arith, ints)
