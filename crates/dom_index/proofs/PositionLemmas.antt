-- Positions of a forest's nodes, as they are written in the index.
use Rattle.std.proofs.Common.{◌≡◌, ◌<◌, ◌≤◌, ◌+◌, ℕ, zero, suc, List, [], ◌∷◌, false, true≢false, MatchOption, Option, Some, None, inl, inr, refl, sym, ap, ◌∙◌, subst, length, slice_get, arith}
use Rattle.std.specs.Prelude.{◌==◌, ◌||◌}
use Rattle.std.specs.Option.{option_map}
use Rattle.std.proofs.lemmas.Bool.{cases_Bool, cases_lt, eq-eqb, eqb-true, le-leb, lt-leb}
use Rattle.std.proofs.lemmas.Option.{slice_get-get_or, slice_get_past}
use Rattle.std.proofs.Math.Dec.{leb}
use Rattle.dom_links.specs.Forest.{Forest}
use Rattle.dom_links.specs.Lists.{is_member, IsDistinct}
use Rattle.dom_links.specs.Trees.{descendants_in_order}
use Rattle.dom_index.specs.Index.{IsAtOrBelow, IsLastBelow}
use Rattle.dom_index.specs.Orders.{AreSpans, IsOrder, number_at}
use Rattle.dom_index.specs.Preorder.{place_in, position, preorder}
use Rattle.dom_index.proofs.OrderLemmas.{below_within, within_below}
use Rattle.dom_index.proofs.PlaceLemmas.{distinct_from, found_at, in_place, same_or_not}

-- a number has the place at which it stands, where none stands twice
placed_at : (xs : List ℕ) (i n : ℕ) → IsDistinct xs → i < length xs → number_at xs i ≡ n → place_in xs n ≡ Some i
placed_at [] i n once known is = absurd (omega arith)
placed_at (x ∷ xs) zero n once known is = rw (eq-eqb x n is) refl
placed_at (x ∷ xs) (suc i) n once known is = elim (cases_Bool (x == n)) [
  | inl t ↦ absurd (true≢false (sym (in_place xs i (omega arith)) ∙ (ap (λ m. is_member m xs) (is ∙ sym (eqb-true x n t)) ∙ once.0)))
  | inr f ↦ (let rest = placed_at xs i n once.1 (omega arith) is in let more : i + 1 ≡ suc i = omega arith in
      rw (f, rest) (ap (λ j. Some j) more))
]

placed_nowhere : (xs : List ℕ) (n : ℕ) → is_member n xs ≡ false → place_in xs n ≡ None
placed_nowhere [] n none = refl
placed_nowhere (x ∷ xs) n none = elim (cases_Bool (x == n)) [
  | inl t ↦ absurd (true≢false (sym (sym none ∙ ap (λ b. b || is_member n xs) t)))
  | inr f ↦ (let rest : is_member n xs ≡ false = sym (ap (λ b. b || is_member n xs) f) ∙ none in rw (f, placed_nowhere xs n rest) refl)
]

-- a place is where the number stands
stands_at : (xs : List ℕ) (n i : ℕ) → place_in xs n ≡ Some i → (i < length xs) × (number_at xs i ≡ n)
stands_at [] n i e = cc
stands_at (x ∷ xs) n i e = elim (cases_Bool (x == n)) [
  | inl t ↦ (let here : Some zero ≡ Some i = rw t at e in let same : i ≡ zero = cc in
      subst (λ (j : ℕ). (j < suc (length xs)) × (number_at (x ∷ xs) j ≡ n)) (sym same) (omega arith, eqb-true x n t))
  | inr f ↦ there (place_in xs n) refl (rw f at e) (λ j is. stands_at xs n j is)
]
  where
    there : (o : Option ℕ) → place_in xs n ≡ o → option_map (λ j. j + 1) (place_in xs n) ≡ Some i → ((j : ℕ) → place_in xs n ≡ Some j → (j < length xs) × (number_at xs j ≡ n)) → (i < length (x ∷ xs)) × (number_at (x ∷ xs) i ≡ n)
    there None is e next = (let none : None ≡ Some i = sym (ap (option_map (λ j. j + 1)) is) ∙ e in cc)
    there (Some j) is e next =
        let some : Some (j + 1) ≡ Some i = sym (ap (option_map (λ j. j + 1)) is) ∙ e in
        let more : j + 1 ≡ i = cc in
        let same : i ≡ suc j = omega arith in
        let rest = next j is in
        let less = rest.0 in
        subst (λ (k : ℕ). (k < suc (length xs)) × (number_at (x ∷ xs) k ≡ n)) (sym same) (omega arith, rest.1)

module _ (forest : Forest) (order places : List ℕ) (good : IsOrder forest order places) (is : order ≡ preorder forest) where
  order_once : IsDistinct order
  order_once = distinct_from order (λ i j a b e.
      let long = good.long in
      sym (good.placed i (omega arith)) ∙ (ap (number_at places) e ∙ good.placed j (omega arith)))

  position_some : (n i : ℕ) → i < length forest.content → number_at order i ≡ n → position forest n ≡ Some i
  position_some n i known at = ap (λ ns. place_in ns n) (sym is) ∙ placed_at order i n order_once (let long = good.long in omega arith) at

  position_is : (n i : ℕ) → position forest n ≡ Some i → (i < length forest.content) × (number_at order i ≡ n)
  position_is n i e =
      let at = stands_at order n i (ap (λ ns. place_in ns n) is ∙ e) in
      let less = at.0 in let long = good.long in
      (omega arith, at.1)

  pub position_decided : (n : ℕ) → slice_get places n ≡ position forest n
  position_decided n = elim (cases_lt n (length forest.content)) [
    | inl known ↦ slice_get-get_or places n 0 (let long = good.places_long in omega arith) ∙ sym (position_some n (number_at places n) (good.inside n known) (good.ordered n known))
    | inr past ↦ slice_get_past places n (let long = good.places_long in omega arith) ∙ (sym (placed_nowhere order n (absent past)) ∙ ap (λ ns. place_in ns n) is)
  ]
    where
      absent : length forest.content ≤ n → is_member n order ≡ false
      absent past = elim (cases_Bool (is_member n order)) [
        | inl t ↦ (let p = found_at n order t in let less = p.1 in let long = good.long in
            let inside : n < length forest.content = subst (λ (j : ℕ). j < length forest.content) p.2 (good.known p.0 (omega arith)) in absurd (omega arith))
        | inr f ↦ f
      ]

  module _ (subtree_ends : List ℕ) (spans : AreSpans forest order places subtree_ends) where
    last_is : (n : ℕ) → n < length forest.content → IsLastBelow forest n (number_at subtree_ends n)
    last_is n known = record {
      reached = (number_at order (number_at subtree_ends n), at_or_below, position_some (number_at order (number_at subtree_ends n)) (number_at subtree_ends n) (spans.fits n known) refl);
      greatest = λ m other among at. (let p = position_is m other at in
          let place : number_at places m ≡ other = ap (number_at places) (sym p.1) ∙ good.placed other p.0 in
          let upto = most m among in omega arith);
    }
      where
        at_or_below : IsAtOrBelow forest n (number_at order (number_at subtree_ends n))
        at_or_below = elim (same_or_not (number_at places n) (number_at subtree_ends n)) [
          | inl same ↦ inl (ap (number_at order) (sym same) ∙ good.ordered n known)
          | inr other ↦ (let last = spans.last n known in
              let place = good.placed (number_at subtree_ends n) (spans.fits n known) in
              inr (within_below forest order places subtree_ends good spans n (number_at order (number_at subtree_ends n)) known (good.known (number_at subtree_ends n) (spans.fits n known)) (omega arith) (omega arith)))
        ]

        most : (m : ℕ) → IsAtOrBelow forest n m → number_at places m ≤ number_at subtree_ends n
        most m (inl e) = let last = spans.last n known in let same = ap (number_at places) e in omega arith
        most m (inr s) = (below_within forest order places subtree_ends good spans n m known s).2

    pub last_decided : (n : ℕ) (o : Option ℕ) → o ≡ slice_get subtree_ends n → MatchOption o (length forest.content ≤ n) (λ last. IsLastBelow forest n last)
    last_decided n o e = elim (cases_lt n (length forest.content)) [
      | inl known ↦ (let some = e ∙ slice_get-get_or subtree_ends n 0 (let long = spans.long in omega arith) in
          subst (λ p. MatchOption p (length forest.content ≤ n) (λ last. IsLastBelow forest n last)) (sym some) (last_is n known))
      | inr past ↦ (let none = e ∙ slice_get_past subtree_ends n (let long = spans.long in omega arith) in
          subst (λ p. MatchOption p (length forest.content ≤ n) (λ last. IsLastBelow forest n last)) (sym none) past)
    ]

    module _ (x y : ℕ) (x_known : x < length forest.content) where
      pub not_behind : number_at places y ≤ number_at places x → false ≡ is_member y (descendants_in_order forest x)
      not_behind le = elim (cases_Bool (is_member y (descendants_in_order forest x))) [
        | inl t ↦ (let h = below_within forest order places subtree_ends good spans x y x_known t in let less = h.1 in absurd (omega arith))
        | inr f ↦ sym f
      ]

      pub behind_decides : y < length forest.content → number_at places x < number_at places y → leb (number_at places y) (number_at subtree_ends x) ≡ is_member y (descendants_in_order forest x)
      behind_decides y_known less = elim (cases_lt (number_at subtree_ends x) (number_at places y)) [
        | inl past ↦ (elim (cases_Bool (is_member y (descendants_in_order forest x))) [
          | inl t ↦ (let h = below_within forest order places subtree_ends good spans x y x_known t in let upto = h.2 in absurd (omega arith))
          | inr f ↦ lt-leb (number_at places y) (number_at subtree_ends x) past ∙ sym f
        ])
        | inr within ↦ le-leb (number_at places y) (number_at subtree_ends x) within ∙ sym (within_below forest order places subtree_ends good spans x y x_known y_known less within)
      ]
