-- Descendants of nodes in a set: all up to the furthest subtree end.
use Rattle.std.proofs.Common.{◌≡◌, ◌≢◌, ◌<◌, ◌+◌, ◌∙◌, ℕ, List, Bool, true, false, true≢false, inl, inr, sym, ap, subst, length, set, arith}
use Rattle.std.specs.Prelude.{nat_lt}
use Rattle.std.proofs.lemmas.Bool.{cases_lt, ltb-false, ltb-true}
use Rattle.std.proofs.lemmas.List.{get_or_past}
use Rattle.dom_links.specs.Forest.{Forest}
use Rattle.dom_links.specs.Laws.{AreLines}
use Rattle.dom_links.specs.Lists.{is_member}
use Rattle.dom_links.specs.Trees.{descendants_in_order}
use Rattle.dom_selectors.specs.declared.syntax.Combinator.TheVariants.{Descendant}
use Rattle.dom_selectors.specs.Spelling.{Decides}
use Rattle.dom_select.specs.Meaning.{CombinatorHolds}
use Rattle.dom_index.specs.Orders.{AreSpans, IsEnd, IsOrder, number_at}
use Rattle.dom_index.specs.NodeSets.{HasLeftOperand, in_set}
use Rattle.dom_index.proofs.OrderLemmas.{below_within, within_below}
use Rattle.dom_index.proofs.PlaceLemmas.{same_or_not}
use Rattle.dom_index.proofs.FillLemmas.{written_elsewhere, written_here}

module _ (forest : Forest) (lines : AreLines forest) (order places subtree_ends : List ℕ) (good : IsOrder forest order places) (spans : AreSpans forest order places subtree_ends) (table : List Bool) where
  stands_below : (v n : ℕ) → is_member n (descendants_in_order forest v) ≡ true → CombinatorHolds forest Descendant v n
  unfolding CombinatorHolds
  stands_below v n s = sym (lines.below_above v n) ∙ s

  below_stands : (v n : ℕ) → CombinatorHolds forest Descendant v n → is_member n (descendants_in_order forest v) ≡ true
  unfolding CombinatorHolds
  below_stands v n s = lines.below_above v n ∙ s

  -- the node at the next position is a descendant of one in the set where the end lies after it
  decided_by_end : (n end : ℕ) → length table ≡ length forest.content → n < length forest.content → IsEnd forest places subtree_ends table (number_at places n) end → (b : Bool) → b ≡ nat_lt (number_at places n) end → Decides b (HasLeftOperand forest Descendant table n)
  decided_by_end n end long known e true is =
      let less = ltb-true (number_at places n) end (sym is) in
      let r = e.reached (omega arith) in
      let inside = r.1 in
      let before = r.3 in
      let last = r.4 in
      (r.0, stands_below r.0 n (within_below forest order places subtree_ends good spans r.0 n r.1 known before (omega arith)), r.2)
  decided_by_end n end long known e false is = λ reached.
      let v_known : reached.0 < length forest.content = inside reached.0 reached.2 in
      let within = below_within forest order places subtree_ends good spans reached.0 n v_known (below_stands reached.0 n reached.1) in
      let before = within.1 in
      let upto = within.2 in
      let less = e.all reached.0 v_known reached.2 before in
      let past = ltb-false (number_at places n) end (sym is) in
      omega arith
    where
      inside : (v : ℕ) → in_set table v ≡ true → v < length forest.content
      inside v answer = elim (cases_lt v (length table)) [
        | inl less ↦ omega arith
        | inr past ↦ absurd (true≢false (sym answer ∙ get_or_past table v false past))
      ]

  -- one more node
  decided_more : (flags : List Bool) (n : ℕ) (flag : Bool) → n < length forest.content → length flags ≡ length forest.content → Decides flag (HasLeftOperand forest Descendant table n) →
      ((m : ℕ) → m < length forest.content → number_at places m < number_at places n → Decides (in_set flags m) (HasLeftOperand forest Descendant table m)) →
      (m : ℕ) → m < length forest.content → number_at places m < number_at places n + 1 → Decides (in_set (set flags n flag) m) (HasLeftOperand forest Descendant table m)
  decided_more flags n flag known long here answer m inside before = elim (same_or_not m n) [
    | inl same ↦ subst (λ j. Decides (in_set (set flags n flag) j) (HasLeftOperand forest Descendant table j)) (sym same)
        (subst (λ c. Decides c (HasLeftOperand forest Descendant table n)) (sym (written_here flags n flag (subst (λ (j : ℕ). n < j) (sym long) known))) here)
    | inr other ↦ subst (λ c. Decides c (HasLeftOperand forest Descendant table m)) (sym (written_elsewhere flags n m flag other)) (answer m inside (elsewhere other))
  ]
    where
      elsewhere : m ≢ n → number_at places m < number_at places n
      elsewhere other = elim (same_or_not (number_at places m) (number_at places n)) [
        | inl e ↦ absurd (other (sym (good.ordered m inside) ∙ (ap (number_at order) e ∙ good.ordered n known)))
        | inr ne ↦ omega arith
      ]

  -- the node at position i, with the flag that the end says
  pub decided_next : (flags : List Bool) (n i end : ℕ) → length table ≡ length forest.content → length flags ≡ length forest.content → n < length forest.content → number_at places n ≡ i → IsEnd forest places subtree_ends table i end →
      ((m : ℕ) → m < length forest.content → number_at places m < i → Decides (in_set flags m) (HasLeftOperand forest Descendant table m)) →
      (m : ℕ) → m < length forest.content → number_at places m < i + 1 → Decides (in_set (set flags n (nat_lt i end)) m) (HasLeftOperand forest Descendant table m)
  decided_next flags n i end table_long long known at ends answer =
      let flag = decided_by_end n end table_long known (subst (λ j. IsEnd forest places subtree_ends table j end) (sym at) ends) (nat_lt i end) (ap (λ j. nat_lt j end) (sym at)) in
      let before = subst (λ (j : ℕ). (m : ℕ) → m < length forest.content → number_at places m < j → Decides (in_set flags m) (HasLeftOperand forest Descendant table m)) (sym at) answer in
      subst (λ (j : ℕ). (m : ℕ) → m < length forest.content → number_at places m < j + 1 → Decides (in_set (set flags n (nat_lt i end)) m) (HasLeftOperand forest Descendant table m)) at
      (decided_more flags n (nat_lt i end) known long flag before)
