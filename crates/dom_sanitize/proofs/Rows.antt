-- The rows that are still to be looked at.
use Rattle.std.proofs.Common.{ℕ, ◌≡◌, ◌<◌, ◌≤◌, ◌+◌, false, List, [], ◌∷◌, ◌++◌, Option, Some, None, refl, sym, ap, ◌∙◌, subst, length, arith}
use Rattle.dom_links.specs.Forest.{Forest, children_of, siblings}
use Rattle.dom_links.specs.Laws.{AreLines, AreTrees}
use Rattle.dom_links.specs.Lists.{after, first}
use Rattle.dom_links.specs.Trees.{contents_list, Tree, trees, walk}
use Rattle.dom_links.specs.Walk.{IsWithin, later, row_on}
use Rattle.dom_sanitize.specs.Clean.{Lists, fate_at}
use Rattle.dom_sanitize.specs.Plan.{AreRows, LooksAt, home_of, planned, row_plan, rows_plan, rows_weight, steps_under, with_below, with_row}
use Rattle.dom_sanitize.specs.declared.plan.Fate.{Fate}
use Rattle.dom_sanitize.specs.declared.plan.Fate.TheVariants.{Stay, Unwrap, Vanish}
use Rattle.dom_sanitize.specs.declared.plan.Row.{Row}
use Rattle.dom_sanitize.specs.declared.plan.Step.{Step}

append-steps : (ss ts us : List Step) → (ss ++ ts) ++ us ≡ ss ++ (ts ++ us)
append-steps [] ts us = refl
append-steps (s ∷ ss) ts us = ap (λ vs. s ∷ vs) (append-steps ss ts us)

nothing-after : (ss : List Step) → ss ++ [] ≡ ss
nothing-after [] = refl
nothing-after (s ∷ ss) = ap (λ ts. s ∷ ts) (nothing-after ss)

length-steps : (ms ns : List ℕ) → length (ms ++ ns) ≡ length ms + length ns
length-steps [] ns = omega arith
length-steps (m ∷ ms) ns = omega (arith, length-steps ms ns)

module _ (allow : Lists) (forest : Forest) (are : AreTrees forest) (lines : AreLines forest) where
  plan-with_row : (first : Option ℕ) (home : ℕ) (rows : List Row) → rows_plan allow forest (with_row first home rows) ≡ row_plan allow forest first home ++ rows_plan allow forest rows
  plan-with_row None home rows = ap (λ ts. planned allow forest home ts ++ rows_plan allow forest rows) (sym are.no_trees)
  plan-with_row (Some n) home rows = refl

  abbrev weight_of : Option ℕ → ℕ
  weight_of first = length (walk (trees forest (row_on forest false first)))

  weight-with_row : (first : Option ℕ) (home : ℕ) (rows : List Row) → rows_weight forest (with_row first home rows) ≡ weight_of first + rows_weight forest rows
  weight-with_row None home rows = omega (arith, ap (λ ts. length (walk ts)) are.no_trees)
  weight-with_row (Some n) home rows = refl

  within-with_row : (first : Option ℕ) (home : ℕ) (rows : List Row) → IsWithin forest first → AreRows forest rows → AreRows forest (with_row first home rows)
  within-with_row None home rows known within = within
  within-with_row (Some n) home rows known within = (known, within)

  within-with_below : (f : Fate) (below : Option ℕ) (row : Row) (rows : List Row) → IsWithin forest below → AreRows forest rows → AreRows forest (with_below f below row rows)
  within-with_below Stay below row rows known within = within-with_row below row.first rows known within
  within-with_below Unwrap below row rows known within = within-with_row below row.home rows known within
  within-with_below Vanish below row rows known within = within

  abbrev next_of : ℕ → Option ℕ
  next_of n = after (siblings forest n) n

  abbrev first_of : ℕ → Option ℕ
  first_of n = first (children_of forest n)

  -- the trees of a row, by its first node
  row_is : (n : ℕ) → n < length forest.content → trees forest (row_on forest false (Some n)) ≡ Tree n (trees forest (contents_list forest n)) (trees forest (row_on forest false (first_of n))) (trees forest (row_on forest false (next_of n)))
  row_is n known = lines.row_trees n known ∙ ap (λ ns. Tree n (trees forest (contents_list forest n)) (trees forest ns) (trees forest (later forest false n))) (lines.below false n)
      ∙ ap (λ ns. Tree n (trees forest (contents_list forest n)) (trees forest (row_on forest false (first_of n))) (trees forest ns)) (lines.beside false n)

  plan-with_below : (f : Fate) (below : Option ℕ) (row : Row) (rows : List Row) → rows_plan allow forest (with_below f below row rows) ≡ steps_under f (row_plan allow forest below row.first) (row_plan allow forest below row.home) ++ rows_plan allow forest rows
  plan-with_below Stay below row rows = plan-with_row below row.first rows
  plan-with_below Unwrap below row rows = plan-with_row below row.home rows
  plan-with_below Vanish below row rows = refl

  weight-with_below : (f : Fate) (below : Option ℕ) (row : Row) (rows : List Row) → rows_weight forest (with_below f below row rows) ≤ weight_of below + rows_weight forest rows
  weight-with_below Stay below row rows = omega (arith, weight-with_row below row.first rows)
  weight-with_below Unwrap below row rows = omega (arith, weight-with_row below row.home rows)
  weight-with_below Vanish below row rows = omega arith

  -- a node is looked at
  pub looked : (f : Fate) (row : Row) (old new : List Row) (before after_it : List Step) (next below : Option ℕ) → row.first < length forest.content → AreRows forest old → f ≡ fate_at allow forest row.first → next ≡ next_of row.first → below ≡ first_of row.first →
      new ≡ with_below f below row (with_row next row.home old) → after_it ≡ before ++ record { id = row.first; home = home_of f row.home } ∷ [] → LooksAt allow forest row old new before after_it
  looked f row old new before after_it next below known within fate next_is below_is rows_are steps_are =
      let n = row.first in
      let inner = row_plan allow forest (first_of n) n in
      let other = row_plan allow forest (first_of n) row.home in
      let outer = row_plan allow forest (next_of n) row.home in
      let step : Step = record { id = n; home = home_of (fate_at allow forest n) row.home } in
      let kept : new ≡ with_below (fate_at allow forest n) (first_of n) row (with_row (next_of n) row.home old) =
      rows_are ∙ ap (λ g. with_below g below row (with_row next row.home old)) fate ∙ ap (λ o. with_below (fate_at allow forest n) o row (with_row next row.home old)) below_is ∙ ap (λ o. with_below (fate_at allow forest n) (first_of n) row (with_row o row.home old)) next_is in
      let done : after_it ≡ before ++ step ∷ [] = steps_are ∙ ap (λ g. before ++ record { id = n; home = home_of g row.home } ∷ []) fate in
      let left : rows_plan allow forest new ≡ steps_under (fate_at allow forest n) inner other ++ (outer ++ rows_plan allow forest old) =
      ap (rows_plan allow forest) kept ∙ plan-with_below (fate_at allow forest n) (first_of n) row (with_row (next_of n) row.home old) ∙ ap (λ ss. steps_under (fate_at allow forest n) inner other ++ ss) (plan-with_row (next_of n) row.home old) in
      let all : row_plan allow forest (Some n) row.home ≡ step ∷ steps_under (fate_at allow forest n) inner other ++ outer = ap (planned allow forest row.home) (row_is n known) in
      record {
        within = subst (AreRows forest) (sym kept) (within-with_below (fate_at allow forest n) (first_of n) row _ (lines.below_known false n) (within-with_row (next_of n) row.home old (lines.beside_known false n) within));
        whole = ap (λ ss. ss ++ rows_plan allow forest new) done ∙ append-steps before (step ∷ []) (rows_plan allow forest new)
            ∙ ap (λ ss. before ++ step ∷ ss) (left ∙ sym (append-steps (steps_under (fate_at allow forest n) inner other) outer (rows_plan allow forest old)))
            ∙ ap (λ ss. before ++ (ss ++ rows_plan allow forest old)) (sym all);
        fewer = omega (
          arith,
          ap (rows_weight forest) kept,
          weight-with_below (fate_at allow forest n) (first_of n) row (with_row (next_of n) row.home old),
          weight-with_row (next_of n) row.home old,
          ap (λ ts. length (walk ts)) (row_is n known),
          length-steps (walk (trees forest (row_on forest false (first_of n)))) (walk (trees forest (row_on forest false (next_of n)))),
        );
      }

  -- the first row is of the children of the root
  pub rows_start : (first_row : Option ℕ) (root : ℕ) (old rows : List Row) → first_row ≡ first_of root → root ≡ 0 → old ≡ [] → rows ≡ with_row first_row root old → AreRows forest rows × (rows_plan allow forest rows ≡ planned allow forest 0 (trees forest (children_of forest 0)))
  rows_start first_row root old rows is at none rows_are =
      let kept : rows ≡ with_row (first_of 0) 0 [] = rows_are ∙ ap (λ o. with_row o root old) is ∙ ap (λ (r : ℕ). with_row (first_of r) r old) at ∙ ap (with_row (first_of 0) 0) none in (
        subst (AreRows forest) (sym kept) (within-with_row (first_of 0) 0 [] (lines.below_known false 0) tt),
        ap (rows_plan allow forest) kept ∙ plan-with_row (first_of 0) 0 [] ∙ nothing-after (row_plan allow forest (first_of 0) 0) ∙ ap (λ ns. planned allow forest 0 (trees forest ns)) (sym (lines.below false 0)),
      )
