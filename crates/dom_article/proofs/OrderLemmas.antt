-- In document order a node comes after its parent.
use Rattle.std.proofs.Common.{ℕ, ◌≡◌, ◌<◌, true, false, true≢false, List, [], ◌∷◌, ◌++◌, Some, inl, inr, refl, sym, ap, ◌∙◌, length}
use Rattle.std.specs.Prelude.{◌==◌, ◌||◌}
use Rattle.std.proofs.lemmas.Bool.{cases_Bool, eq-eqb, eqb-true, or_right}
use Rattle.dom_links.specs.Forest.{Forest, parent}
use Rattle.dom_links.specs.Laws.{AreLines}
use Rattle.dom_links.specs.Lists.{is_member, IsDistinct}
use Rattle.dom_links.specs.Sound.{IsForest}
use Rattle.dom_links.specs.Trees.{ancestors, trees, walk, descendants_in_order}
use Rattle.dom_links.specs.Walk.{later, rest_after}
use Rattle.dom_links.proofs.forest.Depth.{here_stands}
use Rattle.dom_links.proofs.forest.Neighbours.{is_member-append}
use Rattle.dom_links.proofs.walks.Apart.{walk-inside, walk-once}
use Rattle.dom_links.proofs.walks.Later.{rest_stands}
use Rattle.dom_links.proofs.walks.Suffixes.{behind, ends_at}

-- of two nodes of a list one doesn't come after the other and before it
crossed : (ns : List ℕ) (n p : ℕ) → IsDistinct ns → is_member n (rest_after ns p) ≡ true → is_member p (rest_after ns n) ≡ true → ⊥
crossed [] n p once a b = true≢false (sym a)
crossed (m ∷ ms) n p once a b = elim (cases_Bool (m == n)) [
  | inl at_n ↦ elim (cases_Bool (m == p)) [
    | inl at_p ↦ true≢false (sym (rw at_n at b) ∙ (ap (λ (k : ℕ). is_member k ms) (sym (eqb-true m p at_p)) ∙ once.0))
    | inr not_p ↦ true≢false (sym (rest_stands ms p n (rw not_p at a)) ∙ (ap (λ (k : ℕ). is_member k ms) (sym (eqb-true m n at_n)) ∙ once.0))
  ]
  | inr not_n ↦ elim (cases_Bool (m == p)) [
    | inl at_p ↦ true≢false (sym (rest_stands ms n p (rw not_n at b)) ∙ (ap (λ (k : ℕ). is_member k ms) (sym (eqb-true m p at_p)) ∙ once.0))
    | inr not_p ↦ crossed ms n p once.1 (rw not_p at a) (rw not_n at b)
  ]
]

-- what stands after p in a list comes after it
comes_after : (front rest ns : List ℕ) (p n : ℕ) → IsDistinct ns → ns ≡ front ++ (p ∷ rest) → is_member n rest ≡ true → is_member n (rest_after ns p) ≡ true
comes_after [] rest ns p n once is there = ap (λ ms. is_member n (rest_after ms p)) is ∙ rw (eq-eqb p p refl) there
comes_after (m ∷ front) rest [] p n once is there = absurd (cc)
comes_after (m ∷ front) rest (k ∷ ks) p n once is there =
    let tail : ks ≡ front ++ (p ∷ rest) = cc in
    elim (cases_Bool (k == p)) [
      | inl at_p ↦ absurd (true≢false (sym (ap (is_member k) tail ∙ (is_member-append front (p ∷ rest) k ∙ or_right (is_member k front) _ (ap (λ b. b || is_member k rest) (eq-eqb p k (sym (eqb-true k p at_p)))))) ∙ once.0))
      | inr not_p ↦ rw not_p (comes_after front rest ks p n once.1 tail there)
    ]

-- a node with the parent p comes after p in the walk
pub after_parent : (forest : Forest) (start n p : ℕ) → IsForest forest → AreLines forest → parent forest n ≡ Some p → is_member p (descendants_in_order forest start) ≡ true →
    is_member n (rest_after (descendants_in_order forest start) p) ≡ true
after_parent forest start n p good lines up there =
    let known : p < length forest.content = walk-inside forest start p good there in
    let end = ends_at forest start p (ancestors forest p) good known refl (sym (lines.below_above start p) ∙ there) in
    let below : is_member n (descendants_in_order forest p) ≡ true = lines.below_above p n ∙ (ap (is_member p) (lines.up n p up) ∙ here_stands p (ancestors forest p)) in
    let others = walk (trees forest (later forest false p)) in
    let row : walk (trees forest (p ∷ later forest false p)) ≡ p ∷ (descendants_in_order forest p ++ others) = ap walk (lines.row_trees p known) in
    let is : descendants_in_order forest start ≡ end.front ++ (p ∷ ((descendants_in_order forest p ++ others) ++ behind forest start p)) = end.is ∙ ap (λ ns. end.front ++ (ns ++ behind forest start p)) row in
    comes_after end.front _ (descendants_in_order forest start) p n (walk-once forest start good) is
    (is_member-append (descendants_in_order forest p ++ others) (behind forest start p) n ∙ ap (λ b. b || is_member n (behind forest start p)) (is_member-append (descendants_in_order forest p) others n ∙ ap (λ b. b || is_member n others) below))

-- what comes after n where it stands in a walk
rest_is : (front rest ns : List ℕ) (n p : ℕ) → IsDistinct ns → ns ≡ front ++ (n ∷ rest) → is_member p rest ≡ true → is_member p (rest_after ns n) ≡ true
rest_is front rest ns n p once is there = comes_after front rest ns n p once is there

-- The parent of the next node of a walk was visited before it.
pub parent_visited : (forest : Forest) (start n p : ℕ) (done left : List ℕ) → IsForest forest → AreLines forest → descendants_in_order forest start ≡ done ++ (n ∷ left) → parent forest n ≡ Some p →
    is_member p (start ∷ done) ≡ true
parent_visited forest start n p done left good lines split up = elim (cases_Bool (start == p)) [
  | inl at ↦ rw at refl
  | inr not ↦ (
      let ns = descendants_in_order forest start in
      let here : is_member n ns ≡ true = ap (is_member n) split ∙ (is_member-append done (n ∷ left) n ∙ or_right (is_member n done) _ (here_stands n left)) in
      let above : is_member start (p ∷ ancestors forest p) ≡ true = ap (is_member start) (sym (lines.up n p up)) ∙ (sym (lines.below_above start n) ∙ here) in
      let there : is_member p ns ≡ true = lines.below_above start p ∙ later_of p start (ancestors forest p) (λ e. true≢false (sym (eq-eqb start p (sym e)) ∙ not)) above in
      let after : is_member n (rest_after ns p) ≡ true = after_parent forest start n p good lines up there in
      elim (cases_Bool (is_member p done)) [
        | inl s ↦ rw not s
        | inr f ↦ (let among : is_member p (n ∷ left) ≡ true = is_member-left done (n ∷ left) p f (sym (ap (is_member p) split) ∙ there) in
            elim (cases_Bool (n == p)) [
              | inl same ↦ absurd (itself ns p (walk-once forest start good) (ap (λ (k : ℕ). is_member k (rest_after ns p)) (sym (eqb-true n p same)) ∙ after))
              | inr other ↦ absurd (crossed ns n p (walk-once forest start good) after (rest_is done left ns n p (walk-once forest start good) split (rw other at among)))
            ])
      ])
]
  where
    later_of : (m r : ℕ) (ms : List ℕ) → (m ≡ r → ⊥) → is_member r (m ∷ ms) ≡ true → is_member r ms ≡ true
    later_of m r ms ne s = elim (cases_Bool (m == r)) [ inl t ↦ absurd (ne (eqb-true m r t)) | inr f ↦ rw f at s ]

    is_member-left : (xs ys : List ℕ) (m : ℕ) → is_member m xs ≡ false → is_member m (xs ++ ys) ≡ true → is_member m ys ≡ true
    is_member-left xs ys m f s = let both = sym (is_member-append xs ys m) ∙ s in rw f at both

    itself : (ns : List ℕ) (m : ℕ) → IsDistinct ns → is_member m (rest_after ns m) ≡ true → ⊥
    itself ns m once s = crossed ns m m once s s
