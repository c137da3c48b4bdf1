-- A node stands in the walk below those that stand above it, and after those that stand before it.
use Rattle.std.proofs.Common.{ℕ, zero, suc, ◌≡◌, Bool, true, false, List, [], ◌∷◌, ◌++◌, Some, refl, sym, ap, ◌∙◌, inl, inr, ◌⊎◌, length, reverse, arith, cond}
use Rattle.std.specs.Prelude.{◌==◌, ◌||◌}
use Rattle.std.proofs.lemmas.Bool.{cases_Bool, eqb-true, true≢false, or_right, or_left, or_cases}
use Rattle.dom_links.specs.Lists.{is_member, IsDistinct}
use Rattle.dom_links.specs.Forest.{Forest, children_of, parent, siblings}
use Rattle.dom_links.specs.Sound.{IsForest}
use Rattle.dom_links.specs.Trees.{trees_to, trees, walk, descendants_in_order, ancestors, upward}
use Rattle.dom_links.specs.Walk.{later, rest_after}
use Rattle.dom_links.proofs.forest.Neighbours.{reverse_cons, is_member-append, is_member-reverse}
use Rattle.dom_links.proofs.forest.Places.{cases_Option, siblings_child}
use Rattle.dom_links.proofs.walks.Apart.{Under, itself, over, walk_under}
use Rattle.dom_links.proofs.forest.Depth.{here_stands, later_stands, parent_inside, start_down, step_inside, trees_stay, upward-none}
use Rattle.std.proofs.lemmas.Bool.{or_parts}
use Rattle.dom_links.proofs.forest.Places.{Beside, beside, siblings_once}
use Rattle.dom_links.proofs.walks.Later.{ancestors-parent, rest_stands}

-- two tests that hold in the same cases
same_answer : (a b : Bool) → (a ≡ true → b ≡ true) → (b ≡ true → a ≡ true) → a ≡ b
same_answer true b f g = sym (f refl)
same_answer false true f g = g refl
same_answer false false f g = refl

module _ (forest : Forest) (good : IsForest forest) where
  ups : (n p : ℕ) → parent forest n ≡ Some p → ancestors forest n ≡ p ∷ ancestors forest p
  ups n p is = ancestors-parent forest n p good is (parent_inside forest n p good is)

  under_above : (k x n : ℕ) → Under forest k x → parent forest k ≡ Some n → is_member n (ancestors forest x) ≡ true
  under_above _ _ n (itself k) up = ap (is_member n) (ups k n up) ∙ here_stands n (ancestors forest n)
  under_above _ _ n (over k p x way is) up = ap (is_member n) (ups x p is) ∙ later_stands p n (ancestors forest p) (under_above k p n way up)

  -- who stands in the walk below a node has it above itself
  walk_above : (n x : ℕ) → is_member x (descendants_in_order forest n) ≡ true → is_member n (ancestors forest x) ≡ true
  unfolding trees
  walk_above n x s =
      let child = walk_under forest (length forest.content) (children_of forest n) x good s in
      under_above child.0 x n child.2 (good.once.in_children n child.0 child.1).1

  -- each root stands in the walk
  roots_stand : (most : ℕ) (ns : List ℕ) (x : ℕ) → is_member x ns ≡ true → is_member x (walk (trees_to forest (suc most) ns)) ≡ true
  roots_stand most [] x s = cc
  roots_stand most (n ∷ ns) x s = elim (or_cases (n == x) (is_member x ns) s) [
    | inl t ↦ or_left (n == x) _ t
    | inr there ↦ or_right (n == x) _ (is_member-append (walk (trees_to forest most (children_of forest n))) (walk (trees_to forest (suc most) ns)) x
        ∙ or_right (is_member x (walk (trees_to forest most (children_of forest n)))) _ (roots_stand most ns x there))
  ]

  -- the children of who stands in a walk stand in it, one step further down
  children_stand : (most : ℕ) (ns : List ℕ) (p x : ℕ) → is_member p (walk (trees_to forest most ns)) ≡ true → is_member x (children_of forest p) ≡ true → is_member x (walk (trees_to forest (suc most) ns)) ≡ true
  children_stand most [] p x s child = cc
  children_stand zero (n ∷ ns) p x s child = cc
  children_stand (suc most) (n ∷ ns) p x s child =
      let inner = walk (trees_to forest most (children_of forest n)) in
      let others = walk (trees_to forest (suc most) ns) in
      let inside : is_member x (walk (trees_to forest (suc most) (children_of forest n))) ≡ true → is_member x (walk (trees_to forest (suc (suc most)) (n ∷ ns))) ≡ true =
      λ t. or_right (n == x) _ (is_member-append (walk (trees_to forest (suc most) (children_of forest n))) (walk (trees_to forest (suc (suc most)) ns)) x ∙ or_left _ (is_member x (walk (trees_to forest (suc (suc most)) ns))) t) in
      elim (or_cases (n == p) (is_member p (inner ++ others)) s) [
        | inl here ↦ inside (roots_stand most (children_of forest n) x (ap (λ m. is_member x (children_of forest m)) (eqb-true n p here) ∙ child))
        | inr below ↦ elim (or_cases (is_member p inner) (is_member p others) (sym (is_member-append inner others p) ∙ below)) [
          | inl t ↦ inside (children_stand most (children_of forest n) p x t child)
          | inr t ↦ or_right (n == x) _ (is_member-append (walk (trees_to forest (suc most) (children_of forest n))) (walk (trees_to forest (suc (suc most)) ns)) x
              ∙ or_right (is_member x (walk (trees_to forest (suc most) (children_of forest n)))) _ (children_stand (suc most) ns p x t child))
        ]
      ]

  child_of : (x p : ℕ) → parent forest x ≡ Some p → is_member x (children_of forest p) ≡ true
  child_of x p is = ap (is_member x) (sym (siblings_child forest x p is)) ∙ good.once.placed x (step_inside forest p x good (inl is))

  -- one step more adds nothing
  deeper_same : (n x : ℕ) → is_member x (walk (trees_to forest (suc (length forest.content)) (children_of forest n))) ≡ true → is_member x (descendants_in_order forest n) ≡ true
  unfolding trees
  deeper_same n x s =
      ap (λ t. is_member x (walk t)) (sym (trees_stay forest (length forest.content) [] (children_of forest n) good (start_down forest (children_of forest n) (λ m t. (good.once.in_children n m t).0)) (omega arith))) ∙ s

  child_walks : (n p x : ℕ) → (n ≡ p) ⊎ (is_member p (descendants_in_order forest n) ≡ true) → is_member x (children_of forest p) ≡ true → is_member x (descendants_in_order forest n) ≡ true
  unfolding trees
  child_walks n p x (inl e) child = deeper_same n x (roots_stand (length forest.content) (children_of forest n) x (ap (λ m. is_member x (children_of forest m)) e ∙ child))
  child_walks n p x (inr s) child = deeper_same n x (children_stand (length forest.content) (children_of forest n) p x s child)

  above_walks : (ns : List ℕ) (n x : ℕ) → ancestors forest x ≡ ns → is_member n ns ≡ true → is_member x (descendants_in_order forest n) ≡ true
  above_walks [] n x e s = cc
  above_walks (m ∷ ms) n x e s = elim (cases_Option (parent forest x)) [
    | inl none ↦ (let no : ancestors forest x ≡ [] = ap (upward forest) none ∙ upward-none forest in cc)
    | inr (p, is) ↦ (let both : p ∷ ancestors forest p ≡ m ∷ ms = sym (ups x p is) ∙ e in
        let same : m ≡ p = cc in
        let rest : ancestors forest p ≡ ms = cc in
        elim (or_cases (m == n) (is_member n ms) s) [
          | inl here ↦ child_walks n p x (inl (sym (eqb-true m n here) ∙ same)) (child_of x p is)
          | inr there ↦ child_walks n p x (inr (above_walks ms n p rest there)) (child_of x p is)
        ])
  ]

  pub below_or_above : (n x : ℕ) → is_member x (descendants_in_order forest n) ≡ is_member n (ancestors forest x)
  below_or_above n x = same_answer _ _ (walk_above n x) (above_walks (ancestors forest x) n x refl)

-- what comes after n where it stands in the front, and where it doesn't

rest_front : (xs ys : List ℕ) (n : ℕ) → is_member n xs ≡ true → rest_after (xs ++ ys) n ≡ rest_after xs n ++ ys
rest_front [] ys n s = cc
rest_front (x ∷ xs) ys n s = elim (cases_Bool (x == n)) [
  | inl t ↦ rw t refl
  | inr f ↦ rw f (rest_front xs ys n (rw f at s))
]

rest_back : (xs ys : List ℕ) (n : ℕ) → is_member n xs ≡ false → rest_after (xs ++ ys) n ≡ rest_after ys n
rest_back [] ys n s = refl
rest_back (x ∷ xs) ys n s = let two = or_parts (x == n) (is_member n xs) s in rw two.0 (rest_back xs ys n two.1)

no_rest : (ns : List ℕ) (n m : ℕ) → is_member m ns ≡ false → is_member m (rest_after ns n) ≡ false
no_rest ns n m s = elim (cases_Bool (is_member m (rest_after ns n))) [
  | inr f ↦ f
  | inl t ↦ absurd (true≢false (sym (rest_stands ns n m t) ∙ s))
]

-- who stands after n in a list has n after it in the list turned round
turned : (ns : List ℕ) (n m : ℕ) → IsDistinct ns → is_member m (rest_after ns n) ≡ is_member n (rest_after (reverse ns) m)
turned [] n m once = refl
turned (k ∷ ns) n m once = elim (cases_Bool (is_member m ns)) [
  | inl there ↦ (
      let detach : rest_after (reverse (k ∷ ns)) m ≡ rest_after (reverse ns) m ++ k ∷ [] = ap (λ ms. rest_after ms m) (reverse_cons k ns) ∙ rest_front (reverse ns) (k ∷ []) m (is_member-reverse ns m ∙ there) in
      let sum : is_member n (rest_after (reverse (k ∷ ns)) m) ≡ (is_member n (rest_after (reverse ns) m) || ((k == n) || false)) = ap (is_member n) detach ∙ is_member-append (rest_after (reverse ns) m) (k ∷ []) n in
      elim (cases_Bool (k == n)) [
        | inl t ↦ rw t (there ∙ sym (sum ∙ rw t (or_right (is_member n (rest_after (reverse ns) m)) true refl)))
        | inr f ↦ rw f (turned ns n m once.1 ∙ sym (sum ∙ rw f (or_nothing (is_member n (rest_after (reverse ns) m)))))
      ])
  | inr away ↦ (
      let detach : rest_after (reverse (k ∷ ns)) m ≡ rest_after (k ∷ []) m = ap (λ ms. rest_after ms m) (reverse_cons k ns) ∙ rest_back (reverse ns) (k ∷ []) m (is_member-reverse ns m ∙ away) in
      let none : is_member n (rest_after (reverse (k ∷ ns)) m) ≡ false = ap (is_member n) detach ∙ nothing_after in
      elim (cases_Bool (k == n)) [
        | inl t ↦ rw t (away ∙ sym none)
        | inr f ↦ rw f (no_rest ns n m away ∙ sym none)
      ])
]
  where
    or_nothing : (b : Bool) → (b || false) ≡ b
    or_nothing true = refl
    or_nothing false = refl

    nothing_after : is_member n (rest_after (k ∷ []) m) ≡ false
    nothing_after = elim (k == m) as (λ b. is_member n (cond b [] (rest_after [] m)) ≡ false) [ true ↦ refl | false ↦ refl ]

pub after_or_before : (forest : Forest) (n m : ℕ) → IsForest forest → is_member m (later forest false n) ≡ is_member n (later forest true m)
after_or_before forest n m good = same_answer _ _ forth back
  where
    forth : is_member m (later forest false n) ≡ true → is_member n (later forest true m) ≡ true
    forth s =
        let ns = siblings forest n in
        let both = beside forest n m good.once (rest_stands ns n m s) in
        ap (λ ms. is_member n (rest_after (reverse ms) m)) (Beside.same_siblings both) ∙ sym (turned ns n m (siblings_once forest n good.once)) ∙ s

    back : is_member n (later forest true m) ≡ true → is_member m (later forest false n) ≡ true
    back s =
        let ms = siblings forest m in
        let both = beside forest m n good.once (sym (is_member-reverse ms n) ∙ rest_stands (reverse ms) m n s) in
        ap (λ ns. is_member m (rest_after ns n)) (Beside.same_siblings both) ∙ turned ms n m (siblings_once forest m good.once) ∙ s
