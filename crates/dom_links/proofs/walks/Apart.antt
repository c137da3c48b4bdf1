-- No node stands twice in a walk.
use Rattle.std.proofs.Common.{ℕ, zero, suc, ◌≡◌, ◌<◌, ◌≤◌, true, false, List, [], ◌∷◌, Option, Some, refl, sym, ap, ◌∙◌, subst, inl, inr, ◌⊎◌, length}
use Rattle.std.specs.Prelude.{◌==◌}
use Rattle.std.proofs.lemmas.Bool.{cases_Bool, eqb-true, true≢false}
use Rattle.dom_links.specs.Lists.{is_member, IsDistinct}
use Rattle.dom_links.specs.Forest.{Forest, children_of, parent}
use Rattle.dom_links.specs.Sound.{IsHostAncestor, one_step, then_step, AtOrBelow, IsForest}
use Rattle.dom_links.specs.Trees.{trees_to, trees, walk, descendants_in_order}
use Rattle.dom_links.proofs.forest.Neighbours.{is_member-append, distinct-append}
use Rattle.dom_links.proofs.forest.Chains.{length_below}
use Rattle.dom_links.proofs.moves.Acyclicity.{further}
use Rattle.dom_links.proofs.forest.Depth.{step_inside, here_stands, later_stands}

-- m is n, or above it by parents
pub data Under (forest : Forest) : ℕ → ℕ → Type 0 where
  itself : (n : ℕ) → Under forest n n
  over : (m p n : ℕ) → Under forest m p → parent forest n ≡ Some p → Under forest m n

pub parted : (forest : Forest) (m n : ℕ) → Under forest m n → (m ≡ n) ⊎ ((p : ℕ) × (parent forest n ≡ Some p) × Under forest m p)
parted forest _ _ (itself n) = inl refl
parted forest _ _ (over m p n way up) = inr (p, up, way)

-- of two nodes above a third one, one is above the other
pub compared : (forest : Forest) (k m n : ℕ) → Under forest m n → Under forest k n → Under forest m k ⊎ Under forest k m
compared forest k _ _ (itself n) other = inr other
compared forest k _ _ (over m p n way up) other = elim (parted forest k n other) [
  | inl e ↦ inl (subst (Under forest m) (sym e) (over m p n way up))
  | inr more ↦ (let same : more.0 ≡ p = (let two = sym more.1 ∙ up in cc) in compared forest k m p way (subst (Under forest k) same more.2))
]

under_child : (forest : Forest) (n k x : ℕ) → Under forest k x → parent forest k ≡ Some n → Under forest n x
under_child forest n _ _ (itself k) top = over n n k (itself n) top
under_child forest n _ _ (over k p x way up) top = over n p x (under_child forest n k p way top) up

reached : (forest : Forest) (m n : ℕ) → Under forest m n → AtOrBelow forest m n
reached forest _ _ (itself n) = inl refl
reached forest _ _ (over m p n way up) = inr (further forest m p n (reached forest m p way) (inl up))

-- siblings are not above each other
not_over : (forest : Forest) (n k : ℕ) → IsForest forest → (n ≡ k → ⊥) → parent forest n ≡ parent forest k → Under forest n k → ⊥
not_over forest n k good ne same way = elim (parted forest n k way) [
  | inl e ↦ ne e
  | inr more ↦ good.acyclic n (further forest n more.0 n (reached forest n more.0 more.2) (inl (same ∙ more.1)))
]

-- nothing is below two siblings
split_below : (forest : Forest) (n k x : ℕ) → IsForest forest → (n ≡ k → ⊥) → parent forest n ≡ parent forest k → Under forest n x → Under forest k x → ⊥
split_below forest n k x good ne same one other = elim (compared forest k n x one other) [
  | inl way ↦ not_over forest n k good ne same way
  | inr way ↦ not_over forest k n good (λ e. ne (sym e)) (sym same) way
]

-- a walk gives nodes that are below its roots
pub walk_under : (forest : Forest) (most : ℕ) (ns : List ℕ) (x : ℕ) → IsForest forest → is_member x (walk (trees_to forest most ns)) ≡ true →
    (n : ℕ) × (is_member n ns ≡ true) × Under forest n x
walk_under forest most [] x good s = cc
walk_under forest zero (n ∷ ns) x good s = cc
walk_under forest (suc most) (n ∷ ns) x good s = elim (cases_Bool (n == x)) [
  | inl t ↦ (n, here_stands n ns, subst (Under forest n) (eqb-true n x t) (itself n))
  | inr f ↦ (let both = sym (is_member-append (walk (trees_to forest most (children_of forest n))) (walk (trees_to forest (suc most) ns)) x) ∙ rw f at s in
      elim (cases_Bool (is_member x (walk (trees_to forest most (children_of forest n))))) [
        | inl t ↦ (let child = walk_under forest most (children_of forest n) x good t in
            (n, here_stands n ns, under_child forest n child.0 x child.2 (good.once.in_children n child.0 child.1).1))
        | inr g ↦ (let other = walk_under forest (suc most) ns x good (rw g at both) in
            (other.0, later_stands n other.0 ns other.1, other.2))
      ])
]

pub walk_apart : (forest : Forest) (most : ℕ) (ns : List ℕ) (above : Option ℕ) → IsForest forest → IsDistinct ns → ((n : ℕ) → is_member n ns ≡ true → parent forest n ≡ above) → IsDistinct (walk (trees_to forest most ns))
walk_apart forest most [] above good once same = tt
walk_apart forest zero (n ∷ ns) above good once same = tt
walk_apart forest (suc most) (n ∷ ns) above good once same =
    let inner = walk (trees_to forest most (children_of forest n)) in
    let others = walk (trees_to forest (suc most) ns) in
    let inner_once : IsDistinct inner = walk_apart forest most (children_of forest n) (Some n) good (good.once.children_once n) (λ k s. (good.once.in_children n k s).1) in
    let others_once : IsDistinct others = walk_apart forest (suc most) ns above good once.1 (λ k s. same k (later_stands n k ns s)) in
    let in_inner : (x : ℕ) → is_member x inner ≡ true → Under forest n x = λ x s. (let child = walk_under forest most (children_of forest n) x good s in
    under_child forest n child.0 x child.2 (good.once.in_children n child.0 child.1).1) in
    let in_others : (x : ℕ) → Under forest n x → is_member x others ≡ false = λ x way. elim (cases_Bool (is_member x others)) [
      | inr f ↦ f
      | inl s ↦ (let other = walk_under forest (suc most) ns x good s in
          let ne : n ≡ other.0 → ⊥ = λ e. true≢false (sym other.1 ∙ ap (λ m. is_member m ns) (sym e) ∙ once.0) in
          absurd (split_below forest n other.0 x good ne (same n (here_stands n ns) ∙ sym (same other.0 (later_stands n other.0 ns other.1))) way other.2))
    ] in
    let not_inner : is_member n inner ≡ false = elim (cases_Bool (is_member n inner)) [
      | inr f ↦ f
      | inl s ↦ (let child = walk_under forest most (children_of forest n) n good s in
          let up : parent forest child.0 ≡ Some n = (good.once.in_children n child.0 child.1).1 in
          absurd (elim (reached forest child.0 n child.2) [
            | inl e ↦ good.acyclic n (subst (IsHostAncestor forest n) e (one_step n child.0 (inl up)))
            | inr way ↦ good.acyclic child.0 (then_step child.0 n child.0 way (inl up))
          ]))
    ] in
    (is_member-append inner others n ∙ rw (not_inner, in_others n (itself n)) refl, distinct-append inner others inner_once others_once (λ x s. in_others x (in_inner x s)))

pub under_inside : (forest : Forest) (n x : ℕ) → IsForest forest → n < length forest.content → Under forest n x → x < length forest.content
under_inside forest n x good known way = elim (parted forest n x way) [
  | inl e ↦ subst (λ (k : ℕ). k < length forest.content) e known
  | inr more ↦ step_inside forest more.0 x good (inl more.1)
]

-- no node stands twice in the walk below a node
pub walk-once : (forest : Forest) (n : ℕ) → IsForest forest → IsDistinct (descendants_in_order forest n)
unfolding trees
walk-once forest n good = walk_apart forest (length forest.content) (children_of forest n) (Some n) good (good.once.children_once n) (λ k s. (good.once.in_children n k s).1)

-- the nodes of a walk are the forest's
pub walk-inside : (forest : Forest) (n x : ℕ) → IsForest forest → is_member x (descendants_in_order forest n) ≡ true → x < length forest.content
unfolding trees
walk-inside forest n x good s =
    let top = walk_under forest (length forest.content) (children_of forest n) x good s in
    under_inside forest top.0 x good (good.once.in_children n top.0 top.1).0 top.2

-- there are no more of them than nodes
pub walk-few : (forest : Forest) (n : ℕ) → IsForest forest → length (descendants_in_order forest n) ≤ length forest.content
walk-few forest n good = length_below (descendants_in_order forest n) (length forest.content) (walk-once forest n good) (λ x s. walk-inside forest n x good s)
