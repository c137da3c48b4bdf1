-- A walk that is under way is the end of the whole walk.
use Rattle.std.proofs.Common.{ℕ, zero, suc, ◌≡◌, ◌+◌, ◌^◌, ◌<◌, ◌≤◌, true, false, List, [], ◌∷◌, ◌++◌, Some, refl, sym, ap, ◌∙◌, subst, arith, inl, inr, length, append_assoc, append-nil}
use Rattle.std.specs.Prelude.{◌==◌}
use Rattle.std.specs.List.{flat_map}
use Rattle.std.proofs.lemmas.Bool.{cases_Bool, eqb-true}
use Rattle.std.proofs.lemmas.List.{length-append}
use Rattle.dom_links.specs.Lists.{is_member}
use Rattle.dom_links.specs.Forest.{Forest, children_of, parent}
use Rattle.dom_links.specs.Sound.{IsForest}
use Rattle.dom_links.specs.Trees.{trees_to, trees, walk, descendants_in_order, ancestors, upward}
use Rattle.dom_links.specs.Walk.{up_to, later, ancestors_below, walk_on, reads_ahead, IsBelow}
use Rattle.dom_links.proofs.walks.Apart.{walk-few}
use Rattle.dom_links.proofs.moves.BlockMoves.{tailed}
use Rattle.dom_links.proofs.forest.Depth.{parent_inside, upward-none}
use Rattle.dom_links.proofs.walks.Later.{ancestors-parent}
use Rattle.dom_links.proofs.forest.Places.{cases_Option, siblings_child}
use Rattle.dom_links.proofs.walks.Steps.{upward_short, walk_given}

walks_join : (forest : Forest) (most : ℕ) (xs ys : List ℕ) → walk (trees_to forest most (xs ++ ys)) ≡ walk (trees_to forest most xs) ++ walk (trees_to forest most ys)
walks_join forest most [] ys = refl
walks_join forest zero (x ∷ xs) [] = refl
walks_join forest zero (x ∷ xs) (y ∷ ys) = refl
walks_join forest (suc most) (x ∷ xs) ys =
    let below = walk (trees_to forest most (children_of forest x)) in
    ap (λ ns. x ∷ below ++ ns) (walks_join forest (suc most) xs ys) ∙ ap (λ ns. x ∷ ns) (sym (append_assoc below (walk (trees_to forest (suc most) xs)) (walk (trees_to forest (suc most) ys))))

-- the walk of two rows of trees
pub walk-append : (forest : Forest) (xs ys : List ℕ) → walk (trees forest (xs ++ ys)) ≡ walk (trees forest xs) ++ walk (trees forest ys)
unfolding trees
walk-append forest xs ys = walks_join forest (length forest.content) xs ys

-- the walk from n on is the end of the walk below start
pub record IsEnd (forest : Forest) (start n : ℕ) : Type 0 where
  pub front : List ℕ
  pub is : descendants_in_order forest start ≡ front ++ walk_on forest start (Some n)

-- what is walked after n and its later siblings
abbrev pub behind : Forest → ℕ → ℕ → List ℕ
behind forest start n = flat_map (λ p. walk (trees forest (later forest false p))) (ancestors_below forest start n)

-- the walk below the parent of n, from n on
below_parent : (forest : Forest) (n p : ℕ) → IsForest forest → n < length forest.content → parent forest n ≡ Some p →
    (front : List ℕ) × (descendants_in_order forest p ≡ front ++ walk (trees forest (n ∷ later forest false n)))
below_parent forest n p good known up =
    let it = tailed forest n good.once known in
    let row : children_of forest p ≡ it.front ++ (n ∷ later forest false n) = sym (siblings_child forest n p up) ∙ it.tail.row in
    (walk (trees forest it.front), ap (λ ns. walk (trees forest ns)) row ∙ walk-append forest it.front (n ∷ later forest false n))

pub ends_at : (forest : Forest) (start n : ℕ) (above : List ℕ) → IsForest forest → n < length forest.content → ancestors forest n ≡ above → is_member start above ≡ true → IsEnd forest start n
ends_at forest start n [] good known are s = cc
ends_at forest start n (q ∷ above) good known are s = elim (cases_Option (parent forest n)) [
  | inl none ↦ (let no : ancestors forest n ≡ [] = ap (upward forest) none ∙ upward-none forest in cc)
  | inr (p, up) ↦ (let inside = parent_inside forest n p good up in
      let both : p ∷ ancestors forest p ≡ q ∷ above = sym (ancestors-parent forest n p good up inside) ∙ are in
      let same : q ≡ p = cc in
      let rest : ancestors forest p ≡ above = cc in
      let here = below_parent forest n p good known up in
      let tail = walk (trees forest (n ∷ later forest false n)) in
      elim (cases_Bool (q == start)) [
        | inl t ↦ (let is : q ≡ start = eqb-true q start t in
            let between : ancestors_below forest start n ≡ [] = ap (up_to start) are ∙ rw t refl in
            let none : behind forest start n ≡ [] = ap (flat_map (λ k. walk (trees forest (later forest false k)))) between in
            record {
              front = here.0;
              is = ap (descendants_in_order forest) (sym is ∙ same) ∙ here.1 ∙ ap (λ ns. here.0 ++ ns) (sym (append-nil tail) ∙ ap (λ ns. tail ++ ns) (sym none));
            })
        | inr f ↦ (let up_here : is_member start above ≡ true = rw f at s in
            let over = ends_at forest start p above good inside rest up_here in
            let above_n = subst (λ ns. is_member start ns ≡ true) (sym are) s in
            let above_p = subst (λ ns. is_member start ns ≡ true) (sym rest) up_here in
            let between : ancestors_below forest start n ≡ p ∷ ancestors_below forest start p = ap (up_to start) are ∙ rw f (ap (λ k. k ∷ up_to start above) same ∙ ap (λ ns. p ∷ up_to start ns) (sym rest)) in
            let next = walk (trees forest (later forest false p)) in
            let after : behind forest start n ≡ next ++ behind forest start p = ap (flat_map (λ k. walk (trees forest (later forest false k)))) between in
            let given = walk_given forest start p good (inside, above_p) in
            let left = p ∷ here.0 in
            let inner : p ∷ (descendants_in_order forest p ++ next) ++ behind forest start p ≡ left ++ (tail ++ behind forest start n) =
            ap (λ ns. p ∷ (ns ++ next) ++ behind forest start p) here.1
            ∙ ap (λ ns. p ∷ ns) (append_assoc (here.0 ++ tail) next (behind forest start p) ∙ append_assoc here.0 tail (next ++ behind forest start p))
            ∙ ap (λ ns. left ++ (tail ++ ns)) (sym after) in
            record {
              front = over.front ++ left;
              is = over.is ∙ ap (λ ns. over.front ++ ns) (given ∙ inner) ∙ sym (append_assoc over.front left (tail ++ behind forest start n));
            })
      ])
]

pub is_end : (forest : Forest) (start n : ℕ) → IsForest forest → IsBelow forest start (Some n) → IsEnd forest start n
is_end forest start n good place = ends_at forest start n (ancestors forest n) good place.0 refl place.1

up_to-few : (stop : ℕ) (ns : List ℕ) → length (up_to stop ns) ≤ length ns
up_to-few stop [] = omega arith
up_to-few stop (n ∷ ns) = elim (cases_Bool (n == stop)) [
  | inl t ↦ rw t (omega arith)
  | inr f ↦ (let rest = up_to-few stop ns in rw f (omega arith))
]

-- the looks of what is left of a walk can be counted
pub looks_few : (forest : Forest) (start n : ℕ) → IsForest forest → IsBelow forest start (Some n) → length forest.content ≤ 4294967295 → 0 + reads_ahead forest start (Some n) < 2 ^ 64
looks_few forest start n good place numbered =
    let end = is_end forest start n good place in
    let whole = ap length end.is ∙ length-append end.front (walk_on forest start (Some n)) in
    let few = walk-few forest start good in
    let over = up_to-few start (ancestors forest n) in
    let over_few = upward_short forest (parent forest n) in
    omega (arith, whole, few, over, over_few, numbered)
