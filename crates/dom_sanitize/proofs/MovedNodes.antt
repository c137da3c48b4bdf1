-- The children lists after nodes were detached and put back, and that each move is allowed.
use Rattle.std.proofs.Common.{ℕ, ◌≡◌, ◌<◌, ◌≤◌, ◌+◌, zero, suc, true, false, List, [], ◌∷◌, ◌++◌, Option, Some, None, refl, sym, ap, ◌∙◌, inl, inr, length, arith}
use Rattle.std.specs.Prelude.{◌==◌, slice_index_or, map, if◌then◌else◌}
use Rattle.std.proofs.lemmas.Bool.{cases_Bool, cases_lt, eqb-true, eq-eqb, or_parts}
use Rattle.dom_links.specs.Forest.{Forest, children_of, owner_from, parent}
use Rattle.dom_links.specs.Lists.{is_member, IsDistinct, map_from, without}
use Rattle.dom_links.specs.declared.gap.InsertionPoint.TheVariants.{FrontOf}
use Rattle.dom_links.specs.Moves.{children_with, detach, moved_to}
use Rattle.dom_sanitize.specs.Plan.{EachStep, all_done, cut_one, homed, ids, is_home, put_one}
use Rattle.dom_sanitize.specs.declared.plan.Step.{Step}
use Rattle.dom_links.proofs.forest.Neighbours.{without_one-none}
use Rattle.dom_sanitize.proofs.NumberLists.{out_of_both, turned, without-cons}

list_mapped : (f : List ℕ → List ℕ) (lists : List (List ℕ)) (n : ℕ) → f [] ≡ [] → slice_index_or (map f lists) n [] ≡ f (slice_index_or lists n [])
list_mapped f [] n none = sym none
list_mapped f (ns ∷ lists) zero none = refl
list_mapped f (ns ∷ lists) (suc n) none = list_mapped f lists n none

pub children-detach : (x : ℕ) (forest : Forest) (n : ℕ) → children_of (detach (x ∷ []) forest) n ≡ without (x ∷ []) (children_of forest n)
children-detach x forest n = list_mapped (without (x ∷ [])) forest.children n refl

length-mapped : (f : List ℕ → List ℕ) (lists : List (List ℕ)) → length (map f lists) ≡ length lists
length-mapped f [] = refl
length-mapped f (ns ∷ lists) = ap suc (length-mapped f lists)

pub length-from : (i : ℕ) (f : ℕ → List ℕ → List ℕ) (lists : List (List ℕ)) → length (map_from i f lists) ≡ length lists
length-from i f [] = refl
length-from i f (ns ∷ lists) = ap suc (length-from (i + 1) f lists)

pub list_from : (i : ℕ) (f : ℕ → List ℕ → List ℕ) (lists : List (List ℕ)) (n : ℕ) → n < length lists → slice_index_or (map_from i f lists) n [] ≡ f (i + n) (slice_index_or lists n [])
list_from i f [] n h = absurd (omega arith)
list_from i f (ns ∷ lists) zero h = ap (λ j. f j ns) (omega arith)
list_from i f (ns ∷ lists) (suc n) h = list_from (i + 1) f lists n (omega arith) ∙ ap (λ j. f j (slice_index_or lists n [])) (omega arith)

pub list_past : (lists : List (List ℕ)) (n : ℕ) → length lists ≤ n → slice_index_or lists n [] ≡ []
list_past [] n h = refl
list_past (ns ∷ lists) zero h = absurd (omega arith)
list_past (ns ∷ lists) (suc n) h = list_past lists n (omega arith)

-- x is put to the front of the children of p
pub children-put : (x p : ℕ) (forest : Forest) (n : ℕ) → p < length forest.children → is_member x (children_of forest n) ≡ false →
    children_of (moved_to (x ∷ []) (FrontOf p) forest) n ≡ (if p == n then x ∷ children_of forest n else children_of forest n)
children-put x p forest n here out =
    let inner = detach (x ∷ []) forest in
    let left : children_of inner n ≡ children_of forest n = children-detach x forest n ∙ without_one-none (children_of forest n) x out in
    let long : length inner.children ≡ length forest.children = length-mapped (without (x ∷ [])) forest.children in
    elim (cases_lt n (length inner.children)) [
      | inl h ↦ (let made : children_of (moved_to (x ∷ []) (FrontOf p) forest) n ≡ children_with (FrontOf p) (x ∷ []) n (children_of inner n) = list_from 0 (children_with (FrontOf p) (x ∷ [])) inner.children n h ∙ ap (λ j. children_with (FrontOf p) (x ∷ []) j (children_of inner n)) (omega arith) in
          elim (cases_Bool (p == n)) [
            | inl t ↦ (let same : (n == p) ≡ true = eq-eqb n p (sym (eqb-true p n t)) in made ∙ rw (t, left) (rw same refl))
            | inr f ↦ (let off : (n == p) ≡ false = turned p n f in made ∙ rw (f, left) (rw off refl))
          ])
      | inr past ↦ (let off : (p == n) ≡ false = elim (cases_Bool (p == n)) [
        | inr f ↦ f
        | inl t ↦ absurd (let same : p ≡ n = eqb-true p n t in omega (arith, same))
      ] in
          let none : children_of forest n ≡ [] = list_past forest.children n (omega arith) in
          let none_too : children_of (moved_to (x ∷ []) (FrontOf p) forest) n ≡ [] = list_past _ n (omega (arith, length-from 0 (children_with (FrontOf p) (x ∷ [])) inner.children)) in
          none_too ∙ rw off (sym none))
    ]

-- all nodes are detached
pub children-all_cut : (steps : List Step) (forest : Forest) (n : ℕ) → children_of (all_done cut_one steps forest) n ≡ without (ids steps) (children_of forest n)
children-all_cut [] forest n = sym (without_nothing (children_of forest n))
  where
    without_nothing : (ns : List ℕ) → without [] ns ≡ ns
    without_nothing [] = refl
    without_nothing (m ∷ ns) = ap (λ ms. m ∷ ms) (without_nothing ns)
children-all_cut (s ∷ steps) forest n =
    children-detach s.id (all_done cut_one steps forest) n ∙ ap (without (s.id ∷ [])) (children-all_cut steps forest n) ∙ without-cons s.id (ids steps) (children_of forest n)

pub content-all_cut : (steps : List Step) (forest : Forest) → (all_done cut_one steps forest).content ≡ forest.content
content-all_cut [] forest = refl
content-all_cut (s ∷ steps) forest = content-all_cut steps forest

pub long-all_cut : (steps : List Step) (forest : Forest) → length (all_done cut_one steps forest).children ≡ length forest.children
long-all_cut [] forest = refl
long-all_cut (s ∷ steps) forest = length-mapped (without (s.id ∷ [])) (all_done cut_one steps forest).children ∙ long-all_cut steps forest

content-put_one : (home : Option ℕ) (n : ℕ) (forest : Forest) → (put_one (record { id = n; home = home }) forest).content ≡ forest.content
content-put_one None n forest = refl
content-put_one (Some p) n forest = refl

pub content-all_put : (steps : List Step) (forest : Forest) → (all_done put_one steps forest).content ≡ forest.content
content-all_put [] forest = refl
content-all_put (s ∷ steps) forest = content-put_one s.home s.id (all_done put_one steps forest) ∙ content-all_put steps forest

long-put_one : (home : Option ℕ) (n : ℕ) (forest : Forest) → length (put_one (record { id = n; home = home }) forest).children ≡ length forest.children
long-put_one None n forest = refl
long-put_one (Some p) n forest = length-from 0 (children_with (FrontOf p) (n ∷ [])) (detach (n ∷ []) forest).children ∙ length-mapped (without (n ∷ [])) forest.children

pub long-all_put : (steps : List Step) (forest : Forest) → length (all_done put_one steps forest).children ≡ length forest.children
long-all_put [] forest = refl
long-all_put (s ∷ steps) forest = long-put_one s.home s.id (all_done put_one steps forest) ∙ long-all_put steps forest

pub out_of-homed : (n m : ℕ) (steps : List Step) → is_member m (ids steps) ≡ false → is_member m (homed n steps) ≡ false
out_of-homed n m [] out = refl
out_of-homed n m (s ∷ steps) out =
    let two = or_parts (s.id == m) (is_member m (ids steps)) out in
    elim (cases_Bool (is_home s.home n)) [
      | inl t ↦ rw t (rw two.0 (out_of-homed n m steps two.1))
      | inr f ↦ rw f (out_of-homed n m steps two.1)
    ]

-- what is asked of a step for its move: its node stands in no list, and its home is a node
pub record Movable (start : Forest) (s : Step) : Type 0 where
  pub free : (n : ℕ) → is_member s.id (children_of start n) ≡ false
  pub home_inside : (p : ℕ) → s.home ≡ Some p → p < length start.children

put_children : (home : Option ℕ) (x : ℕ) (forest : Forest) (n : ℕ) → ((p : ℕ) → home ≡ Some p → p < length forest.children) → is_member x (children_of forest n) ≡ false →
    children_of (put_one (record { id = x; home = home }) forest) n ≡ (if is_home home n then x ∷ children_of forest n else children_of forest n)
put_children None x forest n inside out = refl
put_children (Some p) x forest n inside out = children-put x p forest n (inside p refl) out

-- the nodes are put back
pub children-all_put : (steps : List Step) (start : Forest) (n : ℕ) → IsDistinct (ids steps) → EachStep (Movable start) steps → children_of (all_done put_one steps start) n ≡ homed n steps ++ children_of start n
children-all_put [] start n once each = refl
children-all_put (s ∷ steps) start n once each =
    let rest = children-all_put steps start n once.1 each.1 in
    let forest = all_done put_one steps start in
    let out : is_member s.id (children_of forest n) ≡ false = ap (is_member s.id) rest ∙ out_of_both (homed n steps) (children_of start n) s.id (out_of-homed n s.id steps once.0) (each.0.free n) in
    let inside : (p : ℕ) → s.home ≡ Some p → p < length forest.children = λ p e. omega (arith, each.0.home_inside p e, long-all_put steps start) in
    put_children s.home s.id forest n inside out ∙ (elim (cases_Bool (is_home s.home n)) [
      | inl t ↦ rw t (ap (λ ms. s.id ∷ ms) rest)
      | inr f ↦ rw f rest
    ])

-- who stands in no children list has no parent
pub no_parent : (forest : Forest) (n : ℕ) → ((p : ℕ) → is_member n (children_of forest p) ≡ false) → parent forest n ≡ None
no_parent forest n out = none 0 forest.children out
  where
    none : (i : ℕ) (lists : List (List ℕ)) → ((p : ℕ) → is_member n (slice_index_or lists p []) ≡ false) → owner_from i lists n ≡ None
    none i [] out = refl
    none i (ns ∷ lists) out = rw (out 0) (none (i + 1) lists (λ p. out (suc p)))
