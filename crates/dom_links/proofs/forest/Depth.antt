-- No way up or down a forest is longer than there are nodes.
use Rattle.std.proofs.Common.{ℕ, zero, suc, ◌≡◌, ◌<◌, ◌≤◌, ◌+◌, true, false, List, [], ◌∷◌, Option, Some, None, refl, sym, ap, ◌∙◌, subst, arith, inl, inr, length}
use Rattle.std.specs.Prelude.{◌==◌}
use Rattle.std.proofs.lemmas.Bool.{cases_Bool, eqb-true, eq-eqb, cases_lt}
use Rattle.dom_nodes.specs.Kinds.{is_fragment, children_allowed}
use Rattle.dom_links.specs.Lists.{is_member, IsDistinct}
use Rattle.dom_links.specs.Forest.{Forest, children_of, parent, chain}
use Rattle.dom_links.specs.Sound.{IsParentOrHost, IsHostAncestor, one_step, then_step, children_allowed_at, contents_at, IsForest}
use Rattle.dom_links.specs.Trees.{NoTrees, Tree, contents_list, trees_to, trees, upward, ancestors}
use Rattle.dom_links.proofs.forest.Places.{cases_Option}
use Rattle.dom_links.proofs.forest.Chains.{length_below}
use Rattle.dom_links.proofs.moves.Acyclicity.{onward}
use Rattle.dom_links.proofs.forest.Grown.{new_parentless, within}

-- a list of other nodes than n is shorter than there are nodes
short : (forest : Forest) (met : List ℕ) (n : ℕ) → n < length forest.content → IsDistinct met → ((m : ℕ) → is_member m met ≡ true → m < length forest.content) → is_member n met ≡ false → length met < length forest.content
short forest met n known once inside new =
    let few : length (n ∷ met) ≤ length forest.content = length_below (n ∷ met) (length forest.content) (new, once)
    (λ m s. elim (cases_Bool (n == m)) [
      | inl e ↦ subst (λ (k : ℕ). k < length forest.content) (eqb-true n m e) known
      | inr f ↦ inside m (rw f at s)
    ]) in
    omega arith

-- a step leads to a node of the forest
pub step_inside : (forest : Forest) (m n : ℕ) → IsForest forest → IsParentOrHost forest m n → n < length forest.content
step_inside forest m n good (inr c) = within is_fragment forest.content n (good.contents_known m n c).1
step_inside forest m n good (inl p) = elim (cases_lt n (length forest.content)) [
  | inl h ↦ h
  | inr past ↦ (let none = new_parentless forest n good.once past in cc)
]

pub here_stands : (n : ℕ) (ns : List ℕ) → is_member n (n ∷ ns) ≡ true
here_stands n ns = rw (eq-eqb n n refl) refl

pub later_stands : (n m : ℕ) (ns : List ℕ) → is_member m ns ≡ true → is_member m (n ∷ ns) ≡ true
later_stands n m ns s = elim (cases_Bool (n == m)) [ inl t ↦ rw t refl | inr f ↦ rw f s ]

-- nodes were met, each once, on ways that lead down to ns
pub record Down (forest : Forest) (met ns : List ℕ) : Type 0 where
  once : IsDistinct met
  inside : (m : ℕ) → is_member m met ≡ true → m < length forest.content
  known : (n : ℕ) → is_member n ns ≡ true → n < length forest.content
  onto : (m n : ℕ) → is_member m met ≡ true → is_member n ns ≡ true → IsHostAncestor forest m n

down_new : (forest : Forest) (met ns : List ℕ) (n : ℕ) → IsForest forest → Down forest met (n ∷ ns) → is_member n met ≡ false
down_new forest met ns n good down = elim (cases_Bool (is_member n met)) [
  | inr f ↦ f
  | inl s ↦ absurd (good.acyclic n (down.onto n n s (here_stands n ns)))
]

-- one step further down
deeper : (forest : Forest) (met ns : List ℕ) (n : ℕ) (ks : List ℕ) → IsForest forest → Down forest met (n ∷ ns) → ((k : ℕ) → is_member k ks ≡ true → IsParentOrHost forest n k) → Down forest (n ∷ met) ks
deeper forest met ns n ks good down steps = record {
  once = (down_new forest met ns n good down, down.once);
  inside = λ m s. elim (cases_Bool (n == m)) [
    | inl e ↦ subst (λ (k : ℕ). k < length forest.content) (eqb-true n m e) (down.known n (here_stands n ns))
    | inr f ↦ down.inside m (rw f at s)
  ];
  known = λ k s. step_inside forest n k good (steps k s);
  onto = λ m k s t. elim (cases_Bool (n == m)) [
    | inl e ↦ one_step m k (subst (λ (j : ℕ). IsParentOrHost forest j k) (eqb-true n m e) (steps k t))
    | inr f ↦ then_step m n k (down.onto m n (rw f at s) (here_stands n ns)) (steps k t)
  ];
}

beside_it : (forest : Forest) (met ns : List ℕ) (n : ℕ) → Down forest met (n ∷ ns) → Down forest met ns
beside_it forest met ns n down = record {
  once = down.once;
  inside = down.inside;
  known = λ k s. down.known k (later_stands n k ns s);
  onto = λ m k s t. down.onto m k s (later_stands n k ns t);
}

pub child_step : (forest : Forest) (n k : ℕ) → IsForest forest → is_member k (children_of forest n) ≡ true → IsParentOrHost forest n k
child_step forest n k good s = inl (good.once.in_children n k s).1

contents_step : (forest : Forest) (n k : ℕ) → is_member k (contents_list forest n) ≡ true → IsParentOrHost forest n k
contents_step forest n k s = elim (cases_Option (contents_at forest n)) [
  | inl none ↦ (let no = rw none at s in cc)
  | inr (c, some) ↦ (let one = rw some at s in inr (some ∙ ap Some (only c one)))
]
  where
    only : (c : ℕ) → is_member k (c ∷ []) ≡ true → c ≡ k
    only c one = elim (cases_Bool (c == k)) [ inl t ↦ eqb-true c k t | inr f ↦ (let no = rw f at one in cc) ]

-- one step more adds nothing, where with the nodes met there are steps enough
pub trees_stay : (forest : Forest) (most : ℕ) (met ns : List ℕ) → IsForest forest → Down forest met ns → length forest.content ≤ length met + most → trees_to forest (suc most) ns ≡ trees_to forest most ns
trees_stay forest most met [] good down enough = refl
trees_stay forest zero met (n ∷ ns) good down enough =
    let less = short forest met n (down.known n (here_stands n ns)) down.once down.inside (down_new forest met ns n good down) in
    absurd (omega arith)
trees_stay forest (suc most) met (n ∷ ns) good down enough =
    let inner = trees_stay forest most (n ∷ met) (contents_list forest n) good (deeper forest met ns n (contents_list forest n) good down (contents_step forest n)) (omega arith) in
    let children = trees_stay forest most (n ∷ met) (children_of forest n) good (deeper forest met ns n (children_of forest n) good down (λ k s. child_step forest n k good s)) (omega arith) in
    let others = trees_stay forest (suc most) met ns good (beside_it forest met ns n down) enough in
    cc

pub start_down : (forest : Forest) (ns : List ℕ) → ((n : ℕ) → is_member n ns ≡ true → n < length forest.content) → Down forest [] ns
start_down forest ns known = record { once = tt; inside = λ m s. cc; known = known; onto = λ m n s t. cc }

pub trees-none : (forest : Forest) → trees forest [] ≡ NoTrees
unfolding trees
trees-none forest = refl

-- the trees of some nodes: the first one with its contents and its children, and the trees of the others
pub trees-some : (forest : Forest) (n : ℕ) (ns : List ℕ) → IsForest forest → ((m : ℕ) → is_member m (n ∷ ns) ≡ true → m < length forest.content) →
    trees forest (n ∷ ns) ≡ Tree n (trees forest (contents_list forest n)) (trees forest (children_of forest n)) (trees forest ns)
unfolding trees
trees-some forest n ns good known =
    let first_too = trees_stay forest (length forest.content) [] (n ∷ ns) good (start_down forest (n ∷ ns) known) (omega arith) in
    let others = trees_stay forest (length forest.content) [] ns good (start_down forest ns (λ m s. known m (later_stands n m ns s))) (omega arith) in
    cc

-- nodes were met, each once, on a way up that goes on here
record Up (forest : Forest) (met : List ℕ) (from : Option ℕ) : Type 0 where
  once : IsDistinct met
  inside : (m : ℕ) → is_member m met ≡ true → m < length forest.content
  known : (n : ℕ) → from ≡ Some n → n < length forest.content
  onto : (n m : ℕ) → from ≡ Some n → is_member m met ≡ true → IsHostAncestor forest n m

up_new : (forest : Forest) (met : List ℕ) (n : ℕ) → IsForest forest → Up forest met (Some n) → is_member n met ≡ false
up_new forest met n good up = elim (cases_Bool (is_member n met)) [
  | inr f ↦ f
  | inl s ↦ absurd (good.acyclic n (up.onto n n refl s))
]

-- a parent is a node of the forest
pub parent_inside : (forest : Forest) (n p : ℕ) → IsForest forest → parent forest n ≡ Some p → p < length forest.content
parent_inside forest n p good some = bears_inside (good.parents_allow p n some)
  where
    bears_inside : children_allowed_at forest p ≡ true → p < length forest.content
    bears_inside h = within children_allowed forest.content p h

higher : (forest : Forest) (met : List ℕ) (n : ℕ) → IsForest forest → Up forest met (Some n) → Up forest (n ∷ met) (parent forest n)
higher forest met n good up = record {
  once = (up_new forest met n good up, up.once);
  inside = λ m s. elim (cases_Bool (n == m)) [
    | inl e ↦ subst (λ (k : ℕ). k < length forest.content) (eqb-true n m e) (up.known n refl)
    | inr f ↦ up.inside m (rw f at s)
  ];
  known = λ p some. parent_inside forest n p good some;
  onto = λ p m some s. elim (cases_Bool (n == m)) [
    | inl e ↦ subst (IsHostAncestor forest p) (eqb-true n m e) (one_step p n (inl some))
    | inr f ↦ onward forest p n m (one_step p n (inl some)) (up.onto n m refl (rw f at s))
  ];
}

chain_stay : (forest : Forest) (most : ℕ) (met : List ℕ) (from : Option ℕ) → IsForest forest → Up forest met from → length forest.content ≤ length met + most → chain (parent forest) (suc most) from ≡ chain (parent forest) most from
chain_stay forest zero met None good up enough = refl
chain_stay forest (suc most) met None good up enough = refl
chain_stay forest zero met (Some n) good up enough =
    let less = short forest met n (up.known n refl) up.once up.inside (up_new forest met n good up) in
    absurd (omega arith)
chain_stay forest (suc most) met (Some n) good up enough = ap (λ ns. n ∷ ns) (chain_stay forest most (n ∷ met) (parent forest n) good (higher forest met n good up) (omega arith))

pub upward-none : (forest : Forest) → upward forest None ≡ []
unfolding upward
upward-none forest = none (length forest.content)
  where
    none : (most : ℕ) → chain (parent forest) most None ≡ []
    none zero = refl
    none (suc most) = refl

-- a node comes before its ancestors
pub upward-some : (forest : Forest) (n : ℕ) → IsForest forest → n < length forest.content → upward forest (Some n) ≡ n ∷ ancestors forest n
unfolding upward
upward-some forest n good known =
    sym (chain_stay forest (length forest.content) [] (Some n) good
    (record { once = tt; inside = λ m s. cc; known = λ k e. subst (λ (j : ℕ). j < length forest.content) (same n k e) known; onto = λ k m e s. cc }) (omega arith))
  where
    same : (n k : ℕ) → Some n ≡ Some k → n ≡ k
    same n k e = cc
