-- A node, the siblings that follow it, and the nodes above it.
use Rattle.std.proofs.Common.{ℕ, zero, suc, ◌≡◌, ◌<◌, Bool, true, false, List, [], ◌∷◌, Option, Some, None, refl, sym, ap, ◌∙◌, subst, inl, inr, length}
use Rattle.std.specs.Prelude.{◌==◌}
use Rattle.std.proofs.lemmas.Bool.{cases_Bool, eqb-true, true≢false}
use Rattle.dom_links.specs.Lists.{is_member, IsDistinct, first, after}
use Rattle.dom_links.specs.Forest.{Forest, children_of, parent, siblings, chain}
use Rattle.dom_links.specs.Sound.{IsHostAncestor, one_step, then_step, IsForest}
use Rattle.dom_links.specs.Trees.{Tree, contents_list, trees, in_order, upward, ancestors}
use Rattle.dom_links.specs.Walk.{rest_after, later, row_on, IsWithin}
use Rattle.dom_links.proofs.forest.Neighbours.{is_member-reverse, distinct-reverse, first-stands, after-stands, first_rest, first_none}
use Rattle.dom_links.proofs.forest.Places.{siblings_child, siblings_once, Beside, beside}
use Rattle.dom_links.proofs.forest.Depth.{later_stands, trees-some, upward-some}

-- the numbers after one of a list

pub rest_stands : (ns : List ℕ) (n m : ℕ) → is_member m (rest_after ns n) ≡ true → is_member m ns ≡ true
rest_stands [] n m s = s
rest_stands (k ∷ ns) n m s = elim (cases_Bool (k == n)) [
  | inl t ↦ later_stands k m ns (rw t at s)
  | inr f ↦ later_stands k m ns (rest_stands ns n m (rw f at s))
]

not_twice : (m k : ℕ) (ns : List ℕ) → IsDistinct (m ∷ ns) → is_member k ns ≡ true → (m == k) ≡ false
not_twice m k ns once s = elim (cases_Bool (m == k)) [
  | inr f ↦ f
  | inl t ↦ absurd (true≢false (sym s ∙ subst (λ (j : ℕ). is_member j ns ≡ false) (eqb-true m k t) once.0))
]

pub rest_next : (ns : List ℕ) (n k : ℕ) → IsDistinct ns → after ns n ≡ Some k → rest_after ns n ≡ k ∷ rest_after ns k
rest_next [] n k once e = cc
rest_next (m ∷ ns) n k once e = elim (cases_Bool (m == n)) [
  | inl t ↦ (let next : first ns ≡ Some k = rw t at e in
      let other = not_twice m k ns once (first-stands ns k next) in
      rw (t, other) (first_rest ns k next))
  | inr f ↦ (let next : after ns n ≡ Some k = rw f at e in
      let other = not_twice m k ns once (after-stands ns n k next) in
      rw (f, other) (rest_next ns n k once.1 next))
]

pub rest_none : (ns : List ℕ) (n : ℕ) → after ns n ≡ None → rest_after ns n ≡ []
rest_none [] n e = refl
rest_none (m ∷ ns) n e = elim (cases_Bool (m == n)) [
  | inl t ↦ rw t (first_none ns (rw t at e))
  | inr f ↦ rw f (rest_none ns n (rw f at e))
]

-- the same, from either end

pub ordered_once : (rev : Bool) (ns : List ℕ) → IsDistinct ns → IsDistinct (in_order rev ns)
ordered_once true ns once = distinct-reverse ns once
ordered_once false ns once = once

pub ordered_stands : (rev : Bool) (ns : List ℕ) (n : ℕ) → is_member n (in_order rev ns) ≡ is_member n ns
ordered_stands true ns n = is_member-reverse ns n
ordered_stands false ns n = refl

-- the later siblings are none, or the next one and its later siblings
pub record Follows (forest : Forest) (rev : Bool) (n : ℕ) (next : Option ℕ) : Type 0 where
  pub rest : later forest rev n ≡ row_on forest rev next
  pub within : IsWithin forest next
  pub same_parent : (k : ℕ) → next ≡ Some k → parent forest k ≡ parent forest n

pub follows : (forest : Forest) (rev : Bool) (n : ℕ) (next : Option ℕ) → IsForest forest → next ≡ after (in_order rev (siblings forest n)) n → Follows forest rev n next
follows forest rev n None good e = record { rest = rest_none (in_order rev (siblings forest n)) n (sym e); within = tt; same_parent = λ k no. cc }
follows forest rev n (Some k) good e =
    let row = in_order rev (siblings forest n) in
    let there : is_member k (siblings forest n) ≡ true = sym (ordered_stands rev (siblings forest n) k) ∙ after-stands row n k (sym e) in
    let both = beside forest n k good.once there in
    record {
      rest = rest_next row n k (ordered_once rev (siblings forest n) (siblings_once forest n good.once)) (sym e) ∙ ap (λ ns. k ∷ rest_after (in_order rev ns) k) (sym (Beside.same_siblings both));
      within = Beside.known both;
      same_parent = λ j is. (let same : k ≡ j = cc in subst (λ (i : ℕ). parent forest i ≡ parent forest n) same (Beside.same_parent both));
    }

-- the children of a node are none, or the first one and its later siblings
pub record Begins (forest : Forest) (rev : Bool) (n : ℕ) (from : Option ℕ) : Type 0 where
  pub all : in_order rev (children_of forest n) ≡ row_on forest rev from
  pub within : IsWithin forest from
  pub above : (k : ℕ) → from ≡ Some k → parent forest k ≡ Some n

pub begins : (forest : Forest) (rev : Bool) (n : ℕ) (from : Option ℕ) → IsForest forest → from ≡ first (in_order rev (children_of forest n)) → Begins forest rev n from
begins forest rev n None good e = record { all = first_none (in_order rev (children_of forest n)) (sym e); within = tt; above = λ k no. cc }
begins forest rev n (Some k) good e =
    let row = in_order rev (children_of forest n) in
    let there : is_member k (children_of forest n) ≡ true = sym (ordered_stands rev (children_of forest n) k) ∙ first-stands row k (sym e) in
    let facts = good.once.in_children n k there in
    record {
      all = first_rest row k (sym e) ∙ ap (λ ns. k ∷ rest_after (in_order rev ns) k) (sym (siblings_child forest k n facts.1));
      within = facts.0;
      above = λ j is. (let same : k ≡ j = cc in subst (λ (i : ℕ). parent forest i ≡ Some n) same facts.1);
    }

row_inside : (forest : Forest) (rev : Bool) (n m : ℕ) → IsForest forest → n < length forest.content → is_member m (n ∷ later forest rev n) ≡ true → m < length forest.content
row_inside forest rev n m good known s = elim (cases_Bool (n == m)) [
  | inl t ↦ subst (λ (k : ℕ). k < length forest.content) (eqb-true n m t) known
  | inr f ↦ (let there : is_member m (siblings forest n) ≡ true = sym (ordered_stands rev (siblings forest n) m) ∙ rest_stands (in_order rev (siblings forest n)) n m (rw f at s) in
      Beside.known (beside forest n m good.once there))
]

-- the trees of a node and its later siblings
pub tree_at : (forest : Forest) (n : ℕ) → IsForest forest → n < length forest.content →
    trees forest (n ∷ later forest false n) ≡ Tree n (trees forest (contents_list forest n)) (trees forest (children_of forest n)) (trees forest (later forest false n))
tree_at forest n good known = trees-some forest n (later forest false n) good (λ m s. row_inside forest false n m good known s)

-- the nodes above a node

pub ancestors-parent : (forest : Forest) (n p : ℕ) → IsForest forest → parent forest n ≡ Some p → p < length forest.content → ancestors forest n ≡ p ∷ ancestors forest p
ancestors-parent forest n p good is within = ap (upward forest) is ∙ upward-some forest p good within

pub ancestors-same : (forest : Forest) (n k : ℕ) → parent forest k ≡ parent forest n → ancestors forest k ≡ ancestors forest n
ancestors-same forest n k is = ap (upward forest) is

chain_reaches : (forest : Forest) (most n s : ℕ) (from : Option ℕ) → parent forest n ≡ from → is_member s (chain (parent forest) most from) ≡ true → IsHostAncestor forest s n
chain_reaches forest zero n s from up met = cc
chain_reaches forest (suc most) n s None up met = cc
chain_reaches forest (suc most) n s (Some p) up met = elim (cases_Bool (p == s)) [
  | inl t ↦ one_step s n (inl (up ∙ ap Some (eqb-true p s t)))
  | inr f ↦ then_step s p n (chain_reaches forest most p s (parent forest p) refl (rw f at met)) (inl up)
]

-- no node is among its ancestors
pub not_above_itself : (forest : Forest) (n s : ℕ) → IsForest forest → is_member s (ancestors forest n) ≡ true → n ≡ s → ⊥
unfolding upward
not_above_itself forest n s good met is =
    good.acyclic n (subst (λ (k : ℕ). IsHostAncestor forest k n) (sym is) (chain_reaches forest (length forest.content) n s (parent forest n) refl met))
