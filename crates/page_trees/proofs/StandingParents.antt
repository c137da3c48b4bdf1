-- The parent of a node, in a forest and in the definition's store.
use Rattle.std.proofs.Common.{◌≡◌, ℕ, suc, ◌+◌, Bool, true, false, List, [], ◌∷◌, map, nat_eq, refl, sym, ap, ◌∙◌, ◌==◌, ◌||◌, add-one, inl, inr, if◌then◌else◌}
use Rattle.std.specs.Prelude.{Option, Some}
use Rattle.std.proofs.lemmas.Bool.{eq-eqb, ne_eqb}
use Rattle.std.proofs.lemmas.Bool.Decides.{eqb_tells}
use Rattle.dom_links.specs.Forest.{Forest, owner_from, parent}
use Rattle.dom_links.specs.Lists.{is_member}
use Rattle.standard_trees.specs.TreeStore.{Node, parent_from, parent_of}
use Rattle.standard_trees.specs.TreeStore.{is_member as has_number}
use Rattle.page_trees.specs.SameNodes.{AreNodes}

same_number : (n m : ℕ) → (m == n) ≡ nat_eq n m
same_number n m = elim (eqb_tells m n) [ inl h ↦ h.0 ∙ sym (eq-eqb n m (sym h.1)) | inr h ↦ h.0 ∙ sym (ne_eqb n m (λ e. h.1 (sym e))) ]

same_member : (n : ℕ) (ns : List ℕ) → is_member n ns ≡ has_number n ns
same_member n [] = refl
same_member n (m ∷ ns) = ap (λ b. b || is_member n ns) (same_number n m) ∙ ap (λ b. nat_eq n m || b) (same_member n ns)

either : (b : Bool) (x y z : Option ℕ) → y ≡ z → (if b then x else y) ≡ (elim b [ true ↦ x | false ↦ z ])
either true x y z e = refl
either false x y z e = e

owner_is : (i n : ℕ) (nodes : List Node) → owner_from i (map (λ node. node.children) nodes) n ≡ parent_from i n nodes
owner_is i n [] = refl
owner_is i n (node ∷ nodes) =
    ap (λ b. if b then Some i else owner_from (i + 1) (map (λ node. node.children) nodes) n) (same_member n node.children)
    ∙ either (has_number n node.children) (Some i) (owner_from (i + 1) (map (λ node. node.children) nodes) n) (parent_from (suc i) n nodes)
    (ap (λ k. owner_from k (map (λ node. node.children) nodes) n) (add-one i) ∙ owner_is (suc i) n nodes)

pub parent_is : (nodes : List Node) (forest : Forest) → AreNodes nodes forest → (n : ℕ) → parent forest n ≡ parent_of nodes n
parent_is nodes forest are n = ap (λ lists. owner_from 0 lists n) (sym are.children) ∙ owner_is 0 n nodes
