-- Elements among references.
use Rattle.std.proofs.Common.{ℕ, ◌≡◌, true, false, List, [], ◌∷◌, refl, ap, cond}
use Rattle.std.specs.Prelude.{Bool, filter}
use Rattle.std.specs.Borrow.{Bor}
use Rattle.dom_links.specs.Forest.{Forest}
use Rattle.dom_links.specs.ListMoves.{element_at}
use Rattle.dom_trees.specs.declared.node_ref.NodeRef.{NodeRef}
use Rattle.dom_trees.specs.Views.{refs_to}

-- the node that a reference names is an element
abbrev pub is_element_ref : NodeRef → Bool
is_element_ref child = element_at child.tree.now child.id

-- the references to elements are those to the numbers of elements
pub filter-refs : (tree : Bor Forest) (ids : List ℕ) → filter is_element_ref (refs_to tree ids) ≡ refs_to tree (filter (element_at tree.now) ids)
filter-refs tree [] = refl
filter-refs tree (n ∷ ids) =
    elim (element_at tree.now n) as (λ t. cond t (record { id = n; tree = tree } ∷ filter is_element_ref (refs_to tree ids)) (filter is_element_ref (refs_to tree ids))
    ≡ refs_to tree (cond t (n ∷ filter (element_at tree.now) ids) (filter (element_at tree.now) ids))) [
      | true ↦ ap (λ refs. record { id = n; tree = tree } ∷ refs) (filter-refs tree ids)
      | false ↦ filter-refs tree ids
    ]
