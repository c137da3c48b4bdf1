-- Nodes of one tree.
use Rattle.std.proofs.Common.{ℕ, ◌≡◌, List, [], ◌∷◌, ◌++◌, refl, ap, sym, ◌∙◌, subst}
use Rattle.std.specs.Prelude.{map}
use Rattle.std.proofs.Common.{◌<◌, ◌≤◌, length, get_or, take, drop, arith, append-nil}
use Rattle.std.proofs.lemmas.List.{take_all, drop_all}
use Rattle.std.specs.Borrow.{Bor}
use Rattle.dom_links.specs.Forest.{Forest}
use Rattle.dom_trees.specs.declared.node_ref.NodeRef.{NodeRef}
use Rattle.dom_trees.specs.Views.{refs_to}
use Rattle.dom_selection.specs.Selections.{HasOneTree, ids_of, in_one_tree}

-- the numbers of references to numbers are these
pub ids_of-refs_to : (tree : Bor Forest) (ids : List ℕ) → ids_of (refs_to tree ids) ≡ ids
ids_of-refs_to tree [] = refl
ids_of-refs_to tree (n ∷ ns) = ap (λ ms. n ∷ ms) (ids_of-refs_to tree ns)

-- references to nodes of one tree are of one tree
pub one_tree : (tree : Bor Forest) (ids : List ℕ) → HasOneTree (refs_to tree ids)
one_tree tree [] = tt
one_tree tree (n ∷ ns) = ap (refs_to tree) (sym (ids_of-refs_to tree (n ∷ ns)))

pub one_tree_of : (nodes : List NodeRef) (tree : Bor Forest) (ids : List ℕ) → nodes ≡ refs_to tree ids → HasOneTree nodes
one_tree_of nodes tree ids e = subst HasOneTree (sym e) (one_tree tree ids)

pub one_tree_in : (nodes : List NodeRef) → HasOneTree (in_one_tree nodes)
one_tree_in [] = tt
one_tree_in (node ∷ nodes) = one_tree node.tree (ids_of (node ∷ nodes))

-- the node of that number in the tree of the first of some nodes
abbrev pub in_tree_of : List NodeRef → NodeRef → NodeRef
in_tree_of [] node = node
in_tree_of (first ∷ nodes) node = record { id = node.id; tree = first.tree }

-- a node is put into the tree of the first
pub in_first_tree : (nodes : List NodeRef) (first node : NodeRef) → 0 < length nodes → first ≡ get_or nodes 0 first → record { id = node.id; tree = first.tree } ≡ in_tree_of nodes node
in_first_tree [] first node some is = absurd (omega (arith, some))
in_first_tree (x ∷ nodes) first node some is = ap (λ (f : NodeRef). record { id = node.id; tree = f.tree }) is

map_in_tree : (first : NodeRef) (nodes all : List NodeRef) → map (in_tree_of (first ∷ all)) nodes ≡ refs_to first.tree (ids_of nodes)
map_in_tree first [] all = refl
map_in_tree first (node ∷ nodes) all = ap (λ refs. record { id = node.id; tree = first.tree } ∷ refs) (map_in_tree first nodes all)

-- all were put into the tree of the first
pub all_in_tree : (nodes now : List NodeRef) (i : ℕ) → length nodes ≤ i → now ≡ map (in_tree_of nodes) (take i nodes) ++ drop i nodes → now ≡ in_one_tree nodes
all_in_tree nodes now i past is =
    is ∙ ap (λ ns. map (in_tree_of nodes) ns ++ drop i nodes) (take_all i nodes past) ∙ ap (λ ns. map (in_tree_of nodes) nodes ++ ns) (drop_all i nodes past)
    ∙ append-nil (map (in_tree_of nodes) nodes) ∙ whole nodes
  where
    whole : (nodes : List NodeRef) → map (in_tree_of nodes) nodes ≡ in_one_tree nodes
    whole [] = refl
    whole (node ∷ nodes) = map_in_tree node (node ∷ nodes) nodes
