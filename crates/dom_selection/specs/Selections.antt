-- Lists of nodes of one tree, and the operations on selections.
use Rattle.std.specs.Prelude.{ℕ, ◌≡◌, ◌==◌, Bool, List, [], ◌∷◌, ◌++◌, Option, Some, None, MatchOption, Result, IfOk, IfSome, String, filter, find, map, string_bytes}
use Rattle.std.specs.Prelude.{false, true}
use Rattle.std.specs.Option.{option_to_list}
use Rattle.std.specs.Borrow.{Bor}
use Rattle.std.specs.List.{flat_map, list_any}
use Rattle.dom_nodes.specs.declared.fault.OutOfMemory.{OutOfMemory}
use Rattle.dom_links.specs.Forest.{Forest, children_of, parent}
use Rattle.dom_links.specs.ListMoves.{element_at}
use Rattle.dom_links.specs.Lists.{is_member, without}
use Rattle.dom_links.specs.Trees.{ancestors, limited}
use Rattle.dom_links.specs.Walk.{later}
use Rattle.dom_trees.specs.declared.node_ref.NodeRef.{NodeRef}
use Rattle.dom_trees.specs.Views.{node_attr, refs_to}
use Rattle.dom_select.specs.Selected.{first_occurrences}

-- The ids of the nodes.
abbrev pub ids_of : List NodeRef → List ℕ
ids_of nodes = map (λ node. node.id) nodes

-- The tree of the first node.
abbrev pub tree_of : List NodeRef → Option (Bor Forest)
tree_of [] = None
tree_of (node ∷ nodes) = Some node.tree

-- All nodes are of the same tree.
abbrev pub HasOneTree : List NodeRef → Type 0
HasOneTree nodes = IfSome (tree_of nodes) (λ tree. nodes ≡ refs_to tree (ids_of nodes))

-- The nodes with these ids, all in the tree of the first one.
abbrev pub in_one_tree : List NodeRef → List NodeRef
in_one_tree [] = []
in_one_tree (node ∷ nodes) = refs_to node.tree (ids_of (node ∷ nodes))

-- The answer for the first node, or the default for an empty list.
abbrev pub at_first : {A : Type 0} → (Forest → ℕ → A) → A → List NodeRef → A
at_first answer default [] = default
at_first answer default (node ∷ nodes) = answer node.tree.now node.id

-- There is a first node, and this is the text that the answer gives for it.
abbrev pub IsOfFirst : List ℕ → (Forest → ℕ → List ℕ) → List NodeRef → Type 0
IsOfFirst text answer [] = ⊥
IsOfFirst text answer (node ∷ nodes) = text ≡ answer node.tree.now node.id

-- The text that the answer gives for the first node; none for an empty list.
abbrev pub IsTextOfFirst : {A : Type 0} → (Forest → ℕ → List ℕ) → List NodeRef → Option (String A) → Type 0
IsTextOfFirst answer nodes found = MatchOption found (nodes ≡ []) (λ text. IsOfFirst (string_bytes text) answer nodes)

-- The value of the first node's first attribute with this local name.
abbrev pub attr_of_first : List ℕ → List NodeRef → Option (List ℕ)
attr_of_first name nodes = at_first (λ forest n. node_attr forest n name) None nodes

-- The first node as a list; the empty list if there is none.
abbrev pub first_alone : List NodeRef → List NodeRef
first_alone [] = []
first_alone (node ∷ nodes) = node ∷ []

-- Each node as a list of its own.
abbrev pub each_alone : List NodeRef → List (List NodeRef)
each_alone nodes = map (λ node. node ∷ []) nodes

-- Whether `holds` is true of some node.
abbrev pub some_node : (Forest → ℕ → Bool) → List NodeRef → Bool
some_node holds nodes = list_any (λ node. holds node.tree.now node.id) nodes

-- The texts of the nodes, joined.
abbrev pub joined : (Forest → ℕ → List ℕ) → List NodeRef → List ℕ
joined text nodes = flat_map (λ node. text node.tree.now node.id) nodes

-- The parent of a node, of any kind.
abbrev pub parent_node : Forest → ℕ → List ℕ
parent_node forest n = option_to_list (parent forest n)

-- The children of a node that are elements.
abbrev pub child_elements : Forest → ℕ → List ℕ
child_elements forest n = filter (element_at forest) (children_of forest n)

-- The ancestors of a node that are elements, among the nearest `most`.
abbrev pub elements_above : Option ℕ → Forest → ℕ → List ℕ
elements_above most forest n = filter (element_at forest) (limited most (ancestors forest n))

-- The nearest element among the siblings after a node.
abbrev pub element_after : Forest → ℕ → List ℕ
element_after forest n = option_to_list (find (element_at forest) (later forest false n))

-- The nearest element among the siblings before a node.
abbrev pub element_before : Forest → ℕ → List ℕ
element_before forest n = option_to_list (find (element_at forest) (later forest true n))

-- The nodes to which the step leads from each node, one after another, each once.
abbrev pub gathered : (Forest → ℕ → List ℕ) → List NodeRef → List NodeRef
gathered step [] = []
gathered step (node ∷ nodes) = refs_to node.tree (first_occurrences [] (flat_map (step node.tree.now) (ids_of (node ∷ nodes))))

-- The nodes whose ids are in the other list too; all nodes if that list is empty.
abbrev pub common : List NodeRef → List NodeRef → List NodeRef
common nodes [] = nodes
common nodes (other ∷ others) = filter (λ node. is_member node.id (ids_of (other ∷ others))) nodes

-- The nodes with these ids, in the tree of the first node of a list.
abbrev pub refs_in : List NodeRef → List ℕ → List NodeRef
refs_in [] ids = []
refs_in (node ∷ nodes) ids = refs_to node.tree ids

-- The nodes, then those of the other list whose ids aren't among them; the other list if there are
-- no nodes.
abbrev pub added : List NodeRef → List NodeRef → List NodeRef
added [] others = others
added (node ∷ nodes) others = (node ∷ nodes) ++ refs_in (node ∷ nodes) (without (ids_of (node ∷ nodes)) (ids_of others))

-- Whether the node has the id n.
abbrev pub has_number : ℕ → NodeRef → Bool
has_number n node = node.id == n

-- Whether some id is in both lists.
abbrev pub have_common : List NodeRef → List NodeRef → Bool
have_common nodes others = list_any (λ node. is_member node.id (ids_of others)) nodes

-- On success, the result is these nodes.
abbrev pub Lists : Result (List NodeRef) OutOfMemory → List NodeRef → Type 0
Lists result nodes = IfOk result (λ found. found ≡ nodes)
