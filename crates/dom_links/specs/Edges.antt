-- A traversal that visits each node twice, before and after everything inside it.
use Rattle.std.specs.Prelude.{◌≡◌, ℕ, Bool, false, List, [], ◌∷◌, ◌++◌, Option, Some, None, Result, OnOk, reverse, slice_get, if◌then◌else◌}
use Rattle.std.specs.List.{flat_map}
use Rattle.std.specs.Option.{option_map_or}
use Rattle.dom_nodes.specs.declared.node_data.NodeData.{NodeData}
use Rattle.dom_links.specs.declared.edges.Edge.{Edge}
use Rattle.dom_links.specs.declared.edges.Edge.TheVariants.{Open, Close}
use Rattle.dom_links.specs.declared.edges.Entered.{Entered}
use Rattle.dom_links.specs.declared.edges.Entered.TheVariants.{Nothing, Children, All}
use Rattle.dom_links.specs.declared.edges.Entry.{Entry}
use Rattle.dom_links.specs.declared.edges.Entry.TheVariants.{Row, End}
use Rattle.dom_links.specs.Forest.{Forest, children_of, parent}
use Rattle.dom_links.specs.Trees.{Trees, NoTrees, Tree, contents_list, trees}
use Rattle.dom_links.specs.Walk.{row_on}

-- The steps after entering node n, from those of its template contents and of its children.
abbrev pub edges_inside : ℕ → Entered → (contents children : List Edge) → List Edge
edges_inside n Nothing contents children = []
edges_inside n Children contents children = children ++ Close n ∷ []
edges_inside n All contents children = contents ++ (children ++ Close n ∷ [])

-- What a traversal visits inside a node, and the mark that the node hands to its children.
pub record Descending : Type 0 where
  pub inside : NodeData → Entered
  pub mark : NodeData → Bool

-- The steps of trees, one tree after another. The roots have this mark.
abbrev pub edges : Descending → Forest → Bool → Trees → List Edge
edges d forest marked NoTrees = []
edges d forest marked (Tree n contents children later) =
    Open n marked ∷ (option_map_or (λ content. edges_inside n (d.inside content) (edges d forest false contents) (edges d forest (d.mark content) children)) (slice_get forest.content n) []
    ++ edges d forest marked later)

-- The mark that the children of a node get.
abbrev pub mark_below : Descending → Forest → ℕ → Bool
mark_below d forest n = option_map_or d.mark (slice_get forest.content n) false

-- The mark that a node has: what its parent hands down, or false without a parent.
abbrev pub mark_of : Descending → Forest → ℕ → Bool
mark_of d forest n = option_map_or (mark_below d forest) (parent forest n) false

-- The steps of a node with everything inside it. For an unknown id the only step is the opening.
abbrev pub node_edges : Descending → Forest → ℕ → List Edge
node_edges d forest n = edges d forest (mark_of d forest n) (trees forest (n ∷ []))

-- The steps of the children of a node.
abbrev pub child_edges : Descending → Forest → ℕ → List Edge
child_edges d forest n = edges d forest (mark_below d forest n) (trees forest (children_of forest n))

-- ---- The stack of a traversal: what is still to come.

-- A node alone, or with its later siblings.
abbrev pub roots : Forest → (alone : Bool) → Option ℕ → List ℕ
roots forest alone first = if alone then listed first else row_on forest false first
  where
    listed : Option ℕ → List ℕ
    listed None = []
    listed (Some n) = n ∷ []

-- The steps of a node, alone or with its later siblings; none without a node.
abbrev pub row_edges : Descending → Forest → (marked alone : Bool) → Option ℕ → List Edge
row_edges d forest marked alone first = edges d forest marked (trees forest (roots forest alone first))

-- The steps of an entry of the stack.
abbrev pub entry_edges : Descending → Forest → Entry → List Edge
entry_edges d forest (Row first marked alone) = row_edges d forest marked alone (Some first)
entry_edges d forest (End id) = Close id ∷ []

-- The steps of the whole stack. The top of the stack, the last entry, comes first.
abbrev pub edges_ahead : Descending → Forest → List Entry → List Edge
edges_ahead d forest entries = flat_map (entry_edges d forest) (reverse entries)

-- On success, these steps were pushed on the stack and come first now.
abbrev pub Pushes : {T E : Type 0} → Result T E → Descending → Forest → (old new : List Entry) → List Edge → Type 0
Pushes result d forest old new es = OnOk result (edges_ahead d forest new ≡ es ++ edges_ahead d forest old)

-- The steps of the children of node n, which has this data, and the step that leaves n.
abbrev pub inner_edges : Descending → Forest → ℕ → NodeData → List Edge
inner_edges d forest n content = edges d forest (d.mark content) (trees forest (children_of forest n)) ++ Close n ∷ []

-- The steps after entering node n, which has this data, up to its later siblings.
abbrev pub content_edges : Descending → Forest → ℕ → NodeData → List Edge
content_edges d forest n content = edges_inside n (d.inside content) (edges d forest false (trees forest (contents_list forest n))) (edges d forest (d.mark content) (trees forest (children_of forest n)))
