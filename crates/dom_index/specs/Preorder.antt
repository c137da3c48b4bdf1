-- The preorder of all nodes of a forest. Sibling lists without a parent come in the order of the ids of their first nodes, and
-- each node comes before its children.
use Rattle.std.specs.Prelude.{ℕ, zero, suc, ◌+◌, ◌==◌, ◌&&◌, Bool, false, List, [], ◌∷◌, ◌++◌, Option, Some, None, length, if◌then◌else◌}
use Rattle.std.specs.List.{flat_map}
use Rattle.std.specs.Option.{is_none, option_map}
use Rattle.dom_links.specs.Forest.{Forest, parent, siblings}
use Rattle.dom_links.specs.Lists.{before}
use Rattle.dom_links.specs.Trees.{ancestors, trees, walk}
use Rattle.dom_links.specs.Walk.{later}

-- `n` is the first of a list of siblings without a parent
abbrev pub starts_run : Forest → ℕ → Bool
starts_run forest n = is_none (parent forest n) && is_none (before (siblings forest n) n)

-- `n` and its descendants, and then each later sibling and its descendants
abbrev pub walk_from : Forest → ℕ → List ℕ
walk_from forest n = walk (trees forest (n ∷ later forest false n))

-- the traversals of the sibling lists whose first nodes have ids below this one
abbrev pub preorder_to : Forest → ℕ → List ℕ
preorder_to forest zero = []
preorder_to forest (suc n) = preorder_to forest n ++ (if starts_run forest n then walk_from forest n else [])

abbrev pub preorder : Forest → List ℕ
preorder forest = preorder_to forest (length forest.content)

-- the traversals of the later siblings of these nodes
abbrev pub run_past : Forest → List ℕ → List ℕ
run_past forest ns = flat_map (λ n. walk (trees forest (later forest false n))) ns

-- What a traversal still visits from a node on: the node, its later siblings, then the later siblings of each ancestor, all with
-- their descendants.
abbrev pub run_on : Forest → Option ℕ → List ℕ
run_on forest None = []
run_on forest (Some n) = walk_from forest n ++ run_past forest (ancestors forest n)

-- the ancestors of a node, if there is one
abbrev pub above_it : Forest → Option ℕ → List ℕ
above_it forest None = []
above_it forest (Some n) = ancestors forest n

-- the position of the first occurrence of an id in a list, counted from 0
abbrev pub place_in : List ℕ → ℕ → Option ℕ
place_in [] n = None
place_in (m ∷ ms) n = if m == n then Some 0 else option_map (λ i. i + 1) (place_in ms n)

-- the position of a node in the preorder
abbrev pub position : Forest → ℕ → Option ℕ
position forest n = place_in (preorder forest) n
