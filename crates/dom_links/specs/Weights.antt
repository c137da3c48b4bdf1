-- An upper bound for the steps of a pass over trees that enters and leaves each node.
use Rattle.std.specs.Prelude.{ℕ, ◌+◌}
use Rattle.dom_links.specs.Trees.{Trees, NoTrees, Tree}

-- Two steps for each node, template contents included.
abbrev pub trees_weight : Trees → ℕ
trees_weight NoTrees = 0
trees_weight (Tree n contents children later) = 2 + trees_weight contents + trees_weight children + trees_weight later
