use Rattle.std.proofs.Common.{◌≡◌, ◌++◌}
use Rattle.std.specs.Prelude.{filter, not}
use Rattle.dom_nodes.specs.Kinds.{is_doctype}
use Rattle.dom_trees.specs.Views.{node_is}
use Rattle.dom_markup.specs.Fragments.{top_nodes}
use Rattle.dom_markup.proofs.document.snippet.top_nodes.Given as goal

-- those so far, and those of what is left
abbrev pub invariant-loop-id : goal.invariant-loop-id
invariant-loop-id l = l.top_ids ++ filter (λ n. not (node_is is_doctype l.tree n)) l.id-iterator ≡ top_nodes l.tree
