use Rattle.std.proofs.Common.{◌≡◌, length, false}
use Rattle.std.specs.Prelude.{find}
use Rattle.dom_links.specs.Forest.{forest_of}
use Rattle.dom_links.specs.Walk.{row_on}
use Rattle.dom_trees.specs.Views.{child_named, has_local_name}
use Rattle.dom_mini.proofs.traversal.Traversal.find_child_element_by_name.Given as goal

abbrev pub invariant-loop-next : goal.invariant-loop-next
invariant-loop-next l = find (λ child. has_local_name (forest_of l.nodes) child l.name) (row_on (forest_of l.nodes) false l.next) ≡ child_named (forest_of l.nodes) l.fn.id l.name

abbrev pub decreases-loop-next : goal.decreases-loop-next
decreases-loop-next l = length (row_on (forest_of l.nodes) false l.next)
