use Rattle.std.proofs.Common.{ℕ, Option, length, false}
use Rattle.std.specs.Fn.{FnReturnsAt}
use Rattle.dom_links.specs.Forest.{forest_of}
use Rattle.dom_links.specs.Walk.{row_on}
use Rattle.dom_mini.specs.Traversals.{FindsChild, FindsFirst}
use Rattle.dom_mini.proofs.traversal.Traversal.find_child_element.Given as goal

-- what is found among those left is found among all
abbrev pub invariant-loop-next : goal.invariant-loop-next
invariant-loop-next g l =
    (found : Option ℕ) → FindsFirst (FnReturnsAt g.F.Fn l.f) (forest_of l.nodes) (row_on (forest_of l.nodes) false l.next) found → FindsChild (FnReturnsAt g.F.Fn l.f) (forest_of l.nodes) l.fn.id found

abbrev pub decreases-loop-next : goal.decreases-loop-next
decreases-loop-next g l = length (row_on (forest_of l.nodes) false l.next)
