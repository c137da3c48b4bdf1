use Rattle.std.proofs.Common.{◌∙◌, ap, None, reverse, List}
use Rattle.dom_trees.specs.declared.node_ref.NodeRef.{NodeRef}
use Rattle.dom_selection.specs.Selections.{child_elements, element_after, element_before, elements_above, first_alone, ids_of, parent_node}
use Rattle.dom_query.proofs.QueryLemmas.{last-numbers, traversed-from}
use Rattle.dom_query.proofs.runner.query.traverse.Goals as goal

pub returns-in-Parent : goal.returns-in-Parent
returns-in-Parent c = rw c.in-Parent.is (traversed-from parent_node c.args.tree c.args.selection.now c.in_ok-from.from c.parent.result c.in_ok-from.ensures c.parent.ensures)

pub returns-in-Children : goal.returns-in-Children
returns-in-Children c = rw c.in-Children.is (traversed-from child_elements c.args.tree c.args.selection.now c.in_ok-from.from c.children.result c.in_ok-from.ensures c.children.ensures)

pub returns-in-Ancestors : goal.returns-in-Ancestors
returns-in-Ancestors c = rw c.in-Ancestors.is (traversed-from (elements_above None) c.args.tree c.args.selection.now c.in_ok-from.from c.ancestors.result c.in_ok-from.ensures c.ancestors.ensures)

pub returns-in-Next : goal.returns-in-Next
returns-in-Next c = rw c.in-Next.is (traversed-from element_after c.args.tree c.args.selection.now c.in_ok-from.from c.next_sibling.result c.in_ok-from.ensures c.next_sibling.ensures)

pub returns-in-Prev : goal.returns-in-Prev
returns-in-Prev c = rw c.in-Prev.is (traversed-from element_before c.args.tree c.args.selection.now c.in_ok-from.from c.prev_sibling.result c.in_ok-from.ensures c.prev_sibling.ensures)

pub returns : goal.returns
returns c =
    rw c.in-Last.is (ap ids_of c.last.ensures ∙ ap (λ (nodes : List NodeRef). ids_of (first_alone (reverse nodes))) c.in_ok-from.ensures ∙ last-numbers c.args.tree c.args.selection.now)
