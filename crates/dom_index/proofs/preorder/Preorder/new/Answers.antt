use Rattle.std.proofs.Common.{◌∙◌, sym, subst}
use Rattle.dom_index.specs.Orders.{AreSpans, IsOrder}
use Rattle.dom_index.proofs.TraversalLemmas.{whole_above, whole_names, whole_order, whole_places, whole_spans}
use Rattle.dom_index.proofs.preorder.Preorder.new.Goals as goal

pub invariant_of-result-clause-is_preorder : goal.invariant_of-result-clause-is_preorder
invariant_of-result-clause-is_preorder c = let s = c.in_ok-traversal.ensures in whole_order c.args.tree.now c.in_ok-traversal.traversal s.traversed (s.visited ∙ c.order_laws.ensures.long) c.order_laws.ensures.long

pub invariant_of-result-clause-parents_given : goal.invariant_of-result-clause-parents_given
invariant_of-result-clause-parents_given c = let s = c.in_ok-traversal.ensures in whole_above c.args.tree.now c.in_ok-traversal.traversal s.traversed (s.visited ∙ c.order_laws.ensures.long) c.order_laws.ensures.long

pub invariant_of-result-clause-ordered : goal.invariant_of-result-clause-ordered
invariant_of-result-clause-ordered c =
    let forest = c.args.tree.now in
    let traversal = c.in_ok-traversal.traversal in
    let s = c.in_ok-traversal.ensures in
    subst (λ o. IsOrder forest o traversal.places.items) (sym (whole_order forest traversal s.traversed (s.visited ∙ c.order_laws.ensures.long) c.order_laws.ensures.long))
    (c.order_laws.ensures.order traversal.places.items (whole_places forest traversal s.traversed (s.visited ∙ c.order_laws.ensures.long) c.order_laws.ensures.long))

pub invariant_of-result-clause-spans : goal.invariant_of-result-clause-spans
invariant_of-result-clause-spans c =
    let forest = c.args.tree.now in
    let traversal = c.in_ok-traversal.traversal in
    let s = c.in_ok-traversal.ensures in
    let k = c.forest_laws.ensures in
    let order = c.order_laws.ensures.order traversal.places.items (whole_places forest traversal s.traversed (s.visited ∙ c.order_laws.ensures.long) c.order_laws.ensures.long) in
    subst (λ o. AreSpans forest o traversal.places.items traversal.subtree_ends.items) (sym (whole_order forest traversal s.traversed (s.visited ∙ c.order_laws.ensures.long) c.order_laws.ensures.long))
    (whole_spans forest traversal s.traversed (s.visited ∙ c.order_laws.ensures.long) c.order_laws.ensures.long k.forest k.lines k.trees order s.ended)

pub invariant_of-result-clause-named : goal.invariant_of-result-clause-named
invariant_of-result-clause-named c = let s = c.in_ok-traversal.ensures in whole_names c.args.tree.now c.in_ok-traversal.traversal s.traversed (s.visited ∙ c.order_laws.ensures.long) c.order_laws.ensures.long c.order_laws.ensures.all
