use Rattle.std.proofs.Common.{◌+◌, ◌∷◌, ◌∙◌, refl, sym, ap, subst, length}
use Rattle.dom_links.specs.Trees.{ancestors}
use Rattle.dom_index.specs.Orders.{AreSubtreeEnds}
use Rattle.dom_index.specs.Preorder.{above_it, run_on, run_past}
use Rattle.dom_index.proofs.TraversalLemmas.{at_leaf, down, ended_same, met_now, run_cut}
use Rattle.dom_index.proofs.preorder.visit_next.Goals as goal

pub returns-then-is_some-clause-steps : goal.returns-then-is_some-clause-steps
returns-then-is_some-clause-steps c =
    let k = c.forest_laws.ensures in
    (down c.args.tree.now k.forest k.lines k.trees c.args.id c.visit-first.result c.requires.known c.visit-first.ensures.first (sym c.if-is_some.ensures)).2

pub returns-then-is_some-clause-ends : goal.returns-then-is_some-clause-ends
returns-then-is_some-clause-ends c =
    let forest = c.args.tree.now in
    let k = c.forest_laws.ensures in
    let old = c.args.traversal.now in
    let n = c.args.id in
    let child = c.visit-first.result in
    let step = down forest k.forest k.lines k.trees n child c.requires.known c.visit-first.ensures.first (sym c.if-is_some.ensures) in
    let visited = met_now forest c.order_laws.ensures.once c.order_laws.ensures.long old.visited old.subtree_ends.items n (length (run_on forest child)) (run_cut forest k.forest k.lines k.trees n c.requires.known) c.requires.next c.requires.ended (sym (ap length step.2)) in
    let here = ended_same forest (n ∷ ancestors forest n) (above_it forest child) (old.visited + 1) _ (length (run_on forest child)) old.subtree_ends.items (sym step.1) refl visited in
    record {
      within = step.0;
      ended = subst (λ subtree_ends. AreSubtreeEnds forest (above_it forest child) c.visit-first.new.self.visited (length (run_on forest child)) subtree_ends) (ap (λ v. v.items) (sym c.visit-first.ensures.kept))
          (subst (λ m. AreSubtreeEnds forest (above_it forest child) m (length (run_on forest child)) old.subtree_ends.items) (sym c.visit-first.ensures.visited) here);
    }

pub end_subtrees-requires-clause-ended : goal.end_subtrees-requires-clause-ended
end_subtrees-requires-clause-ended c =
    let forest = c.args.tree.now in
    let k = c.forest_laws.ensures in
    let old = c.args.traversal.now in
    let n = c.args.id in
    let leaf = at_leaf forest k.forest k.lines k.trees n c.visit-first.result c.requires.known c.visit-first.ensures.first (sym c.if-is_some.ensures) in
    let visited = met_now forest c.order_laws.ensures.once c.order_laws.ensures.long old.visited old.subtree_ends.items n (length (run_past forest (n ∷ ancestors forest n))) (run_cut forest k.forest k.lines k.trees n c.requires.known) c.requires.next c.requires.ended (sym (ap length leaf)) in
    subst (λ subtree_ends. AreSubtreeEnds forest (n ∷ ancestors forest n) (old.visited + 1) (length (run_past forest (n ∷ ancestors forest n))) subtree_ends) (ap (λ v. v.items) (sym c.visit-first.ensures.kept)) visited

pub returns-clause-steps : goal.returns-clause-steps
returns-clause-steps c =
    let k = c.forest_laws.ensures in
    at_leaf c.args.tree.now k.forest k.lines k.trees c.args.id c.visit-first.result c.requires.known c.visit-first.ensures.first (sym c.if-is_some.ensures) ∙ ap (λ ns. c.args.id ∷ ns) c.end_subtrees.ensures.next
