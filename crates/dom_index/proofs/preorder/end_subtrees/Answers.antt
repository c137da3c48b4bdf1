use Rattle.std.proofs.Common.{◌+◌, ◌∙◌, refl, sym, ap, subst, length, set, arith}
use Rattle.dom_links.specs.Forest.{parent, siblings}
use Rattle.dom_links.specs.Lists.{after}
use Rattle.dom_links.specs.Trees.{ancestors}
use Rattle.dom_links.specs.Walk.{IsWithin}
use Rattle.dom_index.specs.Orders.{AreSubtreeEnds}
use Rattle.dom_index.specs.Preorder.{above_it, run_on, run_past}
use Rattle.dom_index.proofs.TraversalLemmas.{aside, ended_now, ended_same, past_last, path_from, up_path, up_within}
use Rattle.dom_index.proofs.preorder.end_subtrees.Goals as goal

pub returns-then-is_some-clause-next : goal.returns-then-is_some-clause-next
returns-then-is_some-clause-next c =
    let forest = c.args.tree.now in
    let k = c.forest_laws.ensures in
    let link = c.get-next.ensures ∙ (c.node_at-node.ensures.next_is ∙ ap (λ f. after (siblings f c.in-Some.at) c.in-Some.at) c.nodes.ensures.value) in
    c.loop-ended.invariant.past ∙ (ap (λ o. run_past forest (path_from forest o)) c.in-Some.is ∙ (aside forest k.forest k.lines k.trees c.in-Some.at c.get-next.result link (sym c.if-is_some.ensures)).2)

pub returns-then-is_some-clause-ends : goal.returns-then-is_some-clause-ends
returns-then-is_some-clause-ends c =
    let forest = c.args.tree.now in
    let k = c.forest_laws.ensures in
    let at = c.in-Some.at in
    let last = c.args.last in
    let subtree_ends = c.loop-ended.subtree_ends.items in
    let link = c.get-next.ensures ∙ (c.node_at-node.ensures.next_is ∙ ap (λ f. after (siblings f at) at) c.nodes.ensures.value) in
    let step = aside forest k.forest k.lines k.trees at c.get-next.result link (sym c.if-is_some.ensures) in
    let known = subst (IsWithin forest) c.in-Some.is c.loop-ended.invariant.within in
    let ended = subst (λ o. AreSubtreeEnds forest (path_from forest o) (last + 1) (length (run_past forest (path_from forest o))) subtree_ends) c.in-Some.is c.loop-ended.invariant.ended in
    let written = ended_now forest c.order_laws.ensures.once c.order_laws.ensures.long (last + 1) subtree_ends at last refl (omega arith) known ended in
    record {
      within = step.0;
      ended = subst (λ n. AreSubtreeEnds forest (above_it forest c.get-next.result) (last + 1) (length (run_on forest c.get-next.result)) (set subtree_ends n last)) (sym c.value.ensures.number)
          (ended_same forest (ancestors forest at) (above_it forest c.get-next.result) (last + 1) _ _ (set subtree_ends at last) (sym step.1) (ap length step.2) written);
    }

pub loop-ended-preserved : goal.loop-ended-preserved
loop-ended-preserved c =
    let forest = c.args.tree.now in
    let k = c.forest_laws.ensures in
    let at = c.in-Some.at in
    let last = c.args.last in
    let subtree_ends = c.loop-ended.subtree_ends.items in
    let up = c.get-ended.ensures ∙ (c.node_at-node.ensures.parent_is ∙ ap (λ f. parent f at) c.nodes.ensures.value) in
    let link = c.get-next.ensures ∙ (c.node_at-node.ensures.next_is ∙ ap (λ f. after (siblings f at) at) c.nodes.ensures.value) in
    let path = up_path forest k.forest k.lines k.trees at c.get-ended.result up in
    let past = past_last forest k.forest k.lines k.trees at c.get-next.result link (sym c.if-is_some.ensures) ∙ ap (run_past forest) (sym path) in
    let known = subst (IsWithin forest) c.in-Some.is c.loop-ended.invariant.within in
    let ended = subst (λ o. AreSubtreeEnds forest (path_from forest o) (last + 1) (length (run_past forest (path_from forest o))) subtree_ends) c.in-Some.is c.loop-ended.invariant.ended in
    let written = ended_now forest c.order_laws.ensures.once c.order_laws.ensures.long (last + 1) subtree_ends at last refl (omega arith) known ended in
    record {
      within = up_within forest k.forest k.lines k.trees at c.get-ended.result up;
      past = c.loop-ended.invariant.past ∙ (ap (λ o. run_past forest (path_from forest o)) c.in-Some.is ∙ past);
      ended = subst (λ n. AreSubtreeEnds forest (path_from forest c.get-ended.result) (last + 1) (length (run_past forest (path_from forest c.get-ended.result))) (set subtree_ends n last)) (sym c.value.ensures.number)
          (ended_same forest (ancestors forest at) (path_from forest c.get-ended.result) (last + 1) _ _ (set subtree_ends at last) (sym path) (ap length past) written);
    }
