use Rattle.std.proofs.Common.{ℕ, suc, Some, ◌≡◌, ◌<◌, ◌+◌, ◌++◌, ◌∙◌, sym, ap, subst, length, drop, arith}
use Rattle.dom_links.specs.Walk.{IsWithin}
use Rattle.dom_index.specs.Orders.{AreEndsBefore, AreSubtreeEnds}
use Rattle.dom_index.specs.Preorder.{above_it, preorder, run_on}
use Rattle.dom_index.proofs.TraversalLemmas.{ended_afresh, goes_on, run_begins, run_cut}
use Rattle.dom_index.proofs.preorder.visit_run.Goals as goal

pub loop-next-init : goal.loop-next-init
loop-next-init c =
    let forest = c.args.tree.now in
    let b = run_begins forest c.args.first c.forest_laws.ensures.lines c.requires.known c.requires.starts in
    record {
      left = (b.rest, ap (λ k. drop k (preorder forest)) c.requires.before.visited ∙ b.cut);
      counted = ap (λ k. k + length (run_on forest (Some c.args.first))) c.requires.before.visited ∙ b.counted;
      traversed = c.requires.before.traversed;
      ends = record {
        within = c.requires.known;
        ended = ended_afresh forest _ c.args.traversal.now.visited 0 (length (run_on forest (Some c.args.first))) c.args.traversal.now.subtree_ends.items b.top c.requires.before.ended;
      };
    }

pub visit_next-follower-requires : goal.visit_next-follower-requires
visit_next-follower-requires c =
    let forest = c.args.tree.now in
    let k = c.forest_laws.ensures in
    let visited = c.loop-next.traversal.visited in
    let left = c.loop-next.invariant.left in
    let known = subst (IsWithin forest) c.in-Some.is c.loop-next.invariant.ends.within in
    let on = goes_on forest visited c.in-Some.at c.loop-next.next left.0 _ c.in-Some.is (run_cut forest k.forest k.lines k.trees c.in-Some.at known) left.1 in
    record {
      known = known;
      room = subst (λ (m : ℕ). visited < m) c.order_laws.ensures.long on.0;
      next = on.1;
      traversed = c.loop-next.invariant.traversed;
      ended = subst (λ o. AreSubtreeEnds forest (above_it forest o) visited (length (run_on forest o)) c.loop-next.traversal.subtree_ends.items) c.in-Some.is c.loop-next.invariant.ends.ended;
    }

pub loop-next-smaller : goal.loop-next-smaller
loop-next-smaller c =
    let forest = c.args.tree.now in
    let steps = ap length c.visit_next-follower.ensures.steps in
    let here = ap (λ o. length (run_on forest o)) c.in-Some.is in
    let same = ap (λ o. length (run_on forest o)) c.predict_next-next.ensures in
    omega arith

pub loop-next-preserved : goal.loop-next-preserved
loop-next-preserved c =
    let forest = c.args.tree.now in
    let new = c.visit_next-follower.new.traversal in
    let next = c.visit_next-follower.result in
    let visited = c.loop-next.traversal.visited in
    let left = c.loop-next.invariant.left in
    let visit_next = c.visit_next-follower.ensures in
    let is = c.predict_next-next.ensures in
    let on = goes_on forest visited c.in-Some.at c.loop-next.next left.0 (run_on forest next) c.in-Some.is visit_next.steps left.1 in
    let one : new.visited ≡ suc visited = visit_next.visited ∙ omega arith in
    let steps = ap length visit_next.steps in
    let here = ap (λ o. length (run_on forest o)) c.in-Some.is in
    let same = ap (λ o. length (run_on forest o)) is in
    let counted = c.loop-next.invariant.counted in
    record {
      left = (left.0, ap (λ k. drop k (preorder forest)) one ∙ (on.2 ∙ ap (λ o. run_on forest o ++ left.0) (sym is)));
      counted = omega arith;
      traversed = visit_next.traversed;
      ends = subst (λ o. AreEndsBefore forest o new.visited new.subtree_ends.items) (sym is) visit_next.ends;
    }
