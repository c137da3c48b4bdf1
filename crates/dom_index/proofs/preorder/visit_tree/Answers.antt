use Rattle.std.proofs.Common.{◌≡◌, ◌<◌, ◌+◌, ◌∙◌, false, ap, sym, subst, length, arith}
use Rattle.std.proofs.lemmas.List.{get_or_read}
use Rattle.dom_index.specs.Orders.{HasVisitedTo}
use Rattle.dom_index.specs.Preorder.{starts_run}
use Rattle.dom_index.proofs.TraversalLemmas.{met_before, none_more}
use Rattle.dom_index.proofs.preorder.visit_tree.Goals as goal
use Rattle.dom_index.proofs.preorder.visit_tree.Goals.{then-starts_run+else-traversal-len, else-starts_run}

pub loop-n-preserved-then-index : goal.loop-n-preserved-then-index
loop-n-preserved-then-index c =
    let forest = c.args.tree.now in
    let n = c.loop-n.n in
    let traversal = c.loop-n.traversal in
    let traversed = c.loop-n.invariant.traversed in
    let byte = get_or_read traversal.type_bytes.items n _ (omega (arith, traversed.type_bytes_long)) c.index.ensures 0 in
    let known : n < length forest.content = omega arith in
    let before = traversed.unvisited n known (λ e. omega (arith, byte, c.if-index.true)) in
    let none : starts_run forest n ≡ false = c.started_laws.ensures n known (met_before forest n before.0 known (subst (λ m. before.0 < m) c.loop-n.invariant.visited before.1) before.2) in
    none_more forest n traversal none c.loop-n.invariant

pub loop-n-preserved : goal.loop-n-preserved
loop-n-preserved c =
    let forest = c.args.tree.now in
    let n = c.loop-n.n in
    elim c.if-starts_run.branch [
      | then-starts_run+else-traversal-len w ↦ subst (λ m. HasVisitedTo forest (m + 1) c.if-starts_run.traversal) c.numbered-id.ensures (subst (HasVisitedTo forest (c.numbered-id.result + 1)) (sym w.traversal-is) w.visit_run.ensures)
      | else-starts_run w ↦ (let none : starts_run forest n ≡ false = ap (starts_run forest) (sym c.numbered-id.ensures) ∙ (sym c.starts_run.ensures ∙ w.if-starts_run.false) in
          subst (HasVisitedTo forest (n + 1)) (sym w.traversal-is) (none_more forest n c.loop-n.traversal none c.loop-n.invariant))
    ]
