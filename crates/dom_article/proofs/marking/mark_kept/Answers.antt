use Rattle.std.proofs.Common.{◌∙◌, sym, subst, List, Bool}
use Rattle.dom_article.specs.Pruned.{HasMarkedParent}
use Rattle.dom_article.proofs.MarkLemmas.{among_gained, pruned_gained}
use Rattle.dom_article.proofs.ShownLemmas.{marked_above}
use Rattle.dom_article.proofs.marking.mark_kept.Goals as goal

pub loop-id-preserved-then-is_below_marked : goal.loop-id-preserved-then-is_below_marked
loop-id-preserved-then-is_below_marked c =
    let tree = c.args.tree.now in
    let marks = c.loop-id.kept.items in
    let new = c.mark-then-is_below_marked.new.marks.items in
    let n = c.in-Some.id in
    let above : HasMarkedParent tree marks n = subst (λ (ms : List Bool). HasMarkedParent tree ms n) c.deref.ensures.value (marked_above tree c.deref.result.now n (sym c.is_below_marked.ensures ∙ c.if-is_below_marked.true)) in (
      pruned_gained tree c.args.root marks new n c.forest_laws.ensures.lines c.loop-id.invariant.0 above c.mark-then-is_below_marked.ensures.gains,
      among_gained marks new c.args.shown.now n c.loop-id.invariant.1 (sym c.is_marked-else-not-is_marked-2.ensures ∙ c.if-not-is_marked-3.false) c.mark-then-is_below_marked.ensures.gains,
    )
