use Rattle.std.proofs.Common.{◌∙◌, sym, subst, List, Bool}
use Rattle.dom_article.specs.Pruned.{HasMarkedParent}
use Rattle.dom_article.proofs.MarkLemmas.{hidden_gained, not_hidden}
use Rattle.dom_article.proofs.ShownLemmas.{marked_above}
use Rattle.dom_article.proofs.marking.mark_shown.Goals as goal

pub loop-id-preserved-then-is_below_marked : goal.loop-id-preserved-then-is_below_marked
loop-id-preserved-then-is_below_marked c =
    let tree = c.args.tree.now in
    let marks = c.loop-id.shown.items in
    let n = c.in-Some.id in
    let above : HasMarkedParent tree marks n = subst (λ (ms : List Bool). HasMarkedParent tree ms n) c.deref.ensures.value (marked_above tree c.deref.result.now n (sym c.is_below_marked.ensures ∙ c.if-is_below_marked.true)) in
    hidden_gained tree marks c.mark-then-is_below_marked.new.marks.items n c.loop-id.invariant
    (not_hidden tree marks n c.loop-id.invariant (sym c.is_hidden_at-else-not-is_marked.ensures ∙ c.if-is_hidden_at-2.false) above)
    c.mark-then-is_below_marked.ensures.gains
