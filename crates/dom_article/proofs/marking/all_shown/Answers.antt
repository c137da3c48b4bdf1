use Rattle.std.proofs.Common.{ℕ, List, Bool, sym, subst}
use Rattle.dom_article.proofs.ShownLemmas.{Visited, visits}
use Rattle.dom_article.proofs.marking.all_shown.Goals as goal

pub loop-id-preserved : goal.loop-id-preserved
loop-id-preserved c =
    let tree = c.args.tree.now in
    let marks = c.loop-id.shown.items in
    let left = c.next.new.self.left in
    subst (λ (ms : List Bool). Visited tree left ms) (sym c.mark_if_shown.ensures)
    (visits tree c.in-Some.id left marks c.forest_laws.ensures.forest c.forest_laws.ensures.lines (subst (λ (ns : List ℕ). Visited tree ns marks) c.in-Some.ensures.steps.first c.loop-id.invariant))
