use Rattle.dom_article.proofs.ShownLemmas.{Visited}
use Rattle.dom_article.proofs.marking.all_shown.Given as goal

-- the shown ones among the nodes that were visited are marked
abbrev pub invariant-loop-id : goal.invariant-loop-id
invariant-loop-id l = Visited l.tree l.id-iterator.left l.shown.items
