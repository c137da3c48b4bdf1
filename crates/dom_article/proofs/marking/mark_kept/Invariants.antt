use Rattle.dom_article.specs.Pruned.{AreAmong, IsPruned}
use Rattle.dom_article.proofs.marking.mark_kept.Given as goal

-- what is marked so far is the root, or below it with a marked parent, and is shown
abbrev pub invariant-loop-id : goal.invariant-loop-id
invariant-loop-id l = IsPruned l.tree l.fn.root l.kept.items × AreAmong l.kept.items l.shown
