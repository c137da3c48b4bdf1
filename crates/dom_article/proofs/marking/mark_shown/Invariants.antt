use Rattle.dom_article.specs.Pruned.{NothingHidden}
use Rattle.dom_article.proofs.marking.mark_shown.Given as goal

-- what is marked so far isn't hidden
abbrev pub invariant-loop-id : goal.invariant-loop-id
invariant-loop-id l = NothingHidden l.tree l.shown.items
