use Rattle.std.proofs.Common.{take}
use Rattle.dom_article.specs.Best.{IsBestOf, is_candidate, score_at}
use Rattle.dom_article.proofs.choosing.first_greatest.Given as goal

-- the best of the nodes so far
abbrev pub invariant-loop-id : goal.invariant-loop-id
invariant-loop-id l = IsBestOf (is_candidate l.page l.round) (score_at l.round) (take l.id-index l.page.order.items) l.greatest
