use Rattle.std.proofs.Common.{take}
use Rattle.dom_article.specs.Best.{IsBestOf}
use Rattle.dom_article.specs.Chosen.{is_main_at, size_at}
use Rattle.dom_article.proofs.choosing.largest_main.Given as goal

-- the best of the nodes so far
abbrev pub invariant-loop-id : goal.invariant-loop-id
invariant-loop-id l = IsBestOf (is_main_at l.page l.round) (size_at l.round) (take l.id-index l.page.order.items) l.largest
