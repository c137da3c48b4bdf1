use Rattle.std.proofs.Common.{take}
use Rattle.dom_article.proofs.GoneLemmas.{LookedAt}
use Rattle.dom_article.proofs.rounds.Gone.of.Given as goal

-- the nodes so far were looked at
abbrev pub invariant-loop-id : goal.invariant-loop-id
invariant-loop-id l = LookedAt l.page l.rules l.found.gone.items (take l.id-index l.page.order.items)
