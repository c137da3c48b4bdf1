use Rattle.std.proofs.Common.{length}
use Rattle.dom_article.specs.Names.{AreKinds}
use Rattle.dom_article.specs.Words.{IsIndex}
use Rattle.dom_article.proofs.KnownLemmas.{KnownBefore}
use Rattle.dom_article.proofs.page.facts_of_each.Given as goal

-- the nodes before those that are left were looked at
abbrev pub invariant-loop-id : goal.invariant-loop-id
invariant-loop-id l = AreKinds l.kinds × IsIndex l.words × KnownBefore l.tree l.order l.facts.items l.rest

abbrev pub decreases-loop-id : goal.decreases-loop-id
decreases-loop-id l = length l.rest
