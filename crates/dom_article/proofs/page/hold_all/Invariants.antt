use Rattle.dom_article.proofs.HeldLemmas.{HeldBehind}
use Rattle.dom_article.proofs.page.hold_all.Given as goal

-- of the nodes behind those that are left it is known
abbrev pub invariant-loop-id : goal.invariant-loop-id
invariant-loop-id l = HeldBehind l.tree l.order l.fn.facts.items l.facts.items l.id-iterator.iter.rest.now
