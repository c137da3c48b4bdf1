use Rattle.dom_select.proofs.MeaningLemmas.{parts_known, parts_unknown}
use Rattle.dom_select.proofs.matcher.parts.parts_hold.Goals as goal

pub returns-in-Some-clause-is : goal.returns-in-Some-clause-is
returns-in-Some-clause-is c = parts_known _ _ _ c.in-Some.found.now.content (rw c.tree.ensures at c.in-Some.ensures.content_is) _ c.each_holds.ensures.is

pub returns-in-None-clause-is : goal.returns-in-None-clause-is
returns-in-None-clause-is c = parts_unknown _ _ _ (rw c.tree.ensures at c.in-None.ensures)
