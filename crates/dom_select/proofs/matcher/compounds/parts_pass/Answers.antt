use Rattle.dom_select.proofs.MeaningLemmas.{parts_known, parts_unknown}
use Rattle.dom_select.proofs.matcher.compounds.parts_pass.Goals as goal

pub returns-in-Some : goal.returns-in-Some
returns-in-Some c = parts_known _ _ _ c.in-Some.found.now.content c.in-Some.ensures.content_is _ c.each_passes.ensures

pub returns-in-None : goal.returns-in-None
returns-in-None c = parts_unknown _ _ _ c.in-None.ensures
