use Rattle.dom_select.proofs.EndLemmas.{begins_as}
use Rattle.dom_select.proofs.matcher.matches.type_selector.Goals as goal

pub returns-in-Type : goal.returns-in-Type
returns-in-Type c = begins_as c.in-Type.name c.args.compound.now c.deref.result.now c.in-Some.part.now c.deref.ensures.value c.in-Some.ensures.value c.in-Type.is
