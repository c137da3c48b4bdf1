use Rattle.std.proofs.Common.{◌∙◌, ap}
use Rattle.dom_md.specs.Tags.{tag_named}
use Rattle.dom_md.proofs.TagLemmas.{tag_is}
use Rattle.dom_md.proofs.serializer.names.tag_of.Goals as goal

pub returns-in-Some : goal.returns-in-Some
returns-in-Some c = λ other. c.tag_numbered.ensures ∙ (tag_is c.in-Some.number c.in-Some.ensures.0 ∙ ap tag_named c.in-Some.ensures.1)
