use Rattle.std.proofs.Common.{sym, ◌∙◌}
use Rattle.encodings.proofs.Fronts.{xml_blank, xml_named}
use Rattle.encodings.proofs.prescan.of_xml_label.Goals as goal

pub returns-then-has_blank : goal.returns-then-has_blank
returns-then-has_blank c = xml_blank c.args.label.now (sym c.has_blank.ensures ∙ c.if-has_blank.true)

pub returns : goal.returns
returns c = xml_named c.args.label.now _ (sym c.has_blank.ensures ∙ c.if-has_blank.false) c.named_in_xml.ensures
