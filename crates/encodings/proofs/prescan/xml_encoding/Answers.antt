use Rattle.std.proofs.Common.{ap, ◌∙◌}
use Rattle.std.specs.Prelude.{option_and_then}
use Rattle.encodings.specs.Prescan.{of_xml, xml_encoding}
use Rattle.encodings.proofs.prescan.xml_encoding.Goals as goal

pub returns-in-Some : goal.returns-in-Some
unfolding xml_encoding
returns-in-Some c = c.of_xml.ensures ∙ ap (option_and_then of_xml) c.in-Some.ensures

pub returns-in-None : goal.returns-in-None
unfolding xml_encoding
returns-in-None c = ap (option_and_then of_xml) c.in-None.ensures
