use Rattle.std.proofs.Common.{ap, ◌∙◌}
use Rattle.std.specs.Prelude.{option_and_then}
use Rattle.encodings.specs.Bytes.{in_quotes}
use Rattle.encodings.specs.Prescan.{of_xml_label}
use Rattle.encodings.proofs.prescan.of_xml_value.Goals as goal

pub returns-in-Some : goal.returns-in-Some
returns-in-Some c = c.of_xml_label.ensures ∙ ap (option_and_then (λ label. of_xml_label label.0)) (c.in-Some.ensures ∙ ap in_quotes c.skip.ensures)

pub returns-in-None : goal.returns-in-None
returns-in-None c = ap (option_and_then (λ label. of_xml_label label.0)) (c.in-None.ensures ∙ ap in_quotes c.skip.ensures)
