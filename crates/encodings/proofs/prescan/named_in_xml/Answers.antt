use Rattle.std.proofs.Common.{Some, ap, ◌∙◌}
use Rattle.std.specs.Option.{option_map}
use Rattle.encodings.specs.Labels.{of_xml_markup}
use Rattle.encodings.proofs.prescan.named_in_xml.Goals as goal

pub returns-in-Some : goal.returns-in-Some
returns-in-Some c = ap (λ encoding. Some encoding) c.of_xml_markup.ensures ∙ ap (option_map of_xml_markup) c.in-Some.ensures

pub returns-in-None : goal.returns-in-None
returns-in-None c = ap (option_map of_xml_markup) c.in-None.ensures
