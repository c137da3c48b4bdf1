use Rattle.std.proofs.Common.{ap, drop, ◌∙◌}
use Rattle.std.specs.Prelude.{option_and_then}
use Rattle.encodings.specs.Prescan.{of_xml_word}
use Rattle.encodings.proofs.prescan.of_declaration.Goals as goal

pub returns-in-Some : goal.returns-in-Some
returns-in-Some c = c.of_xml_word.ensures ∙ ap of_xml_word c.behind.ensures ∙ ap (option_and_then (λ word. of_xml_word (drop 8 word))) c.in-Some.ensures

pub returns-in-None : goal.returns-in-None
returns-in-None c = ap (option_and_then (λ word. of_xml_word (drop 8 word))) c.in-None.ensures
