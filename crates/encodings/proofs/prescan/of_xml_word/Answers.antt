use Rattle.std.proofs.Common.{ap, ◌∙◌}
use Rattle.std.specs.Prelude.{codes, option_and_then}
use Rattle.encodings.specs.Prescan.{behind_text, of_xml_value}
use Rattle.encodings.proofs.prescan.of_xml_word.Goals as goal

pub returns-in-Some : goal.returns-in-Some
returns-in-Some c = c.of_xml_value.ensures ∙ ap (option_and_then of_xml_value) (c.in-Some.ensures ∙ ap (behind_text (codes "=")) c.skip.ensures)

pub returns-in-None : goal.returns-in-None
returns-in-None c = ap (option_and_then of_xml_value) (c.in-None.ensures ∙ ap (behind_text (codes "=")) c.skip.ensures)
