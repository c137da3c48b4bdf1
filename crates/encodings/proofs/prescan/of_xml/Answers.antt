use Rattle.std.proofs.Common.{ap, ◌∙◌}
use Rattle.std.specs.Prelude.{option_and_then}
use Rattle.encodings.specs.Prescan.{of_declaration}
use Rattle.encodings.proofs.prescan.of_xml.Goals as goal

pub returns-in-Some : goal.returns-in-Some
returns-in-Some c = c.of_declaration.ensures ∙ ap (option_and_then (λ declaration. of_declaration declaration.0)) c.in-Some.ensures

pub returns-in-None : goal.returns-in-None
returns-in-None c = ap (option_and_then (λ declaration. of_declaration declaration.0)) c.in-None.ensures
