use Rattle.std.proofs.Common.{ap, ◌∙◌}
use Rattle.std.specs.Prelude.{option_and_then}
use Rattle.encodings.specs.Labels.{encoding_of}
use Rattle.encodings.proofs.attributes.encoding_in.Goals as goal

pub returns-in-Some : goal.returns-in-Some
returns-in-Some c = c.for_label.ensures ∙ ap (option_and_then encoding_of) c.in-Some.ensures

pub returns-in-None : goal.returns-in-None
returns-in-None c = ap (option_and_then encoding_of) c.in-None.ensures
