use Rattle.std.proofs.Common.{ap, ◌∙◌}
use Rattle.encodings.specs.Prescan.{declared_encoding, declared_in}
use Rattle.encodings.proofs.prescan.declared_encoding.Goals as goal

pub returns : goal.returns
unfolding declared_encoding
returns c = c.declared_in.ensures ∙ ap declared_in c.front.ensures
