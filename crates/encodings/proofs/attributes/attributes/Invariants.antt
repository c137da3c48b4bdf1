use Rattle.std.proofs.Common.{◌≡◌, length}
use Rattle.encodings.specs.Attributes.{Meta, attributes, no_attributes}
use Rattle.encodings.specs.Views.{IsRead}
use Rattle.encodings.proofs.attributes.attributes.Given as goal

-- what was read so far, and what is left decides
abbrev pub invariant-loop-rest : goal.invariant-loop-rest
invariant-loop-rest l = (meta : Meta) × IsRead l.declared meta × (attributes meta 0 l.rest ≡ attributes no_attributes 0 l.bytes)

abbrev pub decreases-loop-rest : goal.decreases-loop-rest
decreases-loop-rest l = length l.rest
