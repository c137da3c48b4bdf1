use Rattle.std.proofs.Common.{refl}
use Rattle.decoded_text.proofs.Texts.{is_empty}
use Rattle.decoded_text.proofs.decoded.Decoded.with_capacity.Goals as goal

pub returns : goal.returns
returns c = is_empty _ c.in_ok-with_capacity.ensures.bytes refl
