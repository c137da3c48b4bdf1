use Rattle.std.proofs.Common.{refl}
use Rattle.decoded_text.proofs.Texts.{appends-text}
use Rattle.decoded_text.proofs.decoded.Decoded.push_str.Goals as goal

pub returns-clause-appends : goal.returns-clause-appends
returns-clause-appends c = appends-text _ _ _ c.utf8.text c.in_ok-push_str.ensures.bytes refl
