use Rattle.std.proofs.Common.{refl}
use Rattle.decoded_text.proofs.Texts.{appends-some}
use Rattle.decoded_text.proofs.decoded.Decoded.write.Goals as goal

pub returns-clause-appends : goal.returns-clause-appends
returns-clause-appends c = appends-some _ _ _ c.in_ok-push.ensures.bytes refl
