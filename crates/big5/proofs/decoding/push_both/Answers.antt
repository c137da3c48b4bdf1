use Rattle.decoded_text.proofs.Texts.{appends-both}
use Rattle.big5.proofs.decoding.push_both.Goals as goal

pub returns-clause-appends : goal.returns-clause-appends
returns-clause-appends c = appends-both _ _ _ _ _ c.in_ok-push.ensures.appends c.in_ok-push-2.ensures.appends
