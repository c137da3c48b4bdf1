use Rattle.std.proofs.Common.{refl, arith}
use Rattle.std.proofs.lemmas.Str.{length-encode}
use Rattle.decoded_text.proofs.Texts.{appends-none}
use Rattle.decoded_text.proofs.decoded.Decoded.replace.Goals as goal

pub returns-clause-appends : goal.returns-clause-appends
returns-clause-appends c = appends-none _ _ c.in_ok-push.ensures.bytes refl

pub returns-clause-counted : goal.returns-clause-counted
returns-clause-counted c = let added = length-encode 0xFFFD in let e = c.in_ok-push.ensures.len in omega arith
