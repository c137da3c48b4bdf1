use Rattle.decoded_text.proofs.Texts.{continues-one}
use Rattle.encodings.proofs.utf16.decode_into.Goals as goal

pub loop-character-preserved : goal.loop-character-preserved
loop-character-preserved c = record {
  continues = λ more last. continues-one _ _ _ _ _ _ _ (c.loop-character.invariant.continues more last) (c.in-Some.ensures.some more last) c.in_ok-push.ensures.appends;
  counted = c.in_ok-push.ensures.counted;
}
