use Rattle.decoded_text.proofs.Texts.{continues-more}
use Rattle.japanese.proofs.iso_2022_jp.decode_into.Goals as goal

pub loop-step-preserved : goal.loop-step-preserved
loop-step-preserved c = record {
  continues = λ more last. continues-more _ _ _ _ _ _ _ (c.loop-step.invariant.continues more last) (c.in-Some.ensures.some more last) c.in_ok-push.ensures.appends;
  counted = c.in_ok-push.ensures.counted;
}
