use Rattle.std.proofs.Common.{sym, eqb-true}
use Rattle.decoded_text.proofs.Texts.{continues-start}
use Rattle.encodings.proofs.Bytes.{step, finished}
use Rattle.encodings.proofs.single_byte.decode_by.Goals as goal

pub loop-rest-init : goal.loop-rest-init
loop-rest-init c = record { continues = continues-start _ _; counted = c.requires }

pub loop-rest-preserved : goal.loop-rest-preserved
loop-rest-preserved c = record {
  continues = step _ _ _ _ _ _ _ _ _ _ _ _ c.loop-rest.invariant.continues c.ascii_front.ensures.parts c.ascii_front.ensures.ascii c.in_ok-push_ascii.ensures.appends
      c.split_at.ensures.front c.split_at.ensures.back c.in_ok-push_each.ensures.appends;
  counted = c.in_ok-push_each.ensures.counted;
}

pub returns-clause-appends : goal.returns-clause-appends
returns-clause-appends c = finished _ _ _ _ _ c.loop-rest.invariant.continues (eqb-true _ _ (sym c.loop-rest-test.ensures))
