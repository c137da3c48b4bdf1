use Rattle.encodings.proofs.Bytes.{begin, more}
use Rattle.encodings.proofs.single_byte.push_each.Goals as goal

pub loop-byte-init : goal.loop-byte-init
loop-byte-init c = record { appends = begin c.args.index.now _; counted = c.requires }

pub loop-byte-preserved : goal.loop-byte-preserved
loop-byte-preserved c = record {
  appends = more _ _ _ _ _ _ _ c.loop-byte.invariant.appends c.loop-byte-test.true c.character_of.ensures c.in_ok-push.ensures.appends;
  counted = c.in_ok-push.ensures.counted;
}
