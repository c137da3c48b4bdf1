use Rattle.std.proofs.Common.{arith}
use Rattle.encodings.proofs.Rows.{not_here, here, nowhere}
use Rattle.encodings.proofs.encoding.find.Goals as goal

pub loop-name-preserved : goal.loop-name-preserved
loop-name-preserved c = not_here _ _ _ _ _ _ _ c.loop-name-test.true c.as_bytes.ensures.value c.if-is_same.ensures c.loop-name.invariant

pub returns-then-is_same : goal.returns-then-is_same
returns-then-is_same c = here _ _ _ _ _ _ _ c.loop-name-test.true c.as_bytes.ensures.value c.if-is_same.ensures c.loop-name.invariant

pub returns : goal.returns
returns c = nowhere _ _ _ c.loop-name.name-index _ (omega arith) c.loop-name.invariant
