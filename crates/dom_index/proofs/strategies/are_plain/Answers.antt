use Rattle.std.proofs.Common.{arith}
use Rattle.std.proofs.lemmas.Option.{slice_get_within}
use Rattle.dom_index.proofs.PlainLemmas.{plain_next}
use Rattle.dom_index.proofs.strategies.are_plain.Goals as goal

pub loop-i-preserved : goal.loop-i-preserved
loop-i-preserved c = plain_next c.args.selectors.now c.loop-i.i c.index-selectors-i.result c.deref.result.now c.loop-i.invariant c.deref.ensures.value (c.is_plain.ensures c.if-not-is_plain.false)

pub returns : goal.returns
returns c = λ t i s at. let inside = slice_get_within c.args.selectors.now i s at in c.loop-i.invariant i s (omega (arith, inside)) at
