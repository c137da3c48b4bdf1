use Rattle.std.proofs.Common.{sym, arith}
use Rattle.std.proofs.lemmas.Grind.{common_steps}
use Rattle.dom_selectors.proofs.ComparisonLemmas.{begins_with-length}
use Rattle.dom_selectors.proofs.comparisons.begins_with.Goals as goal

pub returns-then-text-front : goal.returns-then-text-front
returns-then-text-front c = sym (begins_with-length c.args.case c.args.text.now c.args.front.now (omega arith))

pub returns-then-not-same_byte : goal.returns-then-not-same_byte
returns-then-not-same_byte c = grind (arith, common_steps)

pub loop-n-preserved : goal.loop-n-preserved
loop-n-preserved c = grind (arith, common_steps)

pub returns : goal.returns
returns c = grind (arith, common_steps)
