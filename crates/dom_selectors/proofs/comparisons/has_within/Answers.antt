use Rattle.std.proofs.Common.{arith}
use Rattle.std.proofs.lemmas.Grind.{common_steps}
use Rattle.dom_selectors.proofs.ComparisonLemmas.{has_within-later}
use Rattle.dom_selectors.proofs.comparisons.has_within.Goals as goal

pub loop-n-preserved : goal.loop-n-preserved
loop-n-preserved c = grind (arith, common_steps, has_within-later)
