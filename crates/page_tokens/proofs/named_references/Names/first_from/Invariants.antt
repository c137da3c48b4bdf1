use Rattle.std.proofs.Common.{◌-◌}
use Rattle.page_tokens.proofs.NameLemmas.{AreHalved}
use Rattle.page_tokens.proofs.named_references.Names.first_from.Given as goal

abbrev pub invariant-loop-low : goal.invariant-loop-low
invariant-loop-low l = AreHalved l.fn.self.low l.fn.self.high l.fn.self.place l.fn.letter l.low l.high

abbrev pub decreases-loop-low : goal.decreases-loop-low
decreases-loop-low l = l.high - l.low
