use Rattle.dom_md.proofs.SpacedLemmas.{IsSameTo}
use Rattle.dom_md.proofs.formatting.steps.same_len.Given as goal

abbrev pub invariant-loop-at : goal.invariant-loop-at
invariant-loop-at l = IsSameTo l.bytes l.at
