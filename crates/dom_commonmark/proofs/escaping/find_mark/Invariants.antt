use Rattle.std.proofs.Common.{◌≤◌}
use Rattle.dom_commonmark.proofs.StepLemmas.{IsPlainTo}
use Rattle.dom_commonmark.proofs.escaping.find_mark.Given as goal

abbrev pub invariant-loop-at : goal.invariant-loop-at
invariant-loop-at l = (l.from ≤ l.at) × IsPlainTo l.place l.bytes l.from l.at
