use Rattle.dom_md.proofs.FenceLemmas.{Counts}
use Rattle.dom_md.proofs.fences.longest_run.Given as goal

abbrev pub invariant-loop-byte : goal.invariant-loop-byte
invariant-loop-byte l = Counts l.content l.longest l.current l.byte-index
