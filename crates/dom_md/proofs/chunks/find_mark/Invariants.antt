use Rattle.dom_md.proofs.ChunkLemmas.{IsPlainTo}
use Rattle.dom_md.proofs.chunks.find_mark.Given as goal

abbrev pub invariant-loop-at : goal.invariant-loop-at
invariant-loop-at l = IsPlainTo l.bytes l.at
