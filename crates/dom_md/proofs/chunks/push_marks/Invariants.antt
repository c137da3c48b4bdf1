use Rattle.std.proofs.Common.{string_bytes, length}
use Rattle.dom_md.specs.Chunks.{with_marks}
use Rattle.dom_md.proofs.AddingLemmas.{IsAdding}
use Rattle.dom_md.proofs.chunks.push_marks.Given as goal

abbrev pub invariant-loop-marked : goal.invariant-loop-marked
invariant-loop-marked l = IsAdding with_marks (string_bytes l.made) l.rest (string_bytes l.fn.made) l.fn.chunk

abbrev pub decreases-loop-marked : goal.decreases-loop-marked
decreases-loop-marked l = length l.rest
