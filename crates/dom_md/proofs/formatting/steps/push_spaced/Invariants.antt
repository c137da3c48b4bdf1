use Rattle.std.proofs.Common.{string_bytes, length}
use Rattle.dom_md.specs.Formatted.{spaced_words}
use Rattle.dom_md.proofs.AddingLemmas.{IsAdding}
use Rattle.dom_md.proofs.formatting.steps.push_spaced.Given as goal

abbrev pub invariant-loop-rest : goal.invariant-loop-rest
invariant-loop-rest l = IsAdding spaced_words (string_bytes l.text) l.rest (string_bytes l.fn.text) l.fn.row

abbrev pub decreases-loop-rest : goal.decreases-loop-rest
decreases-loop-rest l = length l.rest
