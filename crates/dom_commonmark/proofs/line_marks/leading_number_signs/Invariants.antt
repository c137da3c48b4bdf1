use Rattle.std.proofs.Common.{◌≡◌, ◌+◌, length}
use Rattle.dom_commonmark.specs.Lines.{is_number_sign, leading}
use Rattle.dom_commonmark.proofs.line_marks.leading_number_signs.Given as goal

abbrev pub invariant-loop-first : goal.invariant-loop-first
invariant-loop-first l = (l.count + leading is_number_sign l.rest ≡ leading is_number_sign l.bytes) × (l.count + length l.rest ≡ length l.bytes)

abbrev pub decreases-loop-first : goal.decreases-loop-first
decreases-loop-first l = length l.rest
