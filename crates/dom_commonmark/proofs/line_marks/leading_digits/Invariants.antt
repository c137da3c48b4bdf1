use Rattle.std.proofs.Common.{◌≡◌, ◌+◌, length}
use Rattle.std.specs.Char.{is_ascii_digit}
use Rattle.dom_commonmark.specs.Lines.{leading}
use Rattle.dom_commonmark.proofs.line_marks.leading_digits.Given as goal

abbrev pub invariant-loop-first : goal.invariant-loop-first
invariant-loop-first l = (l.count + leading is_ascii_digit l.rest ≡ leading is_ascii_digit l.bytes) × (l.count + length l.rest ≡ length l.bytes)

abbrev pub decreases-loop-first : goal.decreases-loop-first
decreases-loop-first l = length l.rest
