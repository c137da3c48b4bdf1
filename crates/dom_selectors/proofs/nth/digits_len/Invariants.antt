use Rattle.std.proofs.Common.{◌-◌, length}
use Rattle.std.specs.Char.{is_ascii_digit}
use Rattle.dom_selectors.proofs.Counting.{Counts}
use Rattle.dom_selectors.proofs.nth.digits_len.Given as goal

abbrev pub invariant-loop-n : goal.invariant-loop-n
invariant-loop-n l = Counts is_ascii_digit l.text l.n

abbrev pub decreases-loop-n : goal.decreases-loop-n
decreases-loop-n l = length l.text - l.n
