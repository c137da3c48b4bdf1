use Rattle.std.proofs.Common.{◌-◌, length}
use Rattle.std.specs.Char.{is_ascii_whitespace}
use Rattle.dom_selectors.proofs.Counting.{Counts}
use Rattle.dom_selectors.proofs.names.after_white.Given as goal

abbrev pub invariant-loop-n : goal.invariant-loop-n
invariant-loop-n l = Counts is_ascii_whitespace l.text l.n

abbrev pub decreases-loop-n : goal.decreases-loop-n
decreases-loop-n l = length l.text - l.n
