use Rattle.std.proofs.Common.{◌-◌, length}
use Rattle.dom_selectors.specs.Names.{is_hex}
use Rattle.dom_selectors.proofs.Counting.{Counts}
use Rattle.dom_selectors.proofs.names.hex_len.Given as goal

abbrev pub invariant-loop-n : goal.invariant-loop-n
invariant-loop-n l = Counts is_hex l.text l.n

abbrev pub decreases-loop-n : goal.decreases-loop-n
decreases-loop-n l = length l.text - l.n
