use Rattle.std.proofs.Common.{◌≡◌, ◌-◌, ◌≤◌, length, drop}
use Rattle.dom_selectors.specs.Comparisons.{has_within}
use Rattle.dom_selectors.proofs.comparisons.has_within.Given as goal

-- the bytes that are left decide
abbrev pub invariant-loop-n : goal.invariant-loop-n
invariant-loop-n l = record {
  within : l.n ≤ length l.text;
  decides : has_within l.case (drop l.n l.text) l.inner ≡ has_within l.case l.text l.inner;
}

abbrev pub decreases-loop-n : goal.decreases-loop-n
decreases-loop-n l = length l.text - l.n
