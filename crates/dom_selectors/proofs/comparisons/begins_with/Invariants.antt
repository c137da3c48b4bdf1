use Rattle.std.proofs.Common.{◌≡◌, ◌-◌, ◌≤◌, length, drop}
use Rattle.dom_selectors.specs.Comparisons.{begins_with}
use Rattle.dom_selectors.proofs.comparisons.begins_with.Given as goal

-- the bytes that are left decide
abbrev pub invariant-loop-n : goal.invariant-loop-n
invariant-loop-n l = record {
  within : l.n ≤ length l.front;
  decides : begins_with l.case (drop l.n l.text) (drop l.n l.front) ≡ begins_with l.case l.text l.front;
}

abbrev pub decreases-loop-n : goal.decreases-loop-n
decreases-loop-n l = length l.front - l.n
