use Rattle.std.proofs.Common.{◌≡◌, ◌++◌, map}
use Rattle.dom_clean.specs.Ahead.{AreKnown, weight}
use Rattle.dom_clean.specs.Policies.{policy_of}
use Rattle.dom_clean.specs.Removals.{ahead_removed, removal_of, removed_below}
use Rattle.dom_clean.proofs.removals.removed_in_forest.Given as goal

abbrev pub invariant-loop-entry : goal.invariant-loop-entry
invariant-loop-entry l = record {
  known : AreKnown l.tree l.ahead;
  whole : map removal_of l.made.items ++ ahead_removed (policy_of l.lists) l.tree l.ahead ≡ removed_below (policy_of l.lists) l.tree l.id;
}

abbrev pub decreases-loop-entry : goal.decreases-loop-entry
decreases-loop-entry l = weight l.tree l.ahead
