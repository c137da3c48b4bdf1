use Rattle.std.proofs.Common.{length}
use Rattle.page_trees.specs.Formatting.{IsFirst, IsNamed, NoneHas, after_marker}
use Rattle.page_trees.specs.declared.stack.Open.{Open}
use Rattle.page_trees.proofs.formatting.last_named.Given as goal

-- the entries that are left decide
abbrev pub invariant-loop-entry : goal.invariant-loop-entry
invariant-loop-entry l = record {
  none : NoneHas (IsNamed l.name) (after_marker l.rest) → NoneHas (IsNamed l.name) (after_marker l.entries);
  first : (p : Open) → IsFirst (IsNamed l.name) (after_marker l.rest) p → IsFirst (IsNamed l.name) (after_marker l.entries) p;
}

abbrev pub decreases-loop-entry : goal.decreases-loop-entry
decreases-loop-entry l = length l.rest
