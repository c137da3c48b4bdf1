use Rattle.std.proofs.Common.{◌≡◌, ◌++◌, [], map}
use Rattle.dom_clean.specs.Policies.{policy_of}
use Rattle.dom_clean.specs.Removals.{removal_of, removed_behind}
use Rattle.dom_clean.proofs.Removing.{left_at}
use Rattle.dom_clean.proofs.removals.push_each.Given as goal

-- what was told, and what is still to be told after so many attributes, is the whole
abbrev pub invariant-loop-at : goal.invariant-loop-at
invariant-loop-at l =
    map removal_of l.made.items ++ left_at (policy_of l.lists) l.element l.attrs l.at ≡ map removal_of l.fn.made.items ++ removed_behind (policy_of l.lists) l.element [] l.attrs
