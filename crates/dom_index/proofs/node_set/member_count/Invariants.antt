use Rattle.std.proofs.Common.{◌≡◌, ◌≤◌, take}
use Rattle.dom_index.specs.TestCounts.{cardinality}
use Rattle.dom_index.proofs.node_set.member_count.Given as goal

abbrev pub invariant-loop-n : goal.invariant-loop-n
invariant-loop-n l = (l.count ≡ cardinality (take l.n l.table)) × (l.count ≤ l.n)
