use Rattle.std.proofs.Common.{◌≡◌, ◌++◌, length}
use Rattle.dom_index.specs.Tracks.{line_in}
use Rattle.dom_index.proofs.streaming.find_missing.Given as goal

-- the nodes to the left so far are missing
abbrev pub invariant-loop-left : goal.invariant-loop-left
invariant-loop-left l = line_in l.chain l.tree l.visited.id ≡ l.missing.items ++ line_in l.chain l.tree l.at

abbrev pub decreases-loop-left : goal.decreases-loop-left
decreases-loop-left l = length (line_in l.chain l.tree l.at)
