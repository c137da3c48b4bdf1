use Rattle.std.proofs.Common.{length}
use Rattle.dom_index.specs.Tracks.{IsFollowing, IsOnWay}
use Rattle.dom_index.proofs.streaming.follow.Given as goal

-- to the left of the missing nodes a row is filled
abbrev pub invariant-loop-id : goal.invariant-loop-id
invariant-loop-id l = record {
  following : IsFollowing l.chain l.rows l.visited.tree.now l.shared.caches;
  way : IsOnWay l.chain l.visited.tree.now l.visited.id l.rows.filled.items l.shared.missing.items;
}

abbrev pub decreases-loop-id : goal.decreases-loop-id
decreases-loop-id l = length l.shared.missing.items
