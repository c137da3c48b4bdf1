use Rattle.std.proofs.Common.{take}
use Rattle.dom_index.specs.Tracks.{AreFollowing, SomeReaches}
use Rattle.dom_index.proofs.streaming.visit_all.Given as goal

-- none of the selectors up to here matches
abbrev pub invariant-loop-i : goal.invariant-loop-i
invariant-loop-i l = record {
  following : AreFollowing l.chains l.rows.items l.visited.tree.now l.shared.caches;
  none : SomeReaches (take l.i l.chains) l.visited.tree.now l.visited.id → ⊥;
}
