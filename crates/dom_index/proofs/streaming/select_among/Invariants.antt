use Rattle.dom_select.specs.Selected.{FiltersTo}
use Rattle.dom_index.specs.Tracks.{AreFollowing, IsReached}
use Rattle.dom_index.proofs.streaming.select_among.Given as goal

abbrev pub invariant-loop-id : goal.invariant-loop-id
invariant-loop-id g l = record {
  following : AreFollowing l.chains l.rows.items l.tree l.shared.caches;
  so_far : FiltersTo (IsReached l.chains l.tree) l.yielded l.matched.items;
}
