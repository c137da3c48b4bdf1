use Rattle.std.proofs.Common.{◌≡◌}
use Rattle.dom_index.specs.Tracks.{IsTracked}
use Rattle.dom_index.proofs.RowLemmas.{IsRowTo}
use Rattle.dom_index.proofs.streaming.fill.Given as goal

-- the row is written up to here
abbrev pub invariant-loop-i : goal.invariant-loop-i
invariant-loop-i l = record {
  kept : l.caches ≡ l.fn.caches;
  tracked : IsTracked l.chain l.visited.tree.now l.rows;
  filled : l.rows.filled.items ≡ l.fn.rows.filled.items;
  row : IsRowTo l.chain l.visited.tree.now l.visited.id l.rows.flags.items l.i;
}
