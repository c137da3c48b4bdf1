use Rattle.std.proofs.Common.{◌≡◌, length}
use Rattle.dom_index.specs.Tracks.{AreTracked}
use Rattle.dom_index.proofs.streaming.all_empty.Given as goal

abbrev pub invariant-loop-i : goal.invariant-loop-i
invariant-loop-i l = record {
  long : length l.all.items ≡ l.i;
  tracked : AreTracked l.chains l.tree l.all.items;
}
