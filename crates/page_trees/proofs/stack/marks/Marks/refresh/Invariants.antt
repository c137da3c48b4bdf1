use Rattle.std.proofs.Common.{List, ◌≡◌, ◌+◌, ◌<◌, ◌≤◌, length}
use Rattle.page_trees.specs.SearchIndex.{AreExchanged, AreRows}
use Rattle.page_trees.specs.declared.stack.Open.{Open}
use Rattle.page_trees.proofs.RefreshLemmas.{AreRefreshed}
use Rattle.page_trees.proofs.stack.marks.Marks.refresh.Given as goal

abbrev pub invariant-loop-index : goal.invariant-loop-index
invariant-loop-index l = record {
  links : l.self.links ≡ l.initial.self.links;
  long : length l.self.rows.items ≡ length l.initial.self.rows.items;
  rows : (former : List Open) → l.place + 1 < length l.initial.self.rows.items → AreExchanged former l.elements l.place → AreRows former l.initial.self.rows.items →
      length l.initial.self.rows.items ≤ length former → AreRefreshed former l.elements l.self.rows.items l.index l.below;
}
