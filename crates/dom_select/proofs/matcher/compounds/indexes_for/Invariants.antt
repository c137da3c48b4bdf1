use Rattle.std.proofs.Common.{◌≡◌, length}
use Rattle.dom_select.proofs.IndexLemmas.{AreIndexesBelow}
use Rattle.dom_select.proofs.matcher.compounds.indexes_for.Given as goal

-- the indexes are those that the simple selectors so far ask for
abbrev pub invariant-loop-part : goal.invariant-loop-part
invariant-loop-part l = record {
  long : length l.indexes ≡ 4;
  kept : l.caches ≡ l.fn.caches;
  so_far : AreIndexesBelow l.part-index l.compound.parts.items l.x.tree.now l.x.id l.indexes;
}
