use Rattle.std.proofs.Common.{◌≡◌, ◌≤◌, ◌-◌, insert, length, remove}
use Rattle.page_trees.specs.SearchIndex.{IsIndexed}
use Rattle.page_trees.proofs.stack.OpenElements.carry.Given as goal

-- the copy stands behind the elements that it passed
abbrev pub invariant-loop-index : goal.invariant-loop-index
invariant-loop-index l = record {
  value : l.self.elements.items ≡ insert (remove l.fn.self.elements.items l.place) l.index l.copy;
  long : length l.self.elements.items ≡ length l.fn.self.elements.items;
  low : l.index ≤ l.last;
  index : IsIndexed l.fn.self → IsIndexed l.self;
}

abbrev pub decreases-loop-index : goal.decreases-loop-index
decreases-loop-index l = l.last - l.index
