use Rattle.std.proofs.Common.{◌≡◌, length, take}
use Rattle.page_trees.specs.SearchIndex.{IsIndexed}
use Rattle.page_trees.proofs.stack.OpenElements.truncate.Given as goal

abbrev pub invariant-loop-self : goal.invariant-loop-self
invariant-loop-self l = record {
  items : take l.count l.self.elements.items ≡ take l.count l.initial.self.elements.items;
  index : IsIndexed l.initial.self → IsIndexed l.self;
}

abbrev pub decreases-loop-self : goal.decreases-loop-self
decreases-loop-self l = length l.self.elements.items
