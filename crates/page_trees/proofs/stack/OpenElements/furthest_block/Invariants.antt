use Rattle.std.proofs.Common.{◌≡◌, ◌+◌, drop, length}
use Rattle.page_trees.specs.Popping.{first_from}
use Rattle.page_trees.specs.Sets.{is_special_element}
use Rattle.page_trees.proofs.stack.OpenElements.furthest_block.Given as goal

-- the elements that are left decide
abbrev pub invariant-loop-open : goal.invariant-loop-open
invariant-loop-open l = record {
  long : l.index + length l.rest ≡ length l.self.elements.items;
  value : first_from is_special_element l.index l.rest ≡ first_from is_special_element (l.place + 1) (drop (l.place + 1) l.self.elements.items);
}

abbrev pub decreases-loop-open : goal.decreases-loop-open
decreases-loop-open l = length l.rest
