use Rattle.std.proofs.Common.{◌≡◌, length, take}
use Rattle.page_trees.specs.Popping.{up_to_last}
use Rattle.page_trees.specs.Sets.{has_html_content}
use Rattle.page_trees.proofs.stack.OpenElements.up_to_html.Given as goal

-- the elements that are left decide
abbrev pub invariant-loop-open : goal.invariant-loop-open
invariant-loop-open l = record {
  front : take (length l.rest) l.self.elements.items ≡ l.rest;
  value : up_to_last (has_html_content) l.rest ≡ up_to_last (has_html_content) l.self.elements.items;
}

abbrev pub decreases-loop-open : goal.decreases-loop-open
decreases-loop-open l = length l.rest
