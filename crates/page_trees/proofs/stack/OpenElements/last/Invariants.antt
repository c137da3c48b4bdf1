use Rattle.std.proofs.Common.{◌≡◌, ◌≤◌, length, take}
use Rattle.page_trees.specs.Scopes.{last_place}
use Rattle.page_trees.specs.SearchIndex.{is_sought}
use Rattle.page_trees.proofs.stack.OpenElements.last.Given as goal

-- the elements that are left decide
abbrev pub invariant-loop-rest : goal.invariant-loop-rest
invariant-loop-rest l = record {
  front : take (length l.rest) l.self.elements.items ≡ l.rest;
  enough : length l.self.marks.rows.items ≤ length l.self.elements.items → length l.self.marks.rows.items ≤ length l.rest;
  value : last_place (is_sought l.sought) l.rest ≡ last_place (is_sought l.sought) l.self.elements.items;
}

abbrev pub decreases-loop-rest : goal.decreases-loop-rest
decreases-loop-rest l = length l.rest
