use Rattle.std.proofs.Common.{◌≡◌, ◌≤◌, length, take}
use Rattle.page_trees.specs.Reopening.{is_this}
use Rattle.page_trees.specs.Scopes.{last_place}
use Rattle.page_trees.proofs.stack.OpenElements.place_among.Given as goal

-- the elements that are left decide
abbrev pub invariant-loop-rest : goal.invariant-loop-rest
invariant-loop-rest l = record {
  front : take (length l.rest) l.self.elements.items ≡ l.rest;
  enough : length l.self.marks.rows.items ≤ length l.self.elements.items → length l.self.marks.rows.items ≤ length l.rest;
  value : last_place (is_this l.fn.name l.fn.id) l.rest ≡ last_place (is_this l.fn.name l.fn.id) l.self.elements.items;
}

abbrev pub decreases-loop-rest : goal.decreases-loop-rest
decreases-loop-rest l = length l.rest
