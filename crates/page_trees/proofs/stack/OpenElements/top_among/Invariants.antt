use Rattle.std.proofs.Common.{◌≡◌, max, length}
use Rattle.page_trees.specs.Scopes.{is_among, last_place}
use Rattle.page_trees.specs.SearchIndex.{IsIndexed}
use Rattle.page_trees.proofs.stack.OpenElements.top_among.Given as goal

abbrev pub invariant-loop-name : goal.invariant-loop-name
invariant-loop-name l = IsIndexed l.self → max (last_place (is_among l.rest) l.self.elements.items) l.top ≡ last_place (is_among l.names) l.self.elements.items

abbrev pub decreases-loop-name : goal.decreases-loop-name
decreases-loop-name l = length l.rest
