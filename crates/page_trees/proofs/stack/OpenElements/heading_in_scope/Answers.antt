use Rattle.page_trees.specs.Sets.{ends_scope, is_a_heading}
use Rattle.page_trees.proofs.ClosedElements.{found_at, heading_place}
use Rattle.page_trees.proofs.stack.OpenElements.heading_in_scope.Goals as goal

pub returns : goal.returns
returns c is = found_at is_a_heading ends_scope c.args.self.now.elements.items _ _ _ (heading_place c.args.self.now.elements.items _ (c.top_among.ensures is)) (c.last.ensures is) c.place_from.ensures
