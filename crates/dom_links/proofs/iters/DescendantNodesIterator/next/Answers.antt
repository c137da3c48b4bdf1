use Rattle.std.proofs.Common.{◌≤◌, length, arith}
use Rattle.dom_links.specs.Forest.{forest_of}
use Rattle.dom_links.specs.Trees.{descendants_in_order}
use Rattle.dom_links.proofs.walks.Apart.{walk-few}
use Rattle.dom_links.proofs.moves.Cuts.{length-contents}
use Rattle.dom_links.proofs.walks.Steps.{looks_fit}
use Rattle.dom_links.proofs.iters.DescendantNodesIterator.next.Goals as goal

pub next_below-next-requires-clause-room : goal.next_below-next-requires-clause-room
next_below-next-requires-clause-room c =
    let good = c.self.invariant.0 in
    let long = length-contents (forest_of c.self.inside.nodes.now) c.self.inside.nodes.now good.arena.links in
    let few : length (descendants_in_order (forest_of c.self.inside.nodes.now) c.self.inside.start_id) ≤ 4294967295 =
    omega (arith, walk-few (forest_of c.self.inside.nodes.now) c.self.inside.start_id good.forest, good.numbered) in
    looks_fit (forest_of c.self.inside.nodes.now) c.self.inside.start_id c.in_ok-current_id.current_id c.self.inside.next_child_id c.self.inside.reads c.self.invariant.2 c.in_ok-current_id.was few
