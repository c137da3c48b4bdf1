use Rattle.std.proofs.Common.{sym, ◌∙◌}
use Rattle.dom_links.specs.Forest.{forest_of}
use Rattle.dom_links.proofs.walks.RowWalks.{Passed, passed_it, element_is, neighbour_is}
use Rattle.dom_links.proofs.ops.siblings.first_element_on.Goals as goal

passed : (c : goal.After-neighbour-next) → Passed (forest_of c.args.nodes.now) c.args.rev c.args.from c.loop-next.next c.neighbour-next.result
passed c =
    passed_it (forest_of c.args.nodes.now) c.args.rev c.args.from c.loop-next.next c.neighbour-next.result c.in-Some.at c.requires.sound.forest c.loop-next.invariant c.in-Some.is
    (element_is (forest_of c.args.nodes.now) c.in-Some.at _ c.node_at-node.ensures ∙ sym c.is_element.ensures ∙ c.if-is_element.false)
    (c.neighbour-next.ensures ∙ neighbour_is (forest_of c.args.nodes.now) c.args.rev c.in-Some.at _ c.node_at-node.ensures)

pub loop-next-smaller : goal.loop-next-smaller
loop-next-smaller c = Passed.fewer (passed c)

pub loop-next-preserved : goal.loop-next-preserved
loop-next-preserved c = Passed.seeking (passed c)
