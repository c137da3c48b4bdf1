use Rattle.std.proofs.Common.{◌∙◌}
use Rattle.dom_links.specs.Forest.{forest_of}
use Rattle.dom_links.proofs.walks.RowWalks.{WentOn, goes, goes_on}
use Rattle.dom_links.proofs.ops.TreeNodeOps.last_sibling_of.Goals as goal

pub loop-next-init : goal.loop-next-init
loop-next-init c = goes (forest_of c.args.nodes.now) c.args.id.now c.next_sibling_id-next.result c.requires.forest c.next_sibling_id-next.ensures

went_on : (c : goal.After-get-next) → WentOn (forest_of c.args.nodes.now) c.args.id.now c.loop-next.next c.get-next.result c.in-Some.at
went_on c =
    goes_on (forest_of c.args.nodes.now) c.args.id.now c.loop-next.next c.get-next.result c.loop-next.found c.in-Some.at
    c.requires.forest c.loop-next.invariant c.in-Some.is (c.get-next.ensures ∙ c.node_at.ensures.next_is)

pub loop-next-smaller : goal.loop-next-smaller
loop-next-smaller c = WentOn.fewer (went_on c)

pub loop-next-preserved : goal.loop-next-preserved
loop-next-preserved c = WentOn.going (went_on c)
