use Rattle.dom_links.specs.Forest.{forest_of}
use Rattle.dom_links.proofs.texts.Rewriting.{found_more}
use Rattle.dom_links.proofs.ops.normalize.rewrites_below.Goals as goal

pub loop-below-preserved : goal.loop-below-preserved
loop-below-preserved c =
    found_more (forest_of c.args.nodes.now) c.in-Some.below c.loop-below.below-iterator.left c.next.new.self.left c.loop-below.found.items c.add_found.new.found.items _ c.in_ok-rewrite.rewrite
    c.in_ok-rewrite.ensures c.in_ok-add_found.ensures c.in-Some.ensures.steps.first c.loop-below.invariant
