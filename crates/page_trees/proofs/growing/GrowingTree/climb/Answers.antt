use Rattle.std.proofs.Common.{arith, ◌-◌}
use Rattle.page_trees.proofs.InnerCalls.{near_told, way_ends, way_goes_on, way_starts}
use Rattle.page_trees.proofs.growing.GrowingTree.climb.Goals as goal

pub loop-node_place-init : goal.loop-node_place-init
loop-node_place-init c = record {
  within = omega arith;
  passed = way_starts c.args.place c.args.furthest_place c.args.bookmark c.args.self.now;
}

pub loop-node_place-preserved : goal.loop-node_place-preserved
loop-node_place-preserved c = record {
  within = omega (arith, c.loop-node_place.invariant.within);
  passed = way_goes_on c.args.place c.args.furthest_place c.loop-node_place.node_place (c.loop-node_place.node_place - 1) _ c.args.bookmark c.loop-node_place.bookmark c.in_ok-bookmark.bookmark c.args.self.now c.loop-node_place.self c.pass.new.self
      (omega (arith, c.loop-node_place-test.true)) c.loop-node_place.invariant.passed (omega (arith, c.loop-node_place-test.true, c.saturating_add-below.ensures, c.loop-node_place.auto.node_place-fits))
      (λ n e. near_told c.saturating_sub-is_far.result n (omega (arith, e, c.saturating_sub-is_far.ensures, c.loop-node_place-test.true))) c.in_ok-bookmark.ensures;
}

pub returns : goal.returns
returns c =
    way_ends c.args.place c.args.furthest_place c.loop-node_place.node_place c.args.bookmark c.loop-node_place.bookmark c.args.self.now c.loop-node_place.self c.loop-node_place.invariant.passed
    (omega (arith, c.loop-node_place-test.false, c.saturating_add-below.ensures))
