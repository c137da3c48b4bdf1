use Rattle.dom_sanitize.specs.Plan.{put_one}
use Rattle.dom_sanitize.proofs.Doing.{put_may, doing-ends, doing-more, doing-starts, no_rest, shorter}
use Rattle.dom_sanitize.proofs.moves.put_back.Goals as goal

pub loop-last-init : goal.loop-last-init
loop-last-init c = doing-starts put_one c.args.steps.now c.args.tree.now

pub put_one-requires : goal.put_one-requires
put_one-requires c = put_may c.args.steps.now c.loop-last.rest.now c.in-Some.front.now c.in-Some.last.now c.args.tree.now c.loop-last.tree c.in-Some.ensures.cases.0 c.requires c.loop-last.invariant

pub loop-last-smaller : goal.loop-last-smaller
loop-last-smaller c = shorter c.loop-last.rest.now c.in-Some.front.now c.in-Some.last.now c.in-Some.ensures.cases.0

pub loop-last-preserved : goal.loop-last-preserved
loop-last-preserved c = doing-more put_one c.args.steps.now c.loop-last.rest.now c.in-Some.front.now c.in-Some.last.now c.args.tree.now c.loop-last.tree c.put_one.new.tree c.in-Some.ensures.cases.0 c.put_one.ensures c.loop-last.invariant

pub returns : goal.returns
returns c = doing-ends put_one c.args.steps.now c.loop-last.rest.now c.args.tree.now c.loop-last.tree (no_rest c.loop-last.rest.now c.in_default.ensures.cases) c.loop-last.invariant
