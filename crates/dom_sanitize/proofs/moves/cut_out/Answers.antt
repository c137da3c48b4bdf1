use Rattle.dom_sanitize.specs.Plan.{cut_one}
use Rattle.dom_sanitize.proofs.Doing.{cut_known, doing-ends, doing-more, doing-starts, no_rest, shorter}
use Rattle.dom_sanitize.proofs.moves.cut_out.Goals as goal

pub loop-last-init : goal.loop-last-init
loop-last-init c = doing-starts cut_one c.args.steps.now c.args.tree.now

pub cut_one-requires : goal.cut_one-requires
cut_one-requires c = cut_known c.args.steps.now c.loop-last.rest.now c.in-Some.front.now c.in-Some.last.now c.args.tree.now c.loop-last.tree c.in-Some.ensures.cases.0 c.requires c.loop-last.invariant

pub loop-last-smaller : goal.loop-last-smaller
loop-last-smaller c = shorter c.loop-last.rest.now c.in-Some.front.now c.in-Some.last.now c.in-Some.ensures.cases.0

pub loop-last-preserved : goal.loop-last-preserved
loop-last-preserved c = doing-more cut_one c.args.steps.now c.loop-last.rest.now c.in-Some.front.now c.in-Some.last.now c.args.tree.now c.loop-last.tree c.cut_one.new.tree c.in-Some.ensures.cases.0 c.cut_one.ensures c.loop-last.invariant

pub returns : goal.returns
returns c = doing-ends cut_one c.args.steps.now c.loop-last.rest.now c.args.tree.now c.loop-last.tree (no_rest c.loop-last.rest.now c.in_default.ensures.cases) c.loop-last.invariant
