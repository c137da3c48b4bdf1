use Rattle.std.proofs.Common.{map}
use Rattle.dom_sanitize.specs.Plan.{clear_one}
use Rattle.dom_sanitize.proofs.Doing.{clear_known, doing-ends, doing-more, doing-starts, no_rest, shorter}
use Rattle.dom_sanitize.proofs.attrs.clear_attrs.Goals as goal

pub loop-last-init : goal.loop-last-init
loop-last-init c = doing-starts (clear_one (map (λ name. name.now) c.args.names.now)) c.args.steps.now c.args.tree.now

pub clear_one-requires : goal.clear_one-requires
clear_one-requires c = clear_known (map (λ name. name.now) c.args.names.now) c.args.steps.now c.loop-last.rest.now c.in-Some.front.now c.in-Some.last.now c.args.tree.now c.loop-last.tree c.in-Some.ensures.cases.0 c.requires c.loop-last.invariant

pub loop-last-smaller : goal.loop-last-smaller
loop-last-smaller c = shorter c.loop-last.rest.now c.in-Some.front.now c.in-Some.last.now c.in-Some.ensures.cases.0

pub loop-last-preserved : goal.loop-last-preserved
loop-last-preserved c = doing-more (clear_one (map (λ name. name.now) c.args.names.now)) c.args.steps.now c.loop-last.rest.now c.in-Some.front.now c.in-Some.last.now c.args.tree.now c.loop-last.tree c.clear_one.new.tree c.in-Some.ensures.cases.0 c.clear_one.ensures c.loop-last.invariant

pub returns : goal.returns
returns c = doing-ends (clear_one (map (λ name. name.now) c.args.names.now)) c.args.steps.now c.loop-last.rest.now c.args.tree.now c.loop-last.tree (no_rest c.loop-last.rest.now c.in_default.ensures.cases) c.loop-last.invariant
