use Rattle.std.proofs.Common.{◌∙◌, sym, ◌≤◌, arith, length}
use Rattle.dom_links.specs.Forest.{forest_of}
use Rattle.dom_links.proofs.moves.Cuts.{length-contents}
use Rattle.dom_links.proofs.moves.BlockMoves.{known_inside}
use Rattle.dom_links.proofs.walks.SiblingWalks.{beside_given, climb_known, climbs_on, climbs_past_ends, passes_by, past_the_top}
use Rattle.dom_links.proofs.ops.TreeNodeOps.may_place_run.Goals as goal

pub shares_parent-requires-clause-other_known : goal.shares_parent-requires-clause-other_known
shares_parent-requires-clause-other_known c =
    let long = length-contents (forest_of c.args.nodes.now) c.args.nodes.now c.requires.linked.links in
    let known = climb_known (forest_of c.args.nodes.now) c.args.t c.args.x c.loop-step.at c.loop-step._step c.loop-step.invariant in
    omega arith

pub returns-then-shares_parent : goal.returns-then-shares_parent
returns-then-shares_parent c =
    beside_given (forest_of c.args.nodes.now) c.args.t c.args.x c.loop-step.at c.loop-step._step c.is_at_or_after.result c.requires.forest
    (known_inside (forest_of c.args.nodes.now) c.args.nodes.now c.args.x c.requires.linked c.requires.known) (sym c.stays_put.ensures ∙ c.if-stays_put.false)
    c.loop-step.invariant c.if-shares_parent.ensures c.is_at_or_after.ensures

pub parent_or_host-requires-clause-known : goal.parent_or_host-requires-clause-known
parent_or_host-requires-clause-known c =
    let long = length-contents (forest_of c.args.nodes.now) c.args.nodes.now c.requires.linked.links in
    let known = climb_known (forest_of c.args.nodes.now) c.args.t c.args.x c.loop-step.at c.loop-step._step c.loop-step.invariant in
    omega arith

pub returns-in_default : goal.returns-in_default
returns-in_default c =
    let known = known_inside (forest_of c.args.nodes.now) c.args.nodes.now c.args.x c.requires.linked c.requires.known in
    let moves = sym c.stays_put.ensures ∙ c.if-stays_put.false in
    past_the_top (forest_of c.args.nodes.now) c.args.t c.args.x c.loop-step.at c.loop-step._step c.requires.forest known moves c.loop-step.invariant
    (passes_by (forest_of c.args.nodes.now) c.args.x c.loop-step.at c.requires.forest known moves c.if-shares_parent.ensures) c.in_default.ensures

pub loop-step-preserved : goal.loop-step-preserved
loop-step-preserved c =
    let known = known_inside (forest_of c.args.nodes.now) c.args.nodes.now c.args.x c.requires.linked c.requires.known in
    let moves = sym c.stays_put.ensures ∙ c.if-stays_put.false in
    climbs_on (forest_of c.args.nodes.now) c.args.nodes.now c.args.t c.args.x c.loop-step.at c.in-Some.above c.loop-step._step c.requires.linked c.requires.forest c.loop-step.invariant
    (passes_by (forest_of c.args.nodes.now) c.args.x c.loop-step.at c.requires.forest known moves c.if-shares_parent.ensures) c.in-Some.ensures

pub returns : goal.returns
returns c =
    let long = length-contents (forest_of c.args.nodes.now) c.args.nodes.now c.requires.linked.links in
    let done : length (forest_of c.args.nodes.now).content ≤ c.loop-step._step = omega arith in
    absurd (climbs_past_ends (forest_of c.args.nodes.now) c.args.t c.args.x c.loop-step.at c.loop-step._step c.requires.forest c.loop-step.invariant done)
