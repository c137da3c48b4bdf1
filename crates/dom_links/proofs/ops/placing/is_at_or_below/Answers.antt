use Rattle.std.proofs.Common.{arith, ◌≤◌, sym, ◌∙◌, length}
use Rattle.std.proofs.lemmas.Bool.{eqb-false, eqb-true}
use Rattle.dom_links.specs.Forest.{forest_of}
use Rattle.dom_links.proofs.moves.Cuts.{length-contents}
use Rattle.dom_links.proofs.forest.Climbs.{free_at_top, climb_more, climb_ends, met_it}
use Rattle.dom_links.proofs.ops.placing.is_at_or_below.Goals as goal

pub returns-in_default : goal.returns-in_default
returns-in_default c =
    free_at_top (forest_of c.args.nodes.now) c.args.t c.args.x c.loop-step.at c.loop-step._step c.loop-step.invariant
    (eqb-false c.loop-step.at c.args.x (sym c.eq.ensures ∙ c.if-eq.false)) c.in_default.ensures

pub returns-then-eq : goal.returns-then-eq
returns-then-eq c = met_it (forest_of c.args.nodes.now) c.args.t c.args.x c.loop-step.at c.loop-step._step c.loop-step.invariant (eqb-true c.loop-step.at c.args.x (sym c.eq.ensures ∙ c.if-eq.true))

pub loop-step-preserved : goal.loop-step-preserved
loop-step-preserved c =
    climb_more (forest_of c.args.nodes.now) c.args.nodes.now c.args.t c.args.x c.loop-step.at c.in-Some.above c.loop-step._step c.requires.linked c.requires.forest c.loop-step.invariant
    (eqb-false c.loop-step.at c.args.x (sym c.eq.ensures ∙ c.if-eq.false)) c.in-Some.ensures

pub returns : goal.returns
returns c =
    let long = length-contents (forest_of c.args.nodes.now) c.args.nodes.now c.requires.linked.links in
    let done : length (forest_of c.args.nodes.now).content ≤ c.loop-step._step = omega arith in
    absurd (climb_ends (forest_of c.args.nodes.now) c.args.t c.args.x c.loop-step.at c.loop-step._step c.requires.forest c.loop-step.invariant done)
