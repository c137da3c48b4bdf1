use Rattle.std.proofs.Common.{◌≡◌, arith, length, subst}
use Rattle.std.proofs.lemmas.Grind.{common_steps}
use Rattle.dom_links.specs.Validation.{AreMarks}
use Rattle.dom_links.proofs.checks.Cycles.{all_end}
use Rattle.dom_links.proofs.validation.cycles.has_cycle.Goals as goal

pub returns : goal.returns
returns c = λ n.
    let is : c.loop-start.start ≡ length c.args.links.now = omega arith in
    all_end c.args.links.now c.loop-start.marks.items n (subst (AreMarks c.args.links.now c.loop-start.marks.items) is c.loop-start.invariant)

pub loop-start-init : goal.loop-start-init
loop-start-init c = grind (arith, common_steps)

pub loop-start-preserved : goal.loop-start-preserved
loop-start-preserved c = grind (arith, common_steps)
