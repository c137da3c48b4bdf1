use Rattle.std.proofs.Common.{Some, arith, refl, length, ◌≡◌, ◌<◌}
use Rattle.std.specs.Prelude.{IfSome}
use Rattle.std.proofs.Common.{subst}
use Rattle.dom_links.specs.Validation.{link_at}
use Rattle.dom_links.proofs.checks.Cycles.{walk_goes_on, walk_ends, walk_over, fewer_unmarked, link_is}
use Rattle.dom_links.proofs.validation.cycles.closes_cycle.Goals as goal

pub returns-in_default : goal.returns-in_default
returns-in_default c =
    walk_ends c.args.links.now c.loop-marks.marks c.args.start c.loop-marks.at c.loop-marks.invariant c.loop-marks-test.true
    (link_is c.args.links.now c.loop-marks.at _ _ c.loop-marks.invariant.here c.in_default.is)

pub loop-marks-smaller : goal.loop-marks-smaller
loop-marks-smaller c =
    let here : c.loop-marks.at < length c.loop-marks.marks = omega arith in
    fewer_unmarked c.loop-marks.marks c.loop-marks.at c.args.start here c.loop-marks-test.true

pub loop-marks-preserved : goal.loop-marks-preserved
loop-marks-preserved c =
    let some : link_at c.args.links.now c.loop-marks.at ≡ Some c.in-Some.next = link_is c.args.links.now c.loop-marks.at _ _ c.loop-marks.invariant.here c.in-Some.is in
    let known : c.in-Some.next < length c.args.links.now = subst (λ o. IfSome o (λ m. m < length c.args.links.now)) some (c.requires.known c.loop-marks.at) in
    rw c.value-at.ensures.number (walk_goes_on c.args.links.now c.loop-marks.marks c.args.start c.loop-marks.at c.in-Some.next c.loop-marks.invariant c.loop-marks-test.true some known)

pub returns : goal.returns
returns c = walk_over c.args.links.now c.loop-marks.marks c.args.start c.loop-marks.at _ refl c.loop-marks.invariant c.loop-marks-test.false
