use Rattle.std.proofs.Common.{arith, ◌-◌}
use Rattle.standard_trees.specs.Formatting.{adopt}
use Rattle.page_trees.proofs.AgencyRounds.{halfway_done, halfway_here, halfway_more, halfway_over}
use Rattle.page_trees.proofs.growing.GrowingTree.adopt_again.Goals as goal

pub loop-left-init : goal.loop-left-init
loop-left-init c known = halfway_here c.args.name c.args.foster 7 c.args.self.now

pub loop-left-preserved : goal.loop-left-preserved
loop-left-preserved c known =
    halfway_more (adopt 7) c.args.name c.args.foster c.loop-left.left (c.loop-left.left - 1) c.args.self.now c.loop-left.self c.adopt_round.new.self c.in_ok-done.field-0 (omega (arith, c.loop-left-test.true)) (c.loop-left.invariant known)
    (c.in_ok-done.ensures known) c.in_default.is

pub returns-in-Some : goal.returns-in-Some
returns-in-Some c known =
    halfway_done (adopt 7) c.args.name c.args.foster c.loop-left.left (c.loop-left.left - 1) c.args.self.now c.loop-left.self c.adopt_round.new.self c.in_ok-done.field-0 c.in-Some.done (omega (arith, c.loop-left-test.true))
    (c.loop-left.invariant known) (c.in_ok-done.ensures known) c.in-Some.is

pub returns : goal.returns
returns c known = halfway_over (adopt 7) c.args.name c.args.foster c.loop-left.left c.args.self.now c.loop-left.self (c.loop-left.invariant known) (omega (arith, c.loop-left-test.false))
