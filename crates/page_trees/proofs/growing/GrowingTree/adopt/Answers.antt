use Rattle.std.proofs.Common.{refl}
use Rattle.standard_trees.specs.Formatting.{adoption}
use Rattle.page_trees.proofs.AgencyRounds.{adopts_again, adopts_current, halfway_done, halfway_first}
use Rattle.page_trees.proofs.growing.GrowingTree.adopt.Goals as goal

pub returns-then-has_unlisted : goal.returns-then-has_unlisted
returns-then-has_unlisted c known =
    adopts_current c.args.name c.args.foster c.args.self.now c.pop.new.self c.has_unlisted.result known (c.has_unlisted.ensures known) c.if-has_unlisted.true c.pop.ensures

pub returns-in_default : goal.returns-in_default
returns-in_default c known =
    adopts_again c.args.name c.args.foster c.args.self.now c.adopt_round.new.self c.adopt_again.new.self c.in_ok-end.end c.adopt_again.result
    (halfway_first c.args.name c.args.foster c.args.self.now c.has_unlisted.result (c.has_unlisted.ensures known) c.if-has_unlisted.false) (c.in_ok-end.ensures known) c.in_default.is (c.adopt_again.ensures known)

pub returns : goal.returns
returns c known =
    halfway_done adoption c.args.name c.args.foster 8 7 c.args.self.now c.args.self.now c.adopt_round.new.self c.in_ok-end.end c.in-Some.done refl
    (halfway_first c.args.name c.args.foster c.args.self.now c.has_unlisted.result (c.has_unlisted.ensures known) c.if-has_unlisted.false) (c.in_ok-end.ensures known) c.in-Some.is
