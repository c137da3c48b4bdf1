use Rattle.std.proofs.Common.{ap, sym, ◌∙◌}
use Rattle.std.specs.Prelude.{not}
use Rattle.page_trees.specs.Reopening.{stays}
use Rattle.page_trees.proofs.ScopeLemmas.{ends_here, goes_below}
use Rattle.page_trees.proofs.growing.GrowingTree.first_closed.Goals as goal

pub returns-then-not-is_closed : goal.returns-then-not-is_closed
returns-then-not-is_closed c =
    ends_here (stays c.args.self.now.stack) c.loop-entry.rest.now c.in-Some.before.now c.in-Some.entry.now c.in-Some.ensures.cases.0
    (sym (ap not c.is_closed.ensures) ∙ ap not c.if-not-is_closed.true) ∙ c.loop-entry.invariant

pub loop-entry-preserved : goal.loop-entry-preserved
loop-entry-preserved c =
    goes_below (stays c.args.self.now.stack) c.loop-entry.rest.now c.in-Some.before.now c.in-Some.entry.now c.in-Some.ensures.cases.0
    (sym (ap not c.is_closed.ensures) ∙ ap not c.if-not-is_closed.false) ∙ c.loop-entry.invariant
