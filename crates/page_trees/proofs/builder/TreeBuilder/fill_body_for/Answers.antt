use Rattle.std.proofs.Common.{false, sym, ◌∙◌}
use Rattle.standard_trees.specs.RuleWords.{FramesetNotOk}
use Rattle.page_trees.specs.Groups.{spoils_frameset}
use Rattle.page_trees.proofs.BodyStarts.{only_false, only_true}
use Rattle.page_trees.proofs.ClosedEntries.{no_frameset}
use Rattle.page_trees.proofs.builder.TreeBuilder.fill_body_for.Goals as goal

pub returns-then-fills_body-clause-rule : goal.returns-then-fills_body-clause-rule
returns-then-fills_body-clause-rule c =
    only_true (spoils_frameset c.args.group) FramesetNotOk c.args.self.now (record c.args.self.now { frameset_ok = false }) (sym c.fills_body.ensures ∙ c.if-fills_body.true)
    (λ within b stands. no_frameset c.args.self.now b stands)

pub returns-else-fills_body-clause-rule : goal.returns-else-fills_body-clause-rule
returns-else-fills_body-clause-rule c = only_false (spoils_frameset c.args.group) FramesetNotOk c.args.self.now (sym c.fills_body.ensures ∙ c.if-fills_body.false)
