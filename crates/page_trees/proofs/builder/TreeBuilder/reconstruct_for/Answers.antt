use Rattle.std.proofs.Common.{sym, ◌∙◌}
use Rattle.standard_trees.specs.RuleWords.{ReconstructFormatting}
use Rattle.page_trees.specs.Groups.{reconstructs}
use Rattle.page_trees.proofs.BodyStarts.{only_false, only_true}
use Rattle.page_trees.proofs.builder.TreeBuilder.reconstruct_for.Goals as goal

pub returns-then-continues_formatting-clause-rule : goal.returns-then-continues_formatting-clause-rule
returns-then-continues_formatting-clause-rule c =
    only_true (reconstructs c.args.group) ReconstructFormatting c.args.self.now c.reconstruct.new.self (sym c.continues_formatting.ensures ∙ c.if-continues_formatting.true) c.reconstruct.ensures.rule

pub returns-else-continues_formatting-clause-rule : goal.returns-else-continues_formatting-clause-rule
returns-else-continues_formatting-clause-rule c =
    only_false (reconstructs c.args.group) ReconstructFormatting c.args.self.now (sym c.continues_formatting.ensures ∙ c.if-continues_formatting.false)
