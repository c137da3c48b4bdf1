use Rattle.page_trees.proofs.TokenTurns.{once_again, once_done}
use Rattle.page_trees.proofs.builder.TreeBuilder.process.Goals as goal

pub returns-in-Done-clause-rule : goal.returns-in-Done-clause-rule
returns-in-Done-clause-rule c =
    once_done c.args.token c.args.self.now c.step.new.self c.step.result c.in-Done.is c.step.ensures.limits c.step.ensures.rule

pub returns-in-Again-clause-rule : goal.returns-in-Again-clause-rule
returns-in-Again-clause-rule c =
    once_again c.args.token c.args.self.now c.step.new.self c.reprocess.new.self c.step.result c.in-Again.is c.reprocess.ensures.limits c.step.ensures.rule
    c.reprocess.ensures.rule
