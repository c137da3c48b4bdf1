use Rattle.std.proofs.Common.{arith}
use Rattle.page_trees.proofs.TokenTurns.{goes_done, goes_next, goes_over}
use Rattle.page_trees.proofs.builder.TreeBuilder.reprocess.Goals as goal

pub returns-in-Done-clause-rule : goal.returns-in-Done-clause-rule
returns-in-Done-clause-rule c =
    goes_done c.args.token c.args.self.now c.loop-turn.self c.step.new.self c.loop-turn.turn c.step.result c.in-Done.is c.step.ensures.limits c.step.ensures.rule
    c.loop-turn.invariant.way

pub loop-turn-preserved : goal.loop-turn-preserved
loop-turn-preserved c = record {
  limits = λ within. c.loop-turn.invariant.limits (c.step.ensures.limits within);
  way = goes_next c.args.token c.args.self.now c.loop-turn.self c.step.new.self c.loop-turn.turn c.step.result c.in-Again.is c.step.ensures.limits c.step.ensures.rule
      c.loop-turn.invariant.way;
}

pub returns-clause-rule : goal.returns-clause-rule
returns-clause-rule c =
    goes_over c.args.token c.args.self.now c.loop-turn.self c.most_turns-turn-end.result c.loop-turn.turn c.most_turns-turn-end.ensures (omega (arith, c.loop-turn-test.false))
    c.loop-turn.invariant.way
