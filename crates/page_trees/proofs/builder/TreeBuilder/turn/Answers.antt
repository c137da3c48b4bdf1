use Rattle.std.proofs.Common.{subst, sym}
use Rattle.page_trees.specs.CoveredTurns.{ProcessesOnce}
use Rattle.page_trees.specs.declared.modes.Token.{Token}
use Rattle.page_trees.proofs.TokenTurns.{end_turn, run_turn, tag_turn}
use Rattle.page_trees.proofs.builder.TreeBuilder.turn.Goals as goal

pub returns-in-Tag : goal.returns-in-Tag
returns-in-Tag c = record {
  rule = subst (λ (t : Token). ProcessesOnce t c.args.self.now c.tag_step.new.self c.tag_step.result) (sym c.in-Tag.is) (tag_turn _ _ _ _ _ c.tag_step.ensures.rule);
}

pub returns-in-Run : goal.returns-in-Run
returns-in-Run c = record {
  rule = subst (λ (t : Token). ProcessesOnce t c.args.self.now c.run_step.new.self c.run_step.result) (sym c.in-Run.is) (run_turn _ _ _ _ _ c.run_step.ensures);
}

pub returns-in-End : goal.returns-in-End
returns-in-End c = record {
  rule = subst (λ (t : Token). ProcessesOnce t c.args.self.now c.end_step.new.self c.end_step.result) (sym c.in-End.is) (end_turn _ _ _ c.end_step.ensures.rule c.end_step.ensures.pending);
}
