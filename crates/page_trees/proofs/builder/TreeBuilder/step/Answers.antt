use Rattle.std.proofs.Common.{subst, sym}
use Rattle.page_trees.specs.Constructs.{WithinLimits}
use Rattle.page_trees.specs.declared.builder.TreeBuilder.{TreeBuilder}
use Rattle.page_trees.specs.CoveredTurns.{TurnEnds}
use Rattle.page_trees.proofs.TokenCalls.{noted_after, noted_before, noted_then}
use Rattle.page_trees.proofs.builder.TreeBuilder.step.Goals as goal

pub returns-clause-limits : goal.returns-clause-limits
returns-clause-limits c = noted_before c.args.self.now c.turn-next.new.self _ (noted_then c.args.self.now c.turn-next.new.self _ _ c.met-before.ensures c.note_met.ensures)

pub returns-clause-rule : goal.returns-clause-rule
returns-clause-rule c within others b current covered stands =
    let same = noted_after c.args.self.now c.turn-next.new.self c.note_met.new.self (noted_then c.args.self.now c.turn-next.new.self _ _ c.met-before.ensures c.note_met.ensures) within in
    subst (λ (s : TreeBuilder). TurnEnds c.args.token others b s c.turn-next.result) (sym same)
    (c.turn-next.ensures.rule (subst WithinLimits same within) others b current covered stands)
