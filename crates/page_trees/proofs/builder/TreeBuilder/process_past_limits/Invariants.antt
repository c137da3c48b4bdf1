use Rattle.page_trees.specs.Constructs.{RemembersLimits}
use Rattle.page_trees.proofs.builder.TreeBuilder.process_past_limits.Given as goal

abbrev pub invariant-loop-turn : goal.invariant-loop-turn
invariant-loop-turn l = RemembersLimits l.initial.self l.self
