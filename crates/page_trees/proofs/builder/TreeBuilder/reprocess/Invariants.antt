use Rattle.page_trees.specs.Constructs.{RemembersLimits}
use Rattle.page_trees.proofs.TokenTurns.{GoesOn}
use Rattle.page_trees.proofs.builder.TreeBuilder.reprocess.Given as goal

-- what comes of the token from the beginning comes of it in the state so far
abbrev pub invariant-loop-turn : goal.invariant-loop-turn
invariant-loop-turn l = record {
  limits : RemembersLimits l.initial.self l.self;
  way : GoesOn l.token l.initial.self l.self l.turn;
}
