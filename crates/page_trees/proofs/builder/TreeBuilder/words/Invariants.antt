use Rattle.std.proofs.Common.{length}
use Rattle.std.specs.Str.{IsUtf8}
use Rattle.page_trees.specs.CharacterTexts.{LeavesRest}
use Rattle.page_trees.specs.Constructs.{RemembersLimits}
use Rattle.page_trees.proofs.builder.TreeBuilder.words.Given as goal

-- what is to be shown of the text, is left to be shown of its rest
abbrev pub invariant-loop-rest : goal.invariant-loop-rest
invariant-loop-rest l = record {
  utf8 : IsUtf8 l.rest;
  limits : RemembersLimits l.fn.self l.self;
  rule : LeavesRest l.fn.text l.rest l.fn.self l.self;
}

abbrev pub decreases-loop-rest : goal.decreases-loop-rest
decreases-loop-rest l = length l.rest
