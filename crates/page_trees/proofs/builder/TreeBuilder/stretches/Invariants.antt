use Rattle.std.proofs.Common.{length}
use Rattle.std.specs.Str.{IsUtf8}
use Rattle.page_trees.specs.Constructs.{RemembersLimits}
use Rattle.page_trees.proofs.TextPieces.{LeavesText}
use Rattle.page_trees.proofs.builder.TreeBuilder.stretches.Given as goal

-- what is to be shown of the text, is left to be shown of its rest
abbrev pub invariant-loop-front : goal.invariant-loop-front
invariant-loop-front l = record {
  utf8 : IsUtf8 l.rest;
  limits : RemembersLimits l.fn.self l.self;
  rule : LeavesText l.fn.text l.rest l.fn.self l.self;
}

abbrev pub decreases-loop-front : goal.decreases-loop-front
decreases-loop-front l = length l.rest
