use Rattle.std.proofs.Common.{◌≡◌}
use Rattle.page_trees.specs.Constructs.{RemembersLimits, WithinLimits}
use Rattle.page_trees.proofs.builder.TreeBuilder.note_errors.Given as goal

-- within the limits, nothing is changed so far
abbrev pub invariant-loop-offset : goal.invariant-loop-offset
invariant-loop-offset l = record {
  limits : RemembersLimits l.fn.self l.self;
  same : WithinLimits l.self → l.self ≡ l.fn.self;
}
