use Rattle.std.proofs.Common.{◌≡◌, length}
use Rattle.dom_links.specs.Forest.{Forest}
use Rattle.page_trees.specs.Likeness.{KnowsLikes}
use Rattle.page_trees.specs.Popping.{before_last, is_a_marker}
use Rattle.page_trees.proofs.formatting.ActiveFormatting.clear_to_marker.Given as goal

-- the entries that are left decide
abbrev pub invariant-loop-entry : goal.invariant-loop-entry
invariant-loop-entry l = record {
  left : before_last is_a_marker l.self.entries ≡ before_last is_a_marker l.initial.self.entries;
  likes : (forest : Forest) → KnowsLikes forest l.initial.self → KnowsLikes forest l.self;
}

abbrev pub decreases-loop-entry : goal.decreases-loop-entry
decreases-loop-entry l = length l.self.entries
