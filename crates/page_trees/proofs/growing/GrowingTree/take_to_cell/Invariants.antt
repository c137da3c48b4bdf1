use Rattle.std.proofs.Common.{◌≡◌, length}
use Rattle.page_trees.specs.Popping.{before_last}
use Rattle.page_trees.specs.TableSteps.{is_a_cell}
use Rattle.page_trees.proofs.growing.GrowingTree.take_to_cell.Given as goal

-- the elements that are left decide
abbrev pub invariant-loop-open : goal.invariant-loop-open
invariant-loop-open l = record {
  stack : before_last is_a_cell l.self.stack ≡ before_last is_a_cell l.initial.self.stack;
  rest : l.self ≡ record l.initial.self { stack = l.self.stack };
}

abbrev pub decreases-loop-open : goal.decreases-loop-open
decreases-loop-open l = length l.self.stack
