use Rattle.std.proofs.Common.{length}
use Rattle.page_trees.specs.SearchIndex.{IsIndex}
use Rattle.page_trees.proofs.stack.marks.Marks.cut.Given as goal

abbrev pub invariant-loop-self : goal.invariant-loop-self
invariant-loop-self l = IsIndex l.elements l.initial.self → IsIndex l.elements l.self

abbrev pub decreases-loop-self : goal.decreases-loop-self
decreases-loop-self l = length l.self.rows.items
