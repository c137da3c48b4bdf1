use Rattle.page_trees.specs.SearchIndex.{IsIndex}
use Rattle.page_trees.proofs.stack.marks.Marks.fill.Given as goal

abbrev pub invariant-loop : goal.invariant-loop
invariant-loop l = IsIndex l.elements l.initial.self → IsIndex l.elements l.self
