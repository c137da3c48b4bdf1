use Rattle.std.proofs.Common.{filter}
use Rattle.dom_links.specs.ListMoves.{element_at}
use Rattle.dom_selection.specs.Selections.{child_elements}
use Rattle.dom_selection.proofs.GatherLemmas.{GoesOn}
use Rattle.dom_selection.proofs.selection.gathering.Gathered.gather_children.Given as goal

abbrev pub invariant-loop-child : goal.invariant-loop-child
invariant-loop-child l = GoesOn l.fn.self l.self (child_elements l.fn.self.tree.now l.fn.id) (filter (element_at l.fn.self.tree.now) l.child-iterator)
