use Rattle.std.proofs.Common.{filter}
use Rattle.dom_links.specs.ListMoves.{element_at}
use Rattle.dom_selection.specs.Selections.{elements_above}
use Rattle.dom_selection.proofs.GatherLemmas.{GoesOn}
use Rattle.dom_selection.proofs.selection.gathering.Gathered.gather_ancestors.Given as goal

abbrev pub invariant-loop-above : goal.invariant-loop-above
invariant-loop-above l = GoesOn l.fn.self l.self (elements_above l.fn.most l.fn.self.tree.now l.fn.id) (filter (element_at l.fn.self.tree.now) l.above-iterator)
