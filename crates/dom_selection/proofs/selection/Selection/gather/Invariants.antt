use Rattle.std.proofs.Common.{drop}
use Rattle.std.specs.List.{flat_map}
use Rattle.dom_selection.specs.Selections.{ids_of}
use Rattle.dom_selection.specs.Gathering.{IsClosedFor}
use Rattle.dom_selection.specs.Steps.{related_by}
use Rattle.dom_selection.proofs.GatherLemmas.{GoesOn}
use Rattle.dom_selection.proofs.selection.Selection.gather.Given as goal

abbrev pub invariant-loop-node : goal.invariant-loop-node
invariant-loop-node l =
    IsClosedFor l.step l.gathered
    × GoesOn l.initial.gathered l.gathered (flat_map (related_by l.step l.initial.gathered.tree.now) (ids_of l.node-items)) (flat_map (related_by l.step l.initial.gathered.tree.now) (ids_of (drop l.node-index l.node-items)))
