use Rattle.std.proofs.Common.{◌≡◌, take}
use Rattle.dom_trees.specs.Views.{refs_to}
use Rattle.dom_index.proofs.selecting.nodes_of.Given as goal

abbrev pub invariant-loop-id : goal.invariant-loop-id
invariant-loop-id l = l.nodes.items ≡ refs_to l.root.tree (take l.id-index l.ids)
