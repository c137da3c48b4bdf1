use Rattle.std.proofs.Common.{take}
use Rattle.dom_edits.specs.Edits.{Each, edit_at}
use Rattle.dom_edits.proofs.edit.edit_each.Given as goal

abbrev pub invariant-loop-done : goal.invariant-loop-done
invariant-loop-done l = Each (edit_at l.edit) (take l.done l.nodes) l.initial.tree l.tree
