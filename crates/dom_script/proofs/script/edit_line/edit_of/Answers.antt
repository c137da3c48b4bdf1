use Rattle.dom_script.proofs.EditLines.{no-edit}
use Rattle.dom_script.proofs.script.edit_line.edit_of.Goals as goal

pub returns-in-None-clause-ok : goal.returns-in-None-clause-ok
returns-in-None-clause-ok c =
    no-edit c.args.line.now c.in_default.ensures (rw c.in_default-2.is at c.in_ok-edit.ensures) (rw c.in_default-3.is at c.in_ok-edit-2.ensures)
    (rw c.in_default-4.is at c.in_ok-edit-3.ensures) (rw c.in_default-5.is at c.in_ok-edit-4.ensures) (rw c.in-None.is at c.in_ok-place.ensures.ok)
