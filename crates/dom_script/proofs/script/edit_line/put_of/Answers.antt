use Rattle.dom_script.proofs.EditLines.{puts-nothing}
use Rattle.dom_script.proofs.script.edit_line.put_of.Goals as goal

pub returns-clause-ok : goal.returns-clause-ok
returns-clause-ok c =
    puts-nothing c.args.line.now (rw c.in_default.is at c.in_ok-snippet.ensures.ok) (rw c.in_default-2.is at c.in_ok-snippet-2.ensures.ok)
    (rw c.in_default-3.is at c.in_ok-snippet-3.ensures.ok) (rw c.in_default-4.is at c.in_ok-snippet-4.ensures.ok)
    (rw c.in_default-5.is at c.in_ok-snippet-5.ensures.ok) (rw c.in_default-6.is at c.in_ok-snippet-6.ensures.ok)
