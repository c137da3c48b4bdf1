use Rattle.dom_script.proofs.Lines.{no-query}
use Rattle.dom_script.proofs.script.query_of.Goals as goal

pub returns : goal.returns
returns c =
    no-query c.args.line.now (rw c.in_default.is at c.in_ok-matcher.ensures) (rw c.in_default-2.is at c.in_ok-matcher-2.ensures)
    (rw c.in_default-3.is at c.in_ok-matcher-3.ensures) (rw c.in_default-4.is at c.in_ok-matcher-4.ensures)
