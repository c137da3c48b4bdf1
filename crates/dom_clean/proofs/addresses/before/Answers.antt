use Rattle.std.proofs.Common.{sym}
use Rattle.std.proofs.lemmas.Bool.{eqb-true}
use Rattle.dom_clean.proofs.Splitting.{found_before, found_nowhere}
use Rattle.dom_clean.proofs.addresses.before.Goals as goal

pub returns-in-Some : goal.returns-in-Some
returns-in-Some c =
    sym (found_before c.args.byte c.args.bytes.now c.in-Some.at c.in-Some.ensures.0.high (eqb-true _ _ c.in-Some.ensures.1) c.in-Some.ensures.0.before)

pub returns-in-None : goal.returns-in-None
returns-in-None c = sym (found_nowhere c.args.byte c.args.bytes.now c.in-None.ensures)
