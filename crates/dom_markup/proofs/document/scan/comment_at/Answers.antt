use Rattle.std.specs.Prelude.{codes}
use Rattle.dom_markup.proofs.grammar.Marks.{found_first, found_nowhere}
use Rattle.dom_markup.proofs.document.scan.comment_at.Goals as goal

pub returns-clause-some : goal.returns-clause-some
returns-clause-some c =
    let found = c.in_ok-contents.ensures.cases in
    found_first (codes "-->") c.args.text.now _ _ found.0 found.1 found.2 found.3 found.4 found.6

pub returns-in_err-contents-clause-none : goal.returns-in_err-contents-clause-none
returns-in_err-contents-clause-none c = rw c.from_residual.ensures (found_nowhere (codes "-->") c.args.text.now c.in_err-contents.ensures.cases)
