use Rattle.std.proofs.Common.{◌∙◌}
use Rattle.dom_clean.proofs.SpelledCuts.{cut_after, cut_before, front_is, spells_all, spells_cut}
use Rattle.dom_clean.proofs.values.cut_unspelled.Goals as goal

pub returns-in_err-at : goal.returns-in_err-at
returns-in_err-at c = rw c.from_residual.ensures (spells_all c.args.text.now c.utf8.text (rw c.as_bytes.ensures.value at c.in_err-at.ensures))

pub range-requires-clause-end_boundary : goal.range-requires-clause-end_boundary
range-requires-clause-end_boundary c = cut_before c.args.text.now c.in_ok-at.at (rw c.as_bytes.ensures.value at c.in_ok-at.ensures)

pub range_from-requires : goal.range_from-requires
range_from-requires c = λ some. cut_after c.args.text.now c.in_ok-at.at c.utf8.text (rw c.as_bytes.ensures.value at c.in_ok-at.ensures)

pub returns : goal.returns
returns c = rw (c.range.ensures.value ∙ front_is c.args.text.now c.in_ok-at.at, c.range_from.ensures.value) (spells_cut c.args.text.now c.in_ok-at.at c.utf8.text (rw c.as_bytes.ensures.value at c.in_ok-at.ensures))
