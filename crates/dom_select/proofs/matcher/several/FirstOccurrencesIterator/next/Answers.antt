use Rattle.std.proofs.Common.{ap, sym, ◌∙◌}
use Rattle.dom_select.specs.Marks.{first_unmarked}
use Rattle.dom_select.proofs.SeveralLemmas.{with_mark, without_mark}
use Rattle.dom_select.proofs.matcher.several.FirstOccurrencesIterator.next.Goals as goal

pub returns-in_err-id-clause-steps : goal.returns-in_err-id-clause-steps
returns-in_err-id-clause-steps c =
    rw c.from_residual.ensures (
      sym c.self.view_is ∙ sym c.loop-id.invariant ∙ ap (first_unmarked c.loop-id.self-inside.marks.items) c.in_err-id.ensures.0,
      ap (first_unmarked c.loop-id.self-inside.marks.items) c.in_err-id.ensures.1,
    )

pub returns-then-mark-clause-steps : goal.returns-then-mark-clause-steps
returns-then-mark-clause-steps c =
    sym c.self.view_is ∙ sym c.loop-id.invariant ∙ ap (first_unmarked c.loop-id.self-inside.marks.items) c.in_ok-id.ensures
    ∙ without_mark c.loop-id.self-inside.marks.items c.mark.new.marks.items c.in_ok-id.id c.next.new.self c.if-mark.ensures.0 c.if-mark.ensures.1

pub loop-id-preserved : goal.loop-id-preserved
loop-id-preserved c =
    sym (with_mark c.loop-id.self-inside.marks.items c.mark.new.marks.items c.in_ok-id.id c.next.new.self c.if-mark.ensures.0 c.if-mark.ensures.1)
    ∙ sym (ap (first_unmarked c.loop-id.self-inside.marks.items) c.in_ok-id.ensures) ∙ c.loop-id.invariant
