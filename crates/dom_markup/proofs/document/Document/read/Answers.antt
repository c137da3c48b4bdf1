use Rattle.std.proofs.Common.{sym, ap, map, [], length, ◌∙◌, subst, arith, rules}
use Rattle.dom_links.specs.Forest.{Forest}
use Rattle.std.proofs.lemmas.Grind.{common_steps}
use Rattle.dom_markup.specs.Frames.{HasRead}
use Rattle.dom_markup.specs.Reader.{opened_by}
use Rattle.dom_markup.specs.Token.{mode_of}
use Rattle.std.proofs.lemmas.Bool.{eqb-true, eqb-false}
use Rattle.dom_markup.proofs.rows.Frames.{nil_from_length0}
use Rattle.dom_markup.proofs.grammar.Items.{Begins-shorter}
use Rattle.dom_markup.proofs.rows.Steps.{progress_none, progress_step, stopped, whole_text, unfinished, refused}
use Rattle.dom_markup.proofs.document.Document.read.Goals as goal

pub loop-left-init : goal.loop-left-init
loop-left-init c = record {
  progress = progress_none _ _ (subst (λ (f : Forest). HasRead [] f (map opened_by c.in-Ok.reader.stack.items)) (sym c.reserve.ensures) c.in-Ok.ensures);
  utf8 = c.utf8.source;
}

pub loop-left-preserved : goal.loop-left-preserved
loop-left-preserved c =
    let progress = c.loop-left.invariant.progress in
    let read = c.in-Ok-read.ensures progress.items progress.read in
    record { progress = progress_step _ _ _ _ _ _ _ progress read.0 read.1 read.2 read.3; utf8 = search rules }

pub loop-left-smaller : goal.loop-left-smaller
loop-left-smaller c =
    let progress = c.loop-left.invariant.progress in
    let read = c.in-Ok-read.ensures progress.items progress.read in
    Begins-shorter (mode_of c.loop-left.within) c.loop-left.left.now read.0 _ read.1

pub returns-in-Err-clause-fault : goal.returns-in-Err-clause-fault
returns-in-Err-clause-fault c =
    let progress = c.loop-left.invariant.progress in
    let cause = stopped _ _ _ _ _ _ progress (λ e. eqb-false (length c.loop-left.left.now) 0 (sym c.loop-left-test.ensures) (ap length e)) (omega (arith, progress.within)) (c.in-Err.ensures progress.items progress.read) in
    record { refused = refused _ _ _ cause; place = omega arith; cause = cause }

pub returns-in-Ok-finish-clause-ok : goal.returns-in-Ok-finish-clause-ok
returns-in-Ok-finish-clause-ok c =
    let progress = c.loop-left.invariant.progress in
    let none = nil_from_length0 c.loop-left.left.now (eqb-true (length c.loop-left.left.now) 0 (sym c.loop-left-test.ensures)) in
    let read = whole_text _ _ _ _ c.in-Ok-finish.tree progress none (c.in-Ok-finish.ensures progress.items progress.read) in
    record { spelled = (read.0, read.1, c.whole.ensures.tree ∙ read.2); notes = c.whole.ensures.notes }

pub returns-in-Err-finish-clause-fault : goal.returns-in-Err-finish-clause-fault
returns-in-Err-finish-clause-fault c =
    let progress = c.loop-left.invariant.progress in
    let none = nil_from_length0 c.loop-left.left.now (eqb-true (length c.loop-left.left.now) 0 (sym c.loop-left-test.ensures)) in
    let cause = unfinished _ _ _ _ _ progress none (c.in-Err-finish.ensures progress.items progress.read) in
    record { refused = refused _ _ _ cause; place = omega arith; cause = cause }

pub returns-in_default-clause-ok : goal.returns-in_default-clause-ok
returns-in_default-clause-ok c = grind (arith, common_steps)

pub returns-in_default-clause-fault : goal.returns-in_default-clause-fault
returns-in_default-clause-fault c = grind (arith, common_steps)

pub is_empty-requires-text-self : goal.is_empty-requires-text-self
is_empty-requires-text-self c = grind (arith, common_steps)

pub read-requires-clause-reading : goal.read-requires-clause-reading
read-requires-clause-reading c = grind (arith, common_steps)

pub read-requires-clause-some : goal.read-requires-clause-some
read-requires-clause-some c = grind (arith, common_steps)

pub overflow_sub-result : goal.overflow_sub-result
overflow_sub-result c = grind (arith, common_steps)

pub returns-in-Err-clause-ok : goal.returns-in-Err-clause-ok
returns-in-Err-clause-ok c = grind (arith, common_steps)

pub returns-in-Ok-finish-clause-fault : goal.returns-in-Ok-finish-clause-fault
returns-in-Ok-finish-clause-fault c = grind (arith, common_steps)

pub returns-in-Err-finish-clause-ok : goal.returns-in-Err-finish-clause-ok
returns-in-Err-finish-clause-ok c = grind (arith, common_steps)
