use Rattle.std.proofs.Common.{rules}
use Rattle.dom_markup.proofs.grammar.Reading.{SameEnd-refl, SameEnd-step, length_after}
use Rattle.dom_markup.proofs.document.scan.attributes_end.Goals as goal

pub loop-after-init : goal.loop-after-init
loop-after-init c = record { same = SameEnd-refl _; utf8 = c.utf8.text }

pub loop-after-preserved : goal.loop-after-preserved
loop-after-preserved c = record { same = SameEnd-step _ _ _ _ c.loop-after.invariant.same c.in-Some.ensures.some; utf8 = search rules }

pub loop-after-smaller : goal.loop-after-smaller
loop-after-smaller c = length_after _ _ _ c.in-Some.ensures.some
