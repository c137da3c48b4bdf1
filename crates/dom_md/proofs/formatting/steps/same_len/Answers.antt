use Rattle.std.proofs.Common.{◌∙◌, sym}
use Rattle.dom_md.proofs.SpacedLemmas.{same_more}
use Rattle.dom_md.proofs.formatting.steps.same_len.Goals as goal

pub loop-at-init : goal.loop-at-init
loop-at-init c = record { same = c.same_blocks-at.ensures.same; boundary = c.same_blocks-at.ensures.boundary }

pub loop-at-preserved : goal.loop-at-preserved
loop-at-preserved c = same_more c.args.bytes.now c.loop-at.at c.loop-at-test.true c.loop-at.invariant (sym c.stays.ensures ∙ c.if-not-stays.false)
