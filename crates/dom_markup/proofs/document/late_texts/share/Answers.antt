use Rattle.std.proofs.Common.{ap, length, arith}
use Rattle.dom_markup.proofs.rows.LateLemmas.{lies_joined}
use Rattle.dom_markup.proofs.document.late_texts.share.Goals as goal

pub within-requires : goal.within-requires
within-requires c =
    rw (c.loop-one.invariant.start, c.requires.texts) (lies_joined c.args.late.now c.loop-one.one-index c.one-item.result c.loop-one-test.true c.one-item.is)

pub overflow_add-start : goal.overflow_add-start
overflow_add-start c =
    let lies = lies_joined c.args.late.now c.loop-one.one-index c.one-item.result c.loop-one-test.true c.one-item.is in
    omega (arith, lies.0, c.loop-one.invariant.start, ap length c.requires.texts, c.requires.fits)
