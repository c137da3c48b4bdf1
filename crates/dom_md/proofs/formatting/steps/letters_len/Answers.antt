use Rattle.std.proofs.Common.{refl}
use Rattle.dom_md.proofs.SpacedLemmas.{read_all, read_more, shorter-past}
use Rattle.dom_md.proofs.formatting.steps.letters_len.Goals as goal

pub loop-after-smaller : goal.loop-after-smaller
loop-after-smaller c = shorter-past c.loop-after.left.now c.in-Some.after.now _ c.in-Some.ensures.0

pub loop-after-preserved : goal.loop-after-preserved
loop-after-preserved c = read_more c.args.text.now c.loop-after.left.now c.in-Some.after.now _ c.loop-after.invariant c.in-Some.ensures.0 c.in-Some.ensures.1

pub returns-clause-boundary : goal.returns-clause-boundary
returns-clause-boundary c = (read_all c.args.text.now c.loop-after.left.now _ c.loop-after.invariant refl).0
