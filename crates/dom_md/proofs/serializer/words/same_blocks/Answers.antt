use Rattle.std.proofs.Common.{arith, length, refl}
use Rattle.dom_md.proofs.BlockLemmas.{same_bytes}
use Rattle.dom_md.proofs.LaneLemmas.{run_within}
use Rattle.dom_md.proofs.serializer.words.same_blocks.Goals as goal

pub loop-at-init : goal.loop-at-init
loop-at-init c = record { within = omega arith; same = refl }

pub returns-then-run-lt16-clause-same : goal.returns-then-run-lt16-clause-same
returns-then-run-lt16-clause-same c =
    let within = run_within (length c.args.bytes.now) c.loop-at.at c.same_run-run.result c.loop-at-test.true c.same_run-run.ensures.within in
    same_bytes c.args.escape c.args.bytes.now c.loop-at.at c.same_run-run.result within c.loop-at.invariant.same c.same_run-run.ensures.same

pub loop-at-preserved : goal.loop-at-preserved
loop-at-preserved c =
    let within = run_within (length c.args.bytes.now) c.loop-at.at c.same_run-run.result c.loop-at-test.true c.same_run-run.ensures.within in
    record { within = within; same = same_bytes c.args.escape c.args.bytes.now c.loop-at.at c.same_run-run.result within c.loop-at.invariant.same c.same_run-run.ensures.same }
