use Rattle.std.proofs.Common.{arith, length}
use Rattle.dom_md.proofs.LaneLemmas.{run_within}
use Rattle.dom_md.proofs.SpacedLemmas.{same_none, same_run}
use Rattle.dom_md.proofs.formatting.steps.same_blocks.Goals as goal

pub loop-at-init : goal.loop-at-init
loop-at-init c = record { within = omega arith; same = same_none c.args.bytes.now }

pub returns-then-run-lt16-clause-boundary : goal.returns-then-run-lt16-clause-boundary
returns-then-run-lt16-clause-boundary c =
    let within = run_within (length c.args.bytes.now) c.loop-at.at c.same_run-run.result c.loop-at-test.true c.same_run-run.ensures.within in
    (same_run c.args.bytes.now c.loop-at.at c.same_run-run.result within c.loop-at.invariant.same c.same_run-run.ensures.stay).boundary

pub returns-then-run-lt16-clause-same : goal.returns-then-run-lt16-clause-same
returns-then-run-lt16-clause-same c =
    let within = run_within (length c.args.bytes.now) c.loop-at.at c.same_run-run.result c.loop-at-test.true c.same_run-run.ensures.within in
    (same_run c.args.bytes.now c.loop-at.at c.same_run-run.result within c.loop-at.invariant.same c.same_run-run.ensures.stay).same

pub loop-at-preserved : goal.loop-at-preserved
loop-at-preserved c =
    let within = run_within (length c.args.bytes.now) c.loop-at.at c.same_run-run.result c.loop-at-test.true c.same_run-run.ensures.within in
    record { within = within; same = same_run c.args.bytes.now c.loop-at.at c.same_run-run.result within c.loop-at.invariant.same c.same_run-run.ensures.stay }
