use Rattle.std.proofs.Common.{◌∙◌, arith, sym}
use Rattle.encodings.specs.Runs.{in_run}
use Rattle.encodings.proofs.Cuts.{after_all, after_passed, after_stopped, front_all, front_found, front_more}
use Rattle.encodings.proofs.places.Run.split.Goals as goal

pub loop-i-preserved : goal.loop-i-preserved
loop-i-preserved c = (
  sym (after_passed (in_run c.args.self) c.args.bytes.now c.loop-i.i (omega arith) (sym c.if-not-has.ensures)) ∙ c.loop-i.invariant.0,
  front_more (in_run c.args.self) c.args.bytes.now c.loop-i.i (omega arith) (sym c.if-not-has.ensures) c.loop-i.invariant.1,
)

pub returns-then-not-has-clause-front : goal.returns-then-not-has-clause-front
returns-then-not-has-clause-front c =
    c.split_at.ensures.front ∙ front_found (in_run c.args.self) c.args.bytes.now c.loop-i.i (omega arith) (sym c.if-not-has.ensures) c.loop-i.invariant.1

pub returns-then-not-has-clause-rest : goal.returns-then-not-has-clause-rest
returns-then-not-has-clause-rest c =
    c.split_at.ensures.back ∙ sym (after_stopped (in_run c.args.self) c.args.bytes.now c.loop-i.i (omega arith) (sym c.if-not-has.ensures)) ∙ c.loop-i.invariant.0

pub returns-clause-front : goal.returns-clause-front
returns-clause-front c = front_all (in_run c.args.self) c.args.bytes.now c.loop-i.i (omega arith) c.loop-i.invariant.1

pub returns-clause-rest : goal.returns-clause-rest
returns-clause-rest c = after_all (in_run c.args.self) c.args.bytes.now c.loop-i.i (omega arith) c.loop-i.invariant.0
