use Rattle.text_decoding.proofs.States.{not_empty, replaced_already, replaced_end, replaced_now}
use Rattle.text_decoding.proofs.state.replacement.Goals as goal

pub returns-then-state-clause-continues : goal.returns-then-state-clause-continues
returns-then-state-clause-continues c = λ more. replaced_already c.args.state _ _ more c.if-state.true

pub returns-then-state-clause-ended : goal.returns-then-state-clause-ended
returns-then-state-clause-ended c = replaced_end c.args.state

pub returns-clause-continues : goal.returns-clause-continues
returns-clause-continues c = λ more.
    replaced_now c.args.state c.args.out.now c.push.new.self c.args.bytes.now more c.if-state.false (not_empty _ c.if-is_empty.ensures) c.in_ok-push.ensures.appends
