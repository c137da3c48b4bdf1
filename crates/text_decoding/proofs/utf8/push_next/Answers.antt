use Rattle.text_decoding.proofs.Utf8Steps.{next_last, next_more}
use Rattle.text_decoding.proofs.utf8.push_next.Goals as goal

pub returns-then-state-eq1-clause-continues : goal.returns-then-state-eq1-clause-continues
returns-then-state-eq1-clause-continues c =
    λ more. next_last _ _ _ more _ _ _ c.requires.within.0 c.requires.within.1 c.if-state-eq1.true c.code_with-code.ensures c.character.ensures c.in_ok-push.ensures.appends

pub returns-clause-continues : goal.returns-clause-continues
returns-clause-continues c = λ more. next_more _ _ _ more _ c.requires.within.0 c.requires.within.1 c.if-state-eq1.false c.code_with-code.ensures
