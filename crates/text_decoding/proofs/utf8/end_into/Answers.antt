use Rattle.text_decoding.proofs.Utf8Steps.{cut, ended}
use Rattle.text_decoding.proofs.utf8.end_into.Goals as goal

pub returns-then-state-eq0-clause-continues : goal.returns-then-state-eq0-clause-continues
returns-then-state-eq0-clause-continues c = ended _ _ c.if-state-eq0.true

pub returns-clause-continues : goal.returns-clause-continues
returns-clause-continues c = cut _ _ _ c.if-state-eq0.false c.in_ok-push.ensures.appends
