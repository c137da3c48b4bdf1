use Rattle.text_decoding.proofs.States.{utf8_ends, utf8_last}
use Rattle.text_decoding.proofs.state.utf8.Goals as goal

pub returns-then-is_last-clause-continues : goal.returns-then-is_last-clause-continues
returns-then-is_last-clause-continues c =
    λ more last. utf8_last _ _ _ _ _ _ more (last c.if-is_last.true) (c.in_ok-utf8.ensures.continues more) c.in_ok-end_into.ensures.continues

pub returns-then-is_last-clause-ended : goal.returns-then-is_last-clause-ended
returns-then-is_last-clause-ended c = λ last. utf8_ends
