use Rattle.text_decoding.proofs.States.{single}
use Rattle.text_decoding.proofs.state.single_byte.Goals as goal

pub returns-clause-continues : goal.returns-clause-continues
returns-clause-continues c = λ more. single _ _ _ _ more c.in_ok-decode_into.ensures.appends
