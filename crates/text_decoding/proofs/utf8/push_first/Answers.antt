use Rattle.text_decoding.proofs.Utf8Steps.{first_alone}
use Rattle.text_decoding.proofs.utf8.push_first.Goals as goal

pub returns-clause-continues : goal.returns-clause-continues
returns-clause-continues c = λ more. first_alone _ more _ _ _ c.in_default.ensures c.alone.ensures c.in_ok-push.ensures.appends
