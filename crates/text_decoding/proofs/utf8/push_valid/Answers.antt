use Rattle.text_decoding.proofs.Utf8Steps.{valid}
use Rattle.text_decoding.proofs.utf8.push_valid.Goals as goal

pub returns-clause-continues : goal.returns-clause-continues
returns-clause-continues c =
    λ more. valid _ _ _ _ more _ _ c.if-state-ne0.false c.valid_front.ensures.parts c.valid_front.ensures.text c.in_ok-push_str.ensures.appends
