use Rattle.std.proofs.Common.{sym, ◌∙◌}
use Rattle.text_decoding.proofs.Utf8Steps.{byte_first, byte_wrong}
use Rattle.text_decoding.proofs.utf8.push_byte.Goals as goal

pub returns-then-state-eq0-clause-continues : goal.returns-then-state-eq0-clause-continues
returns-then-state-eq0-clause-continues c = λ more. byte_first _ _ more _ _ _ c.if-state-eq0.true (c.in_ok-end.ensures.continues more)

pub returns-clause-continues : goal.returns-clause-continues
returns-clause-continues c =
    λ more. byte_wrong _ _ more _ _ _ _ c.if-state-eq0.false (sym c.is_between.ensures ∙ c.if-is_between.false) c.in_ok-push.ensures.appends (c.in_ok-end-2.ensures.continues more)
