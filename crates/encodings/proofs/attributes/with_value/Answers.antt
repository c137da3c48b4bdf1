use Rattle.std.proofs.Common.{sym, ◌∙◌}
use Rattle.encodings.proofs.Parts.{equals_found, equals_nothing, equals_other}
use Rattle.encodings.proofs.attributes.with_value.Goals as goal

pub returns-in_err-first : goal.returns-in_err-first
returns-in_err-first c = rw c.from_residual.ensures (equals_nothing c.args.name.now c.args.bytes.now c.in_err-first.ensures.cases)

pub returns-then-not-is_equals_sign : goal.returns-then-not-is_equals_sign
returns-then-not-is_equals_sign c =
    equals_other c.args.name.now c.args.bytes.now _ _ c.in_ok-first.ensures.cases.0 (sym c.is_equals_sign.ensures ∙ c.if-not-is_equals_sign.true)

pub returns-in-Some : goal.returns-in-Some
returns-in-Some c =
    equals_found c.args.name.now c.args.bytes.now _ _ _ _ c.in_ok-first.ensures.cases.0 (sym c.is_equals_sign.ensures ∙ c.if-not-is_equals_sign.false) c.skip.ensures
    (c.in-Some.ensures c.args.name.now)

pub returns-in-None : goal.returns-in-None
returns-in-None c =
    equals_found c.args.name.now c.args.bytes.now _ _ _ _ c.in_ok-first.ensures.cases.0 (sym c.is_equals_sign.ensures ∙ c.if-not-is_equals_sign.false) c.skip.ensures
    (c.in-None.ensures c.args.name.now)
