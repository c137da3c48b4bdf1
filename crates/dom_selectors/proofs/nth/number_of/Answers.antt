use Rattle.std.proofs.Common.{◌+◌, arith}
use Rattle.std.proofs.lemmas.Grind.{common_steps}
use Rattle.std.proofs.lemmas.Int.Digits.{digits_value_more}
use Rattle.std.proofs.lemmas.Str.Parse.{digits_value-take-le}
use Rattle.dom_selectors.proofs.nth.number_of.Goals as goal

pub returns-then-number-gt214748364 : goal.returns-then-number-gt214748364
returns-then-number-gt214748364 c =
    let more = digits_value_more 10 c.args.digits.now c.loop-c.c-index (omega arith) in
    let whole = digits_value-take-le 10 c.args.digits.now (c.loop-c.c-index + 1) (omega arith) in
    let before = c.loop-c.invariant in
    omega arith

pub loop-c-preserved : goal.loop-c-preserved
loop-c-preserved c = grind (arith, common_steps, digits_value_more)
