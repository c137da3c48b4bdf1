use Rattle.std.proofs.Common.{arith, sym}
use Rattle.std.proofs.lemmas.Fmt.{decimal_digit, decimal_step}
use Rattle.std.proofs.lemmas.Result.{err_from_is_err_and}
use Rattle.dom_markup.proofs.html.WritingLemmas.{fault-first, then-writes}
use Rattle.dom_query.proofs.numbers.+write_number.Goals as goal

pub returns-then-number-lt10 : goal.returns-then-number-lt10
returns-then-number-lt10 g t c = rw (decimal_digit c.args.number c.if-number-lt10.true) c.write_bytes.ensures.written

pub returns-in_err-write_number : goal.returns-in_err-write_number
returns-in_err-write_number g t c =
    let p = err_from_is_err_and c.from_residual.result c.from_residual.ensures.1 in
    rw p.1 (fault-first _ _ _ _ _ c.in_err-write_number.ensures (sym (decimal_step c.args.number (omega (arith, c.if-number-lt10.false)) c.ranges.number.fits)))

pub returns : goal.returns
returns g t c =
    then-writes _ _ _ c.write_bytes-2.result _ _ _ c.in_ok-write_number.ensures c.write_bytes-2.ensures.written
    (sym (decimal_step c.args.number (omega (arith, c.if-number-lt10.false)) c.ranges.number.fits))
