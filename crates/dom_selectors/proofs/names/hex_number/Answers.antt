use Rattle.std.proofs.Common.{arith}
use Rattle.std.proofs.lemmas.Grind.{common_steps}
use Rattle.std.proofs.lemmas.Int.Digits.{digits_value_more}
use Rattle.dom_selectors.proofs.NameLemmas.{hex_small, hex_fits}
use Rattle.dom_selectors.proofs.names.hex_number.Goals as goal

pub overflow_mul-number : goal.overflow_mul-number
overflow_mul-number c = let fits = hex_fits c.loop-c.number c.loop-c.c-index 0 (omega arith) (omega arith) c.loop-c.invariant.small in omega arith

pub overflow_add-number : goal.overflow_add-number
overflow_add-number c =
    let fits = hex_fits c.loop-c.number c.loop-c.c-index c.digit_value.result (omega arith) c.digit_value.ensures.small c.loop-c.invariant.small in
    omega arith

pub loop-c-preserved : goal.loop-c-preserved
loop-c-preserved c =
    record {
      value = grind (arith, common_steps, digits_value_more);
      small = hex_small c.loop-c.number c.loop-c.c-index c.digit_value.result c.digit_value.ensures.small c.loop-c.invariant.small;
    }
