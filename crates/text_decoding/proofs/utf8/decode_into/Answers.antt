use Rattle.std.proofs.Common.{sym, eqb-true}
use Rattle.decoded_text.proofs.Texts.{continues-start}
use Rattle.text_decoding.proofs.Utf8Steps.{loop_byte, loop_cut, loop_end}
use Rattle.text_decoding.proofs.utf8.decode_into.Goals as goal

pub loop-rest-init : goal.loop-rest-init
loop-rest-init c = record { continues = λ more. continues-start _ _; counted = c.requires }

pub loop-rest-preserved : goal.loop-rest-preserved
loop-rest-preserved c = record {
  continues = λ more. loop_byte _ _ _ _ _ _ _ _ _ _ _ more _ (c.loop-rest.invariant.continues more) (c.in_ok-behind.ensures.continues more) c.in-Some.ensures.cases.0
      (c.in_ok-state.ensures.continues _);
  counted = c.in_ok-state.ensures.counted;
}

pub returns-in_default-clause-continues : goal.returns-in_default-clause-continues
returns-in_default-clause-continues c =
    λ more. loop_cut _ _ _ _ _ _ _ _ more (c.loop-rest.invariant.continues more) (c.in_ok-behind.ensures.continues more) c.in_default.ensures.cases

pub returns-clause-continues : goal.returns-clause-continues
returns-clause-continues c = λ more. loop_end _ _ _ _ _ _ more (c.loop-rest.invariant.continues more) (eqb-true _ _ (sym c.loop-rest-test.ensures))
