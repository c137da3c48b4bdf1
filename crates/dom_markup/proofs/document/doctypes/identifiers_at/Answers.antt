use Rattle.std.proofs.Common.{refl, inr}
use Rattle.dom_markup.proofs.grammar.Doctypes.{public_known, after_public, from_public, after_system, system_some, system_one, after_none}
use Rattle.dom_markup.proofs.document.doctypes.identifiers_at.Goals as goal

pub word_end-requires : goal.word_end-requires
word_end-requires c = public_known

pub returns-in_err-found : goal.returns-in_err-found
returns-in_err-found c = rw c.from_residual.ensures (record {
  some = tt;
  none = λ p s r h.
      c.in_err-found.ensures.none p s r (after_public _ _ p s r c.in-Some.ensures.some c.in-Some.ensures.whole h);
})

pub returns-in_err-system : goal.returns-in_err-system
returns-in_err-system c = rw c.from_residual-in_err-system.ensures (record {
  some = tt;
  none = λ p s r h.
      let some = system_some _ p s r (after_system _ _ p s r c.in-Some-word_end.ensures.some c.in-Some-word_end.ensures.whole h) in
      c.in_err-system.ensures.none s some.0 some.1;
})

pub returns-in_err-rest : goal.returns-in_err-rest
returns-in_err-rest c = rw c.from_residual-in_err-rest.ensures (record {
  some = tt;
  none = λ p s r h.
      c.in_err-rest.ensures.none r (system_one _ _ _ p s r c.in_ok-system.ensures.some (after_system _ _ p s r c.in-Some-word_end.ensures.some c.in-Some-word_end.ensures.whole h)).2;
})

pub returns-in_err-rest-2 : goal.returns-in_err-rest-2
returns-in_err-rest-2 c = rw c.from_residual-in_err-rest-2.ensures (record {
  some = tt;
  none = λ p s r h.
      c.in_err-rest-2.ensures.none r (after_none _ p s r c.in_default.ensures.none c.in_default-word_end.ensures.none h).2;
})

pub returns-in-Some-word_end : goal.returns-in-Some-word_end
returns-in-Some-word_end c = record { some = (c.in_ok-system.close.now, inr (inr (inr (c.in-Some-word_end.after.now, c.in-Some-word_end.ensures.some, c.in_ok-system.ensures.some, refl))), c.in_ok-rest.ensures.some); none = tt }

pub returns-in-Some : goal.returns-in-Some
returns-in-Some c = record { some = from_public _ _ _ _ _ c.in-Some.ensures.some c.in_ok-found.ensures.some; none = tt }
