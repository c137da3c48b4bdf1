use Rattle.dom_markup.proofs.grammar.Doctypes.{public_some, public_one, public_two}
use Rattle.dom_markup.proofs.document.doctypes.public_at.Goals as goal

pub returns-in_err-public : goal.returns-in_err-public
returns-in_err-public c = rw c.from_residual.ensures (record {
  some = tt;
  none = λ p s r h.
      let some = public_some _ p s r h in
      c.in_err-public.ensures.none p some.0 some.1;
})

pub returns-in_err-rest : goal.returns-in_err-rest
returns-in_err-rest c = rw c.from_residual-in_err-rest.ensures (record {
  some = tt;
  none = λ p s r h.
      c.in_err-rest.ensures.none r (public_one _ _ _ p s r c.in_ok-public.ensures.some c.in_default.ensures.none h).2;
})

pub returns-in_err-rest-2 : goal.returns-in_err-rest-2
returns-in_err-rest-2 c = rw c.from_residual-in_err-rest-2.ensures (record {
  some = tt;
  none = λ p s r h.
      c.in_err-rest-2.ensures.none r (public_two _ _ _ _ _ p s r c.in_ok-public.ensures.some c.in-Some.ensures.some h).2;
})
