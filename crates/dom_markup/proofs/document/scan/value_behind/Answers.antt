use Rattle.dom_markup.proofs.grammar.Reading.{value_none, value_some, value_from}
use Rattle.dom_markup.proofs.document.scan.value_behind.Goals as goal

pub returns-in_default-clause-some : goal.returns-in_default-clause-some
returns-in_default-clause-some c = value_none _ _ _ c.split_front.ensures c.in_default.ensures.none

pub returns-in_err-found-clause-none : goal.returns-in_err-found-clause-none
returns-in_err-found-clause-none c = rw c.from_residual.ensures (λ value rest h.
    let written = value_from _ _ _ _ _ _ value rest c.split_front.ensures c.in-Some.ensures.some c.split_front-2.ensures h in
    c.in_err-found.ensures.none written.0 rest written.1)

pub returns-clause-some : goal.returns-clause-some
returns-clause-some c = value_some _ _ _ _ _ _ _ _ c.split_front.ensures c.in-Some.ensures.some c.split_front-2.ensures c.in_ok-found.ensures.some
