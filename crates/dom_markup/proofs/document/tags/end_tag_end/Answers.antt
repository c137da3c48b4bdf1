use Rattle.std.proofs.Common.{refl, rules}
use Rattle.dom_markup.proofs.grammar.Reading.{end_tag_shape}
use Rattle.dom_markup.proofs.grammar.Items.{end_made}
use Rattle.dom_markup.proofs.document.tags.end_tag_end.Goals as goal

pub returns-in_err-rest-clause-none : goal.returns-in_err-rest-clause-none
returns-in_err-rest-clause-none c = rw c.from_residual.ensures (λ name rest h.
    let shape = end_tag_shape _ _ _ _ _ _ refl c.split_front.ensures c.split_front-2.ensures name rest h in
    c.in_err-rest.ensures.none rest shape.1)

pub returns-clause-some : goal.returns-clause-some
returns-clause-some c = end_made _ _ _ _ _ _ c.split_front.ensures c.split_front-2.ensures (search rules) c.in_ok-rest.ensures.some

pub returns-then-not-names_element-clause-none : goal.returns-then-not-names_element-clause-none
returns-then-not-names_element-clause-none c = λ name rest h.
    let shape = end_tag_shape _ _ _ _ _ _ refl c.split_front.ensures c.split_front-2.ensures name rest h in
    c.if-not-names_element.ensures name shape.0
