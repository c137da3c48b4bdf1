use Rattle.std.proofs.Common.{refl, sym, ◌∙◌}
use Rattle.std.proofs.lemmas.Bool.{false≢true}
use Rattle.dom_markup.proofs.grammar.Spans.{nil_from_length, length_from_nil}
use Rattle.dom_markup.proofs.grammar.Doctypes.{doctype_shape, doctype_made}
use Rattle.dom_markup.proofs.document.doctypes.doctype_at.Goals as goal

pub returns-then-not-eq_ignore_ascii_case-clause-none : goal.returns-then-not-eq_ignore_ascii_case-clause-none
returns-then-not-eq_ignore_ascii_case-clause-none c = λ n p s r h.
    let shape = doctype_shape _ _ _ _ _ _ _ _ n p s r refl c.split_front.ensures c.split_front-2.ensures c.split_front-3.ensures h in
    false≢true (c.if-not-eq_ignore_ascii_case.ensures.test.1 shape.is_word)

pub returns-then-is_empty-clause-none : goal.returns-then-is_empty-clause-none
returns-then-is_empty-clause-none c = λ n p s r h.
    let shape = doctype_shape _ _ _ _ _ _ _ _ n p s r refl c.split_front.ensures c.split_front-2.ensures c.split_front-3.ensures h in
    shape.some_space (nil_from_length _ (sym c.is_empty.ensures ∙ c.if-is_empty.true))

pub returns-then-is_empty-2-clause-none : goal.returns-then-is_empty-2-clause-none
returns-then-is_empty-2-clause-none c = λ n p s r h.
    let shape = doctype_shape _ _ _ _ _ _ _ _ n p s r refl c.split_front.ensures c.split_front-2.ensures c.split_front-3.ensures h in
    shape.some_name (nil_from_length _ (sym c.is_empty-2.ensures ∙ c.if-is_empty-2.true))

pub returns-in_err-public-clause-none : goal.returns-in_err-public-clause-none
returns-in_err-public-clause-none c = rw c.from_residual.ensures (λ n p s r h.
    let shape = doctype_shape _ _ _ _ _ _ _ _ n p s r refl c.split_front.ensures c.split_front-2.ensures c.split_front-3.ensures h in
    c.in_err-public.ensures.none p s r shape.ends)

pub returns-clause-some : goal.returns-clause-some
returns-clause-some c =
    doctype_made _ _ _ _ _ _ _ _ _ _ c.split_front.ensures c.split_front-2.ensures c.split_front-3.ensures (c.if-not-eq_ignore_ascii_case.ensures.test.0 refl)
    (λ e. length_from_nil _ e (sym c.is_empty.ensures ∙ c.if-is_empty.false)) (λ e. length_from_nil _ e (sym c.is_empty-2.ensures ∙ c.if-is_empty-2.false)) c.in_ok-public.ensures.some
