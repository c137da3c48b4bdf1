use Rattle.std.proofs.Common.{sym, ◌∙◌, inl, inr}
use Rattle.dom_markup.proofs.grammar.Reading.{behind_first}
use Rattle.dom_markup.proofs.grammar.Spans.{nil_from_length}
use Rattle.dom_markup.proofs.grammar.Doctypes.{quoted_shape, quotes_differ}
use Rattle.dom_markup.proofs.document.doctypes.quoted_at.Goals as goal

pub returns-then-is_empty : goal.returns-then-is_empty
returns-then-is_empty c = record {
  some = tt;
  none = λ value rest h.
      (quoted_shape _ _ _ value rest c.split_front.ensures h).0 (nil_from_length _ (sym c.is_empty.ensures ∙ c.if-is_empty.true));
}

pub returns-in_err-found : goal.returns-in_err-found
returns-in_err-found c = rw c.from_residual.ensures (record {
  some = tt;
  none = λ value rest h. elim (quoted_shape _ _ _ value rest c.split_front.ensures h).1 [
    | inl e ↦ c.in_err-found.ensures.none value rest (behind_first 34 _ _ _ c.in-Some.ensures.some e)
    | inr e ↦ quotes_differ _ _ _ c.in-Some.ensures.some e
  ];
})

pub returns-in_err-inner : goal.returns-in_err-inner
returns-in_err-inner c = rw c.from_residual-in_err-inner.ensures (record {
  some = tt;
  none = λ value rest h. elim (quoted_shape _ _ _ value rest c.split_front.ensures h).1 [
    | inl e ↦ c.in_default.ensures.none _ e
    | inr e ↦ c.in_err-inner.ensures.none _ e
  ];
})

pub returns-in_err-found-2 : goal.returns-in_err-found-2
returns-in_err-found-2 c = rw c.from_residual-in_err-found-2.ensures (record {
  some = tt;
  none = λ value rest h. elim (quoted_shape _ _ _ value rest c.split_front.ensures h).1 [
    | inl e ↦ c.in_default.ensures.none _ e
    | inr e ↦ c.in_err-found-2.ensures.none value rest (behind_first 39 _ _ _ c.in_ok-inner.ensures.some e)
  ];
})
