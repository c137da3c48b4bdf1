use Rattle.std.proofs.Common.{◌≡◌, ◌∷◌, false, sym, ◌∙◌, inl, inr}
use Rattle.std.proofs.lemmas.Bool.{true≢false}
use Rattle.dom_markup.proofs.grammar.Reading.{close_shape}
use Rattle.dom_markup.proofs.document.scan.close_at.Goals as goal

pub returns-then-not-slash : goal.returns-then-not-slash
returns-then-not-slash c = record {
  some = tt;
  none = λ rest h. elim (close_shape c.args.slash _ _ _ rest c.split_front.ensures h) [
    | inl is ↦ c.in_default.ensures.none rest is
    | inr is ↦ (let off : c.args.slash ≡ false = search in true≢false (sym is.0 ∙ off))
  ];
}

pub returns-in_err-close : goal.returns-in_err-close
returns-in_err-close c = rw c.from_residual.ensures (record {
  some = tt;
  none = λ rest h. elim (close_shape c.args.slash _ _ _ rest c.split_front.ensures h) [
    | inl is ↦ c.in_default.ensures.none rest is
    | inr is ↦ c.in_err-close.ensures.none _ is.1
  ];
})

pub returns-in_err-rest : goal.returns-in_err-rest
returns-in_err-rest c = rw c.from_residual-in_err-rest.ensures (record {
  some = tt;
  none = λ rest h. elim (close_shape c.args.slash _ _ _ rest c.split_front.ensures h) [
    | inl is ↦ c.in_default.ensures.none rest is
    | inr is ↦ (let left : c.in_ok-close.close.now ≡ 62 ∷ rest = cc (c.in_ok-close.ensures.some, is.1) in c.in_err-rest.ensures.none rest left)
  ];
})
