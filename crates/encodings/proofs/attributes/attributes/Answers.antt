use Rattle.std.proofs.Common.{◌∙◌, Some, ap, arith, eqb-true, refl, sym}
use Rattle.std.specs.Option.{option_map}
use Rattle.encodings.specs.Attributes.{no_attributes, noted}
use Rattle.encodings.specs.Views.{attribute_of}
use Rattle.encodings.proofs.Tails.{attribute_read, attributes_cut, attributes_end, attributes_none}
use Rattle.encodings.proofs.attributes.attributes.Goals as goal

pub loop-rest-init : goal.loop-rest-init
loop-rest-init c = (no_attributes, record { http_equiv = refl; content = refl; charset = refl; pragma = refl; need = refl; found = refl }, refl)

pub loop-rest-preserved : goal.loop-rest-preserved
loop-rest-preserved c = (
  noted c.loop-rest.invariant.0 (attribute_of c.in-Some.attribute),
  c.with-declared.ensures c.loop-rest.invariant.0 c.loop-rest.invariant.1,
  sym (attribute_read c.loop-rest.invariant.0 _ _ (attribute_of c.in-Some.attribute) (ap (λ one. Some (option_map attribute_of one, c.in_ok-got.got.1.now)) (sym c.in-Some.is) ∙ c.in_ok-got.ensures)).0
      ∙ c.loop-rest.invariant.2,
)

pub loop-rest-smaller : goal.loop-rest-smaller
loop-rest-smaller c =
    omega (arith, (attribute_read c.loop-rest.invariant.0 _ _ (attribute_of c.in-Some.attribute) (ap (λ one. Some (option_map attribute_of one, c.in_ok-got.got.1.now)) (sym c.in-Some.is) ∙ c.in_ok-got.ensures)).1)

pub returns-in_err-got : goal.returns-in_err-got
returns-in_err-got c = rw c.from_residual.ensures (sym c.loop-rest.invariant.2 ∙ attributes_cut c.loop-rest.invariant.0 _ c.in_err-got.ensures)

pub returns-in-None : goal.returns-in-None
returns-in-None c = (
  c.loop-rest.invariant.0,
  c.loop-rest.invariant.1,
  sym c.loop-rest.invariant.2 ∙ attributes_end c.loop-rest.invariant.0 _ _ (ap (λ one. Some (option_map attribute_of one, c.in_ok-got.got.1.now)) (sym c.in-None.is) ∙ c.in_ok-got.ensures),
)

pub returns : goal.returns
returns c = sym c.loop-rest.invariant.2 ∙ attributes_none c.loop-rest.invariant.0 c.loop-rest.rest.now (eqb-true _ 0 (sym c.is_empty.ensures ∙ c.loop-rest-test.false))
