use Rattle.std.proofs.Common.{ap, sym, ◌∙◌, length}
use Rattle.std.specs.Prelude.{◌==◌}
use Rattle.dom_select.proofs.types.TypeLemmas.{type_of_one}
use Rattle.dom_select.proofs.matcher.matches.sole_type.Goals as goal

pub returns : goal.returns
returns c = type_of_one c.sole_type_selector.result c.args.selectors.now c.selector-item.result c.in-len1.len_at_least c.in-len1.len_below c.selector-item.is (ap (λ steps. length steps == 0) (sym c.as_slice.ensures.value) ∙ (sym c.is_empty.ensures ∙ c.if-not-is_empty.false)) c.sole_type_selector.ensures
