use Rattle.std.proofs.Common.{◌∙◌, ap, sym, slice_get}
use Rattle.dom_index.proofs.TypeFilterLemmas.{name_wanted}
use Rattle.dom_index.proofs.type_filter.type_filter_of.Goals as goal

pub returns : goal.returns
returns c =
    name_wanted c.args.compound.now c.in-Some-Type.field-0.now c.in-Some-Type.name c.in_ok-number.number c.in_ok-number.ensures.1
    (sym (c.in-Some-Type.ensures.value ∙ ap (λ qs. slice_get qs 0) c.deref.ensures.value)) c.in-Some-Type.field-0-is c.is_one_part-is_all.result c.in_ok-number.ensures.0 c.is_one_part-is_all.ensures
