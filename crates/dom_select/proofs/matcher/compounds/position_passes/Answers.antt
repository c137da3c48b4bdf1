use Rattle.std.proofs.Common.{◌∙◌, ap, arith}
use Rattle.std.specs.Prelude.{slice_index_or}
use Rattle.dom_select.proofs.matcher.compounds.position_passes.Goals as goal

pub is_nth-requires : goal.is_nth-requires
is_nth-requires c =
    let small = c.index_law.ensures c.args.position.kind in
    let right = ap (λ k. slice_index_or c.args.indexes.now k 0) c.kind_place.ensures.is ∙ c.requires.index in
    omega (arith, small, right)
