use Rattle.std.proofs.Common.{rules}
use Rattle.std.proofs.lemmas.List.Filters.{FiltersInPlace-more_swap, FiltersInPlace-more_no}
use Rattle.dom_nodes.specs.Kept.{keeps}
use Rattle.dom_nodes.proofs.PartLemmas.{few_left}
use Rattle.dom_nodes.proofs.node_data.attrs_form.keep_in_front.Goals as goal
use Rattle.dom_nodes.proofs.node_data.attrs_form.keep_in_front.Goals.{then-keeps, else-keeps}

pub loop-place-preserved : goal.loop-place-preserved
loop-place-preserved c = elim c.if-keeps.branch [
  | then-keeps w ↦ rw (w.list-is, w.left-is) (FiltersInPlace-more_swap c.loop-place.invariant (search rules) (search rules) c.index-list-place.is w.swap.ensures.by_index)
  | else-keeps w ↦ rw (w.list-is, w.left-is) (FiltersInPlace-more_no c.loop-place.invariant (search rules) (search rules) c.index-list-place.is)
]

pub returns-clause-front : goal.returns-clause-front
returns-clause-front c =
    few_left (keeps c.args.kept) _ _ c.loop-place.left c.loop-place.place c.args.count c.loop-place.invariant (search rules)
