use Rattle.std.proofs.lemmas.List.Filters.{FiltersInPlace}
use Rattle.dom_nodes.specs.Kept.{keeps}
use Rattle.dom_nodes.proofs.node_data.attrs_form.keep_in_front.Given as goal

-- those kept so far stand in front
abbrev pub invariant-loop-place : goal.invariant-loop-place
invariant-loop-place l = FiltersInPlace (keeps l.kept) l.initial.list l.list l.left l.place
