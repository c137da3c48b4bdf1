use Rattle.std.proofs.Common.{◌≡◌, ◌++◌, drop, vec_len}
use Rattle.dom_links.specs.Copies.{copied_below, copy_numbers}
use Rattle.dom_links.specs.Copying.{IsPlaceFor, IsUnderWay}
use Rattle.dom_links.specs.Forest.{forest_of}
use Rattle.dom_links.proofs.ops.copies.copy_each.Given as goal

abbrev pub ghost-copy_tree : goal.ghost-copy_tree
ghost-copy_tree g a = g.at

-- the copies of the rest of the nodes make the whole
abbrev pub invariant-loop-id : goal.invariant-loop-id
invariant-loop-id g l = record {
  below : IsPlaceFor g.at (vec_len l.nodes) l.parent;
  under_way : IsUnderWay g.at l.other l.nodes.items;
  left : copied_below g.at.source l.parent (drop l.id-index l.ids) (forest_of l.nodes.items) ≡ copied_below g.at.source l.parent l.ids (forest_of l.fn.nodes.items);
  numbers_so_far : l.numbers.items ++ copy_numbers g.at.source (drop l.id-index l.ids) (forest_of l.nodes.items) ≡ copy_numbers g.at.source l.ids (forest_of l.fn.nodes.items);
}
