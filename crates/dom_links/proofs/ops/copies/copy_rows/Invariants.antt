use Rattle.std.proofs.Common.{◌≡◌, ◌-◌, length, vec_len}
use Rattle.dom_links.specs.Copying.{AreRows, IsUnderWay, with_rows}
use Rattle.dom_links.specs.Forest.{forest_of}
use Rattle.dom_links.proofs.ops.copies.copy_rows.Given as goal

abbrev pub ghost-copy_row : goal.ghost-copy_row
ghost-copy_row g a = g.at

-- what is left, and what has been made, come to the whole
abbrev pub invariant-loop-row : goal.invariant-loop-row
invariant-loop-row g l = record {
  under_way : IsUnderWay g.at l.other l.nodes.items;
  rows : AreRows g.at (vec_len l.nodes) l.rows;
  left : with_rows g.at.source l.rows (forest_of l.nodes.items) ≡ with_rows g.at.source l.fn.rows (forest_of l.fn.nodes.items);
}

abbrev pub decreases-loop-row : goal.decreases-loop-row
decreases-loop-row g l = length (with_rows g.at.source l.fn.rows (forest_of l.fn.nodes.items)).content - vec_len l.nodes
