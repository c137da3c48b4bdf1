use Rattle.std.proofs.Common.{arith, subst, vec_len}
use Rattle.std.proofs.lemmas.Result.{err_from_is_err_and}
use Rattle.dom_links.specs.Copying.{AreRows, with_rows}
use Rattle.dom_links.specs.Forest.{forest_of}
use Rattle.dom_links.proofs.copies.Copied.{all_refused, count_is, rows_left, rows_popped, rows_refused, rows_step}
use Rattle.dom_links.proofs.ops.copies.copy_rows.Goals as goal

pub loop-row-smaller : goal.loop-row-smaller
loop-row-smaller g c =
    let whole = with_rows g.at.source c.args.rows (forest_of c.args.nodes.now.items) in
    let left = rows_step g.at.source c.loop-row.rows c.pop.new.self c.copy_row.new.rows c.in-Some.row (forest_of c.loop-row.nodes.items) (forest_of c.copy_row.new.nodes.items) whole c.in-Some.ensures c.in_ok-copy_row.ensures.made c.loop-row.invariant.left in
    let count = count_is g.at c.args.other c.copy_row.new.nodes.items (vec_len c.copy_row.new.nodes) c.copy_row.ensures.under_way (omega arith) in
    omega (arith, c.in_ok-copy_row.ensures.grown, rows_left g.at.source c.copy_row.new.rows (forest_of c.copy_row.new.nodes.items) whole left, count)

pub loop-row-preserved : goal.loop-row-preserved
loop-row-preserved g c = record {
  under_way = c.copy_row.ensures.under_way;
  rows = c.in_ok-copy_row.ensures.are_rows;
  left = rows_step g.at.source c.loop-row.rows c.pop.new.self c.copy_row.new.rows c.in-Some.row (forest_of c.loop-row.nodes.items) (forest_of c.copy_row.new.nodes.items) (with_rows g.at.source c.args.rows (forest_of c.args.nodes.now.items))
      c.in-Some.ensures c.in_ok-copy_row.ensures.made c.loop-row.invariant.left;
}

pub returns-in_err-copy_row : goal.returns-in_err-copy_row
returns-in_err-copy_row g c =
    all_refused g.at c.args.other c.from_residual.result c.in_err-copy_row.field-0.0 c.args.nodes.now c.copy_row.new.nodes (with_rows g.at.source c.args.rows) (err_from_is_err_and c.from_residual.result c.from_residual.ensures.1) c.copy_row.ensures.under_way
    (rows_refused g.at.source c.loop-row.rows c.pop.new.self c.in-Some.row (forest_of c.loop-row.nodes.items) (with_rows g.at.source c.args.rows (forest_of c.args.nodes.now.items)) c.in_err-copy_row.field-0.0 c.in-Some.ensures c.loop-row.invariant.left c.in_err-copy_row.ensures.cause)

pub copy_row-requires : goal.copy_row-requires
copy_row-requires g c =
    let popped = rows_popped g.at (vec_len c.loop-row.nodes) c.pop.new.self c.in-Some.row (subst (AreRows g.at (vec_len c.loop-row.nodes)) c.in-Some.ensures c.loop-row.invariant.rows) in
    (c.loop-row.invariant.under_way, (popped.1, popped.0))
