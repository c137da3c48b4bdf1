use Rattle.std.proofs.Common.{◌∙◌, ◌<◌, length, subst, sym, vec_len}
use Rattle.std.specs.Prelude.{ℕ, Option, IfSome}
use Rattle.std.proofs.lemmas.Result.{err_from_is_err_and}
use Rattle.dom_links.specs.Copying.{AreRows, with_row}
use Rattle.dom_links.specs.Forest.{forest_of}
use Rattle.dom_links.proofs.copies.Copied.{lent_node, next_known, notes_refused, row_larger, row_made, rows_pushed}
use Rattle.dom_links.proofs.ops.copies.copy_row.Goals as goal

pub copy_node-requires : goal.copy_node-requires
copy_node-requires g c =
    let way = c.requires.0 in
    let row = c.requires.1.0 in
    let node = lent_node g.at c.args.other c.args.nodes.now.items c.deref.result.now c.args.row.first c.source_node.result.now c.deref.ensures.value way row.known c.source_node.ensures in
    let next : IfSome c.get-next.result (λ n. n < length g.at.source.content) = subst (λ (o : Option ℕ). IfSome o (λ n. n < length g.at.source.content)) (sym (c.get-next.ensures ∙ node.next_is)) (next_known g.at.source c.args.row.first way.good) in
    let rows : AreRows g.at (vec_len c.args.nodes.now) c.push_row.new.rows = rw c.in_ok-push_row.ensures.ok (rows_pushed g.at (vec_len c.args.nodes.now) c.args.rows.now c.get-next.result c.args.row.parent c.requires.1.1 next row.new row.made) in
    (way, (record { known = row.known; place = (row.new, row.made) }, rows))

pub returns-in_err-copy_node : goal.returns-in_err-copy_node
returns-in_err-copy_node g c =
    notes_refused g.at c.args.other c.from_residual-in_err-copy_node.result c.in_err-copy_node.field-0.0 c.args.nodes.now c.copy_node.new.nodes c.args.rows.now c.copy_node.new.rows (with_row g.at.source c.args.row)
    (err_from_is_err_and c.from_residual-in_err-copy_node.result c.from_residual-in_err-copy_node.ensures.1) c.copy_node.ensures.copies.under_way
    (row_larger g.at.source c.args.row (forest_of c.args.nodes.now.items) c.in_err-copy_node.field-0.0 c.requires.0.good c.requires.1.0.known c.in_err-copy_node.ensures.copies.cause)

pub returns : goal.returns
returns g c =
    let way = c.requires.0 in
    let row = c.requires.1.0 in
    let node = lent_node g.at c.args.other c.args.nodes.now.items c.deref.result.now c.args.row.first c.source_node.result.now c.deref.ensures.value way row.known c.source_node.ensures in
    let copies = c.in_ok-copy_node.ensures.copies in
    record {
      under_way = copies.under_way;
      are_rows = copies.are_rows;
      made = row_made g.at.source c.args.rows.now c.push_row.new.rows c.copy_node.new.rows c.args.row c.get-next.result (forest_of c.args.nodes.now.items) (forest_of c.copy_node.new.nodes.items) way.good row.known (c.get-next.ensures ∙ node.next_is) c.in_ok-push_row.ensures.ok
          copies.made;
      grown = copies.grown;
      cause = tt;
    }
