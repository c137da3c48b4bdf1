use Rattle.std.proofs.Common.{◌≡◌, ◌≤◌, ◌+◌, ◌∙◌, ◌∷◌, [], arith, length, vec_len}
use Rattle.std.proofs.lemmas.Result.{err_from_is_err_and}
use Rattle.dom_links.specs.Copies.{copied_below}
use Rattle.dom_links.specs.Copying.{AreRows}
use Rattle.dom_links.specs.Forest.{children_of, forest_of}
use Rattle.dom_links.specs.Lists.{first}
use Rattle.dom_links.proofs.copies.Copied.{count_is, first_inside, held_is, held_known, held_made, lent_node, no_room, no_room_held, notes_refused, plain_made, rows_more, rows_pushed}
use Rattle.dom_links.proofs.ops.copies.copy_node.Goals as goal
use Rattle.dom_links.proofs.ops.copies.copy_node.Goals.{in-Some+in_ok-copy_alone, in_default}

pub returns-in_err-made-clause-copies : goal.returns-in_err-made-clause-copies
returns-in_err-made-clause-copies g c =
    let way = c.requires.0 in
    let count : vec_len c.args.nodes.now ≡ length (forest_of c.args.nodes.now.items).content = count_is g.at c.args.other c.args.nodes.now.items (vec_len c.args.nodes.now) way (omega arith) in
    notes_refused g.at c.args.other c.from_residual.result c.in_err-made.field-0.0 c.args.nodes.now c.copy_alone.new.nodes c.args.rows.now c.copy_alone.new.rows (copied_below g.at.source c.args.parent (c.args.id ∷ [])) (err_from_is_err_and c.from_residual.result c.from_residual.ensures.1) c.copy_alone.ensures.copies.under_way
    (no_room g.at.source c.args.parent c.args.id (vec_len c.args.nodes.now) (forest_of c.args.nodes.now.items) c.in_err-made.field-0.0 way.good c.requires.1.0.known count c.in_err-made.ensures.copies.cause)

pub copy_alone-requires-in-Some : goal.copy_alone-requires-in-Some
copy_alone-requires-in-Some g c =
    let node = lent_node g.at c.args.other c.args.nodes.now.items c.deref.result.now c.args.id c.source_node.result.now c.deref.ensures.value c.requires.0 c.requires.1.0.known c.source_node.ensures in
    let is = held_is g.at.source c.args.id c.source_node.result.now c.template_contents-held.result node c.template_contents-held.ensures ∙ c.in-Some.is in
    (c.in_ok-made.ensures.copies.under_way, record { known = held_known g.at.source c.args.id c.in-Some.contents c.requires.0.good is; place = tt })

pub returns-in_err-copy_alone-clause-copies : goal.returns-in_err-copy_alone-clause-copies
returns-in_err-copy_alone-clause-copies g c =
    let way = c.requires.0 in
    let node = lent_node g.at c.args.other c.args.nodes.now.items c.deref.result.now c.args.id c.source_node.result.now c.deref.ensures.value way c.requires.1.0.known c.source_node.ensures in
    let is = held_is g.at.source c.args.id c.source_node.result.now c.template_contents-held.result node c.template_contents-held.ensures ∙ c.in-Some.is in
    let count : vec_len c.args.nodes.now ≡ length (forest_of c.args.nodes.now.items).content = count_is g.at c.args.other c.args.nodes.now.items (vec_len c.args.nodes.now) way (omega arith) in
    let more : vec_len c.copy_alone.new.nodes ≡ length (forest_of c.args.nodes.now.items).content + 1 = omega (arith, c.in_ok-made.ensures.copies.grown, count) in
    notes_refused g.at c.args.other c.from_residual-in_err-copy_alone.result c.in_err-copy_alone.field-0.0 c.args.nodes.now c.copy_alone-in-Some.new.nodes c.args.rows.now c.copy_alone-in-Some.new.rows (copied_below g.at.source c.args.parent (c.args.id ∷ []))
    (err_from_is_err_and c.from_residual-in_err-copy_alone.result c.from_residual-in_err-copy_alone.ensures.1) c.copy_alone-in-Some.ensures.copies.under_way
    (no_room_held g.at.source c.args.parent c.args.id c.in-Some.contents (vec_len c.copy_alone.new.nodes) (forest_of c.args.nodes.now.items) c.in_err-copy_alone.field-0.0 way.good c.requires.1.0.known is more c.in_err-copy_alone.ensures.copies.cause)

pub returns-clause-copies : goal.returns-clause-copies
returns-clause-copies g c =
    let way = c.requires.0 in
    let node = lent_node g.at c.args.other c.args.nodes.now.items c.deref.result.now c.args.id c.source_node.result.now c.deref.ensures.value way c.requires.1.0.known c.source_node.ensures in
    let held = held_is g.at.source c.args.id c.source_node.result.now c.template_contents-held.result node c.template_contents-held.ensures in
    let count : vec_len c.args.nodes.now ≡ length (forest_of c.args.nodes.now.items).content = count_is g.at c.args.other c.args.nodes.now.items (vec_len c.args.nodes.now) way (omega arith) in
    let one = c.in_ok-made.ensures.copies in
    let count1 : vec_len c.copy_alone.new.nodes ≡ length (forest_of c.copy_alone.new.nodes.items).content = count_is g.at c.args.other c.copy_alone.new.nodes.items (vec_len c.copy_alone.new.nodes) one.under_way (omega arith) in
    let fewer : length g.at.base.content ≤ vec_len c.args.nodes.now = omega (arith, way.kept.longer, count) in
    let noted : AreRows g.at (vec_len c.copy_alone.new.nodes) c.copy_alone.new.rows = rw c.in_ok-made.ensures.rows (rows_pushed g.at (vec_len c.copy_alone.new.nodes) c.args.rows.now (first (children_of g.at.source c.args.id)) (vec_len c.args.nodes.now)
    (rows_more g.at (vec_len c.args.nodes.now) (vec_len c.copy_alone.new.nodes) c.args.rows.now (omega (arith, one.grown)) c.requires.1.1) (first_inside g.at.source c.args.id way.good) fewer (omega (arith, one.grown))) in
    elim c.match-held.branch [
      | in-Some+in_ok-copy_alone w ↦
          (let two = w.in_ok-copy_alone.ensures.copies in
          rw (w.nodes-is, w.rows-is) (record {
            under_way = two.under_way;
            are_rows = rw w.in_ok-copy_alone.ensures.rows (rows_pushed g.at (vec_len w.copy_alone-in-Some.new.nodes) c.copy_alone.new.rows (first (children_of g.at.source w.in-Some.contents)) (vec_len c.copy_alone.new.nodes)
                (rows_more g.at (vec_len c.copy_alone.new.nodes) (vec_len w.copy_alone-in-Some.new.nodes) c.copy_alone.new.rows (omega (arith, two.grown)) noted) (first_inside g.at.source w.in-Some.contents way.good) (omega (arith, fewer, one.grown)) (omega (arith, two.grown)));
            made = held_made g.at.source c.args.rows.now c.copy_alone.new.rows w.copy_alone-in-Some.new.rows c.args.id w.in-Some.contents (vec_len c.args.nodes.now) (vec_len c.copy_alone.new.nodes) c.args.parent
                (forest_of c.args.nodes.now.items) (forest_of c.copy_alone.new.nodes.items) (forest_of w.copy_alone-in-Some.new.nodes.items) way.good c.requires.1.0.known (held ∙ w.in-Some.is) count count1
                c.in_ok-made.ensures.rows w.in_ok-copy_alone.ensures.rows one.made two.made;
            grown = omega (arith, one.grown, two.grown);
            cause = tt;
          }))
      | in_default w ↦ rw (w.nodes-is, w.rows-is) (record {
        under_way = one.under_way;
        are_rows = noted;
        made = plain_made g.at.source c.args.rows.now c.copy_alone.new.rows c.args.id (vec_len c.args.nodes.now) c.args.parent (forest_of c.args.nodes.now.items) (forest_of c.copy_alone.new.nodes.items) way.good c.requires.1.0.known (held ∙ w.in_default.is) count
            c.in_ok-made.ensures.rows one.made;
        grown = omega (arith, one.grown);
        cause = tt;
      })
    ]
