use Rattle.std.specs.Prelude.{count_by}
use Rattle.dom_links.specs.Indexes.{counts, is_from_first}
use Rattle.dom_links.specs.Walk.{later}
use Rattle.dom_select.proofs.types.PositionLemmas.{at_index_if}
use Rattle.dom_select.proofs.matcher.positions.has_near_position.Goals as goal

pub returns : goal.returns
returns c =
    let forest = c.args.tree.now in
    let kind = c.args.position.kind in
    at_index_if c.args.position.nth c.in_ok-index.index (count_by (counts kind forest c.args.id) (later forest (is_from_first kind) c.args.id)) c.has_index.result c.in_ok-index.ensures c.has_index.ensures
