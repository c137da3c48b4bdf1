use Rattle.std.proofs.Common.{◌∙◌}
use Rattle.dom_links.specs.Forest.{forest_of}
use Rattle.dom_links.proofs.moves.Attach.{read_parent, read_prev}
use Rattle.dom_links.proofs.moves.Cuts.{parent_known, prev_known}
use Rattle.dom_links.proofs.moves.BlockMoves.{cut_freed, nexts_known_opened}
use Rattle.dom_links.proofs.ops.lists.cut_with_later.Goals as goal

pub join-requires-clause-owner_known : goal.join-requires-clause-owner_known
join-requires-clause-owner_known c =
    parent_known (forest_of c.args.nodes.now) c.args.nodes.now c.args.x _ c.requires.linked c.requires.known
    (c.get-parent.ensures ∙ read_parent (forest_of c.args.nodes.now) c.args.nodes.now c.value.result c.args.x c.index-nodes-value.result c.requires.linked c.requires.known c.value.ensures.number)

pub join-requires-clause-left_known : goal.join-requires-clause-left_known
join-requires-clause-left_known c =
    prev_known (forest_of c.args.nodes.now) c.args.nodes.now c.args.x _ c.requires.linked c.requires.known
    (c.get-prev.ensures ∙ read_prev (forest_of c.args.nodes.now) c.args.nodes.now c.value.result c.args.x c.index-nodes-value.result c.requires.linked c.requires.known c.value.ensures.number)

pub set_parents-requires-clause-nexts_known : goal.set_parents-requires-clause-nexts_known
set_parents-requires-clause-nexts_known c =
    nexts_known_opened (forest_of c.args.nodes.now) c.args.nodes.now c.join.new.nodes c.join-2.new.nodes c.args.x _ _ c.requires.linked c.join.ensures c.join-2.ensures

pub returns : goal.returns
returns c =
    cut_freed (forest_of c.args.nodes.now) c.args.nodes.now c.join.new.nodes c.join-2.new.nodes c.set_parents.new.nodes c.args.x _ _ c.requires.linked c.requires.known
    (c.get-parent.ensures ∙ read_parent (forest_of c.args.nodes.now) c.args.nodes.now c.value.result c.args.x c.index-nodes-value.result c.requires.linked c.requires.known c.value.ensures.number)
    (c.get-prev.ensures ∙ read_prev (forest_of c.args.nodes.now) c.args.nodes.now c.value.result c.args.x c.index-nodes-value.result c.requires.linked c.requires.known c.value.ensures.number)
    c.join.ensures c.join-2.ensures c.set_parents.ensures.set
