use Rattle.std.proofs.Common.{subst, sym}
use Rattle.dom_links.specs.Forest.{IsArenaOf, forest_of}
use Rattle.dom_links.specs.ListMoves.{moved_nodes}
use Rattle.dom_links.specs.Moves.{detach}
use Rattle.dom_links.proofs.ops.moves.cut_out.Goals as goal

pub returns-in-Node-clause-arena : goal.returns-in-Node-clause-arena
returns-in-Node-clause-arena c =
    subst (λ moving. IsArenaOf (detach (moved_nodes (forest_of c.args.nodes.now) moving) (forest_of c.args.nodes.now)) c.remove_from_parent.new.nodes) (sym c.in-Node.is) c.remove_from_parent.ensures.arena

pub returns-in-WithLater-clause-arena : goal.returns-in-WithLater-clause-arena
returns-in-WithLater-clause-arena c =
    subst (λ moving. IsArenaOf (detach (moved_nodes (forest_of c.args.nodes.now) moving) (forest_of c.args.nodes.now)) c.cut_with_later.new.nodes) (sym c.in-WithLater.is) c.cut_with_later.ensures

pub returns-in-WholeList-clause-arena : goal.returns-in-WholeList-clause-arena
returns-in-WholeList-clause-arena c =
    subst (λ moving. IsArenaOf (detach (moved_nodes (forest_of c.args.nodes.now) moving) (forest_of c.args.nodes.now)) c.cut_with_later-in-WholeList.new.nodes) (sym c.in-WholeList.is)
    (subst (λ moved. IsArenaOf (detach moved (forest_of c.args.nodes.now)) c.cut_with_later-in-WholeList.new.nodes) c.first_sibling_of-start.ensures.all c.cut_with_later-in-WholeList.ensures)
