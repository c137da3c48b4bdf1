use Rattle.dom_links.specs.Moves.{before_node}
use Rattle.dom_links.proofs.moves.BlockMoves.{moved_one}
use Rattle.dom_links.proofs.moves.TwoSteps.{replaces}
use Rattle.dom_links.proofs.ops.lists.replace_with.Goals as goal

pub returns : goal.returns
returns c =
    replaces c.args.nodes.now c.insert_before_of.new.nodes c.remove_from_parent.new.nodes c.args.t c.args.x
    (moved_one c.args.nodes.now c.insert_before_of.new.nodes (before_node c.args.t) c.args.x c.insert_before_of.ensures) c.remove_from_parent.ensures.removed
