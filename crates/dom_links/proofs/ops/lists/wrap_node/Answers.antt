use Rattle.dom_links.specs.Moves.{before_node, end_of}
use Rattle.dom_links.proofs.moves.BlockMoves.{moved_one}
use Rattle.dom_links.proofs.moves.TwoSteps.{wraps}
use Rattle.dom_links.proofs.ops.lists.wrap_node.Goals as goal

pub returns : goal.returns
returns c =
    wraps c.args.nodes.now c.insert_before_of.new.nodes c.append_child_of.new.nodes c.args.x c.args.w
    (moved_one c.args.nodes.now c.insert_before_of.new.nodes (before_node c.args.x) c.args.w c.insert_before_of.ensures)
    (moved_one c.insert_before_of.new.nodes c.append_child_of.new.nodes (end_of c.args.w) c.args.x c.append_child_of.ensures)
