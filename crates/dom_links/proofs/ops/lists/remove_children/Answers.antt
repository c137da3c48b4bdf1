use Rattle.dom_links.proofs.moves.TwoSteps.{children_cut_out, no_children_removed}
use Rattle.dom_links.proofs.ops.lists.remove_children.Goals as goal

pub returns-in_default : goal.returns-in_default
returns-in_default c = no_children_removed c.args.nodes.now c.args.x c.requires.linked c.in_default.ensures.all

pub returns : goal.returns
returns c = children_cut_out c.args.nodes.now c.cut_with_later.new.nodes c.args.x c.in-Some.first c.requires.linked c.in-Some.ensures.all c.cut_with_later.ensures
