use Rattle.dom_links.proofs.moves.Dissolving.{Dissolves, dissolves, moved_known}
use Rattle.dom_links.proofs.ops.strip.dissolve.Goals as goal

pub returns-clause-made : goal.returns-clause-made
returns-clause-made c = Dissolves.made (dissolves c.args.nodes.now c.put_children_before.new.nodes c.remove_from_parent.new.nodes c.args.p c.requires.placed.0 c.requires.sound c.requires.placed.1 c.put_children_before.ensures c.remove_from_parent.ensures.removed)

pub returns-clause-sound : goal.returns-clause-sound
returns-clause-sound c = Dissolves.sound (dissolves c.args.nodes.now c.put_children_before.new.nodes c.remove_from_parent.new.nodes c.args.p c.requires.placed.0 c.requires.sound c.requires.placed.1 c.put_children_before.ensures c.remove_from_parent.ensures.removed)

pub remove_from_parent-requires-clause-known : goal.remove_from_parent-requires-clause-known
remove_from_parent-requires-clause-known c = moved_known c.args.nodes.now c.put_children_before.new.nodes c.args.p c.requires.placed.0 c.requires.sound c.requires.placed.1 c.put_children_before.ensures
