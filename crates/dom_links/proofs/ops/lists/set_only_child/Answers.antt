use Rattle.std.proofs.Common.{arith}
use Rattle.std.proofs.lemmas.Grind.{common_steps}
use Rattle.dom_links.proofs.texts.SettingTexts.{only_child_sound}
use Rattle.dom_links.proofs.ops.lists.set_only_child.Goals as goal

pub returns-clause-sound : goal.returns-clause-sound
returns-clause-sound c = only_child_sound c.args.nodes.now c.remove_children.new.nodes c.append_child_of.new.nodes c.args.x c.args.child c.requires.sound c.requires.allowed c.remove_children.ensures c.append_child_of.ensures

pub remove_children-requires-clause-known : goal.remove_children-requires-clause-known
remove_children-requires-clause-known c = grind (arith, common_steps)

pub append_child_of-requires : goal.append_child_of-requires
append_child_of-requires c = grind (arith, common_steps)
