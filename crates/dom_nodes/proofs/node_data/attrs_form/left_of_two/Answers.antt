use Rattle.std.proofs.Common.{rules}
use Rattle.std.specs.Rc.{rc_value}
use Rattle.dom_nodes.specs.Kept.{keeps}
use Rattle.dom_nodes.proofs.PartLemmas.{both_left, first_left, second_left, none_left}
use Rattle.dom_nodes.proofs.node_data.attrs_form.left_of_two.Goals as goal

pub returns-then-second : goal.returns-then-second
returns-then-second c = both_left (keeps c.args.kept) (rc_value c.args.list).items c.args.place (search rules) (search rules)

pub returns-else-second : goal.returns-else-second
returns-else-second c = first_left (keeps c.args.kept) (rc_value c.args.list).items c.args.place (search rules) (search rules)

pub returns-then-second-2 : goal.returns-then-second-2
returns-then-second-2 c = second_left (keeps c.args.kept) (rc_value c.args.list).items c.args.place (search rules) (search rules)

pub returns-else-second-2 : goal.returns-else-second-2
returns-else-second-2 c = none_left (keeps c.args.kept) (rc_value c.args.list).items c.args.place (search rules) (search rules)
