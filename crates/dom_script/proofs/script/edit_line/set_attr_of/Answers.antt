use Rattle.dom_script.proofs.EditLines.{no-set-attr}
use Rattle.dom_script.proofs.script.edit_line.set_attr_of.Goals as goal

pub returns-in_default : goal.returns-in_default
returns-in_default c = λ name value h. c.in_default.ensures h.0 h.1

pub returns-in_default-pair_of : goal.returns-in_default-pair_of
returns-in_default-pair_of c = no-set-attr c.args.line.now c.in-Some.argument.now c.in-Some.ensures c.in_default-pair_of.ensures
