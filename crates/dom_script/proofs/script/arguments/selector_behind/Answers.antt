use Rattle.dom_script.proofs.Lines.{selector-read}
use Rattle.dom_script.proofs.script.arguments.selector_behind.Goals as goal

pub returns-in-Some : goal.returns-in-Some
returns-in-Some c = selector-read c.args.line.now c.args.word.now c.in-Some.argument.now c.selector_of.result c.in-Some.ensures c.selector_of.ensures

pub returns-in-None : goal.returns-in-None
returns-in-None c = λ selector h. c.in-None.ensures h.0 h.1
