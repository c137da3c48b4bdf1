use Rattle.std.proofs.Common.{◌∙◌, sym}
use Rattle.dom_script.proofs.Lines.{no-name}
use Rattle.dom_script.proofs.script.arguments.name_behind.Goals as goal

pub returns-then-not-is_name : goal.returns-then-not-is_name
returns-then-not-is_name c = no-name c.args.line.now c.args.word.now c.in-Some.argument.now c.in-Some.ensures (sym c.is_name.ensures ∙ c.if-not-is_name.true)
