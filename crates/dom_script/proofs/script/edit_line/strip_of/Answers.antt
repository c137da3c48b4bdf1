use Rattle.std.proofs.Common.{sym, ◌∙◌}
use Rattle.dom_script.proofs.EditLines.{no-strip}
use Rattle.dom_script.proofs.script.edit_line.strip_of.Goals as goal

pub returns-in_default : goal.returns-in_default
returns-in_default c = λ names h. c.in_default.ensures names h.0

pub returns-then-not-are_names : goal.returns-then-not-are_names
returns-then-not-are_names c = no-strip c.args.line.now c.in-Some.names.now c.in-Some.ensures (sym c.are_names.ensures ∙ c.if-not-are_names.true)
