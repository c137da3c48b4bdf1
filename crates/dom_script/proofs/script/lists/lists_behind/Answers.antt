use Rattle.std.proofs.Common.{sym, ◌∙◌}
use Rattle.dom_script.proofs.Lines.{no-sanitize}
use Rattle.dom_script.proofs.script.lists.lists_behind.Goals as goal

pub returns-in_default : goal.returns-in_default
returns-in_default c = λ lists h. c.in_default.ensures lists h.0

pub returns-then-not-are_lists : goal.returns-then-not-are_lists
returns-then-not-are_lists c = no-sanitize c.args.line.now c.in-Some.lists.now c.in-Some.ensures (sym c.are_lists.ensures ∙ c.if-not-are_lists.true)
