use Rattle.std.proofs.Common.{rules}
use Rattle.dom_selection.proofs.selection.Selection.select.Goals as goal

pub returns-clause-ok : goal.returns-clause-ok
returns-clause-ok c = (c.in_ok-matcher.matcher, c.in_ok-matcher.ensures.ok, search rules)
