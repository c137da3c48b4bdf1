use Rattle.std.proofs.Common.{sym, ap, ◌∙◌}
use Rattle.dom_links.specs.Walk.{row_on}
use Rattle.dom_select.proofs.ChildRowLemmas.{shorter}
use Rattle.dom_select.proofs.matcher.type_indexes.far_end.Goals as goal

pub loop-at-smaller : goal.loop-at-smaller
loop-at-smaller c = shorter _ _ _ (c.line_laws.ensures.beside c.args.before c.loop-at.end ∙ ap (row_on c.args.tree.now c.args.before) (sym c.beside.ensures ∙ c.in-Some.is))

pub returns : goal.returns
returns c = c.line_laws.ensures.beside c.args.before c.loop-at.end ∙ ap (row_on c.args.tree.now c.args.before) (sym c.beside.ensures ∙ c.in_default.is)
