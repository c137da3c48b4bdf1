use Rattle.std.proofs.Common.{ap, ◌∙◌}
use Rattle.page_trees.specs.Names.{name_of, rare_rows, row_for}
use Rattle.page_trees.specs.declared.name.Name.{Name}
use Rattle.page_trees.proofs.NameLemmas.{name_at, name_unknown}
use Rattle.page_trees.proofs.name.Name.of.Goals as goal

pub returns-in-Some : goal.returns-in-Some
returns-in-Some c = name_at c.in-Some.number _ c.in-Some.ensures.0 ∙ ap name_of c.in-Some.ensures.1

pub returns-in-None : goal.returns-in-None
returns-in-None c = c.rare.ensures ∙ (ap (row_for rare_rows Name.Other) c.as_str.ensures ∙ name_unknown _ c.in-None.ensures)
