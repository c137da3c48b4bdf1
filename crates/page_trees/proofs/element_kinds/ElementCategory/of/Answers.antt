use Rattle.std.proofs.Common.{ap, ◌∙◌}
use Rattle.page_trees.specs.ElementKinds.{kind_of}
use Rattle.page_trees.proofs.KindLemmas.{kind_at}
use Rattle.page_trees.proofs.element_kinds.ElementCategory.of.Goals as goal

pub returns-in-Some : goal.returns-in-Some
returns-in-Some c = kind_at c.in-Some.number _ c.in-Some.ensures.0 ∙ ap kind_of c.in-Some.ensures.1
