use Rattle.std.proofs.Common.{◌∙◌, sym}
use Rattle.page_trees.proofs.builder.TreeBuilder.leave_section.Goals as goal

pub returns-then-has_section-clause-found : goal.returns-then-has_section-clause-found
returns-then-has_section-clause-found c t b = sym c.if-has_section.true ∙ c.has_section.ensures t b

pub returns-clause-found : goal.returns-clause-found
returns-clause-found c t b = sym c.if-has_section.false ∙ c.has_section.ensures t b
