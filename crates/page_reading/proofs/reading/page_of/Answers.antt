use Rattle.std.proofs.Common.{◌∙◌, subst, sym}
use Rattle.page_trees.specs.Shape.{IsPage}
use Rattle.page_reading.proofs.reading.page_of.Goals as goal

pub returns-clause-same : goal.returns-clause-same
returns-clause-same c = λ page. c.in_ok-make_page.ensures.same (subst IsPage (sym c.document_of-page.ensures.tree) page) ∙ c.document_of-page.ensures.tree
