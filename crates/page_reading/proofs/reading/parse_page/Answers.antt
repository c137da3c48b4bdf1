use Rattle.std.proofs.Common.{◌≡◌, subst, sym}
use Rattle.std.proofs.lemmas.Result.{IfOk-weaker}
use Rattle.dom_links.specs.Forest.{Forest}
use Rattle.dom_trees.specs.SameTree.{SameTree}
use Rattle.dom_markup.specs.Numbered.{document_of}
use Rattle.dom_markup.specs.declared.document.Document.{Document}
use Rattle.standard_laws.specs.Pages.{IsParsedPage}
use Rattle.page_reading.proofs.reading.parse_page.Goals as goal

pub returns-clause-same : goal.returns-clause-same
returns-clause-same c = λ forest page reads.
    IfOk-weaker c.parse_text.result (λ (document : Document). document.tree ≡ document_of page.trees) (λ (document : Document). SameTree forest 0 document.tree 0)
    (λ document is. subst (λ (tree : Forest). SameTree forest 0 tree 0) (sym is) page.same) (c.parse_text.ensures.calm page.trees page.page reads)

pub returns-clause-written : goal.returns-clause-written
returns-clause-written c = λ page reads.
    IfOk-weaker c.parse_text.result (λ (document : Document). document.tree ≡ document_of page.trees) (λ (document : Document). IsParsedPage c.args.source.now document.tree)
    (λ document is. record { trees = page.trees; is = is; parsed = c.written_pages_are_parsed.ensures c.args.source.now page.trees c.utf8.source page.page page.written })
    (c.parse_text.ensures.calm page.trees page.page reads)
