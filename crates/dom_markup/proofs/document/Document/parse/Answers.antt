use Rattle.std.proofs.Common.{sym, subst}
use Rattle.dom_links.specs.Forest.{Forest}
use Rattle.dom_trees.specs.SameTree.{SameTree}
use Rattle.dom_markup.specs.Plain.{IsPlain}
use Rattle.dom_markup.specs.ReadingBack.{LacksIdentifiers}
use Rattle.dom_markup.proofs.document.Document.parse.Goals as goal

pub returns-clause-plain : goal.returns-clause-plain
returns-clause-plain c =
    let read = c.in_ok-document.ensures.ok.spelled in
    λ bare. subst IsPlain (sym read.2)
    (c.documents_without_identifiers_are_plain.ensures c.args.source.now read.0 c.utf8.source read.1 (subst LacksIdentifiers read.2 bare))

pub returns-clause-same : goal.returns-clause-same
returns-clause-same c =
    let read = c.in_ok-document.ensures.ok.spelled in
    λ forest spelled. subst (λ (f : Forest). SameTree forest 0 f 0) (sym read.2)
    (c.spelled_documents_are_the_same.ensures c.args.source.now forest read.0 spelled read.1)
