use Rattle.std.proofs.Common.{Option, ◌≡◌, subst, sym}
use Rattle.std.specs.Prelude.{IfSome, MatchOption}
use Rattle.std.specs.Str.{chars}
use Rattle.calm_pages.specs.Calm.{IsReadCalm}
use Rattle.dom_links.specs.Forest.{Forest}
use Rattle.dom_markup.specs.Numbered.{document_of}
use Rattle.dom_markup.specs.declared.document.Document.{Document}
use Rattle.dom_trees.specs.declared.quirks.QuirksMode.{QuirksMode}
use Rattle.page_trees.specs.DocumentTrees.{IsParsedAs}
use Rattle.page_reading.proofs.reading.parse_text.Goals as goal

-- what is read as it is written is a calm page, which is parsed as its document
pub returns-in-Some-clause-standard : goal.returns-in-Some-clause-standard
returns-in-Some-clause-standard c = λ limit.
    let text = chars c.args.source.now in
    let scripting = c.args.options.scripting in
    let read : IsReadCalm c.args.source.now c.in-Some.document = subst (λ (found : Option Document). IfSome found (IsReadCalm c.args.source.now)) c.in-Some.is c.in_ok-document.ensures.read in
    subst (λ (mode : QuirksMode). IsParsedAs scripting text c.in-Some.document.tree mode) (sym read.no_quirks)
    (subst (λ (tree : Forest). IsParsedAs scripting text tree QuirksMode.NoQuirks) (sym read.is) (c.calm_pages_are_parsed.ensures.documents c.args.source.now read.trees c.utf8.source read.page scripting))

pub returns-in-Some-clause-calm : goal.returns-in-Some-clause-calm
returns-in-Some-clause-calm c = λ trees page calm.
    subst (λ (found : Option Document). MatchOption found ⊥ (λ document. document.tree ≡ document_of trees)) c.in-Some.is (c.in_ok-document.ensures.calm trees page)
