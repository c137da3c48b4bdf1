use Rattle.std.proofs.Common.{Option, subst, sym}
use Rattle.std.specs.Prelude.{IfOk, IfSome}
use Rattle.std.specs.Str.{chars}
use Rattle.calm_pages.specs.Calm.{IsReadCalm}
use Rattle.dom_markup.specs.Numbered.{document_of}
use Rattle.dom_markup.specs.declared.document.Document.{Document}
use Rattle.page_reading.specs.StandardPages.{IsPageInLimit, IsStandardPage}
use Rattle.page_trees.specs.declared.reading.Options.{Options}
use Rattle.dom_clean.proofs.Found.{found_is, found_none}
use Rattle.dom_clean.proofs.StandardSources.{calm_parsed}
use Rattle.dom_clean.proofs.cleaning.read_page.Goals as goal

pub returns-in-Some-clause-calm : goal.returns-in-Some-clause-calm
returns-in-Some-clause-calm c = λ trees calm. found_is c.in_ok-document.field-0 c.in-Some.document (document_of trees) c.in-Some.is (c.in_ok-document.ensures.calm trees calm)

pub returns-in-None-clause-calm : goal.returns-in-None-clause-calm
returns-in-None-clause-calm c = λ trees calm. absurd (found_none c.in_ok-document.field-0 (document_of trees) c.in-None.is (c.in_ok-document.ensures.calm trees calm))

pub returns-in-Some-clause-standard : goal.returns-in-Some-clause-standard
returns-in-Some-clause-standard c = λ limit.
    calm_parsed c.calm_pages_are_parsed.ensures.documents c.args.source.now c.utf8.source c.in-Some.document
    (subst (λ (found : Option Document). IfSome found (IsReadCalm c.args.source.now)) c.in-Some.is c.in_ok-document.ensures.read)

pub returns-in-None-clause-standard : goal.returns-in-None-clause-standard
returns-in-None-clause-standard c = λ limit.
    let text = chars c.args.source.now in
    subst (λ (options : Options). IfOk c.parse_page.result (IsStandardPage options text)) c.reading_options.ensures
    (c.parse_page.ensures.standard (subst (λ (options : Options). IsPageInLimit options text) (sym c.reading_options.ensures) limit))
