use Rattle.std.proofs.Common.{List, Option, ◌∙◌, subst, sym, ℕ}
use Rattle.std.specs.Prelude.{IfOk, IfSome}
use Rattle.std.specs.Str.{IsUtf8}
use Rattle.std.proofs.lemmas.Result.{IfOk-weaker}
use Rattle.calm_pages.specs.Calm.{IsCalmPage, IsReadCalm}
use Rattle.dom_markup.specs.declared.document.Document.{Document}
use Rattle.dom_clean.specs.Laws.{page_around, page_of}
use Rattle.dom_clean.proofs.StandardSources.{found_parsed}
use Rattle.dom_clean.proofs.cleaning.calm_page.Goals as goal

pub returns-clause-calm : goal.returns-clause-calm
returns-clause-calm c = λ body calm. c.read_calm.ensures.calm (page_of body)
    (subst (λ text. IsCalmPage text (page_of body)) (sym (c.as_str.ensures.value ∙ c.in_ok-page.ensures)) calm)

pub returns-clause-parsed : goal.returns-clause-parsed
returns-clause-parsed c =
    let written = c.as_str.ensures.value ∙ c.in_ok-page.ensures in
    IfOk-weaker c.read_calm.result _ _ (found_parsed c.calm_pages_are_parsed.ensures.documents (page_around c.args.source.now) (subst IsUtf8 written c.as_str.utf8))
    (subst (λ (text : List ℕ). IfOk c.read_calm.result (λ (found : Option Document). IfSome found (IsReadCalm text))) written c.read_calm.ensures.read)
