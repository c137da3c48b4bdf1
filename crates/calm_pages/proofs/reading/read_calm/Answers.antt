use Rattle.std.proofs.Common.{◌≡◌, Option, None, Some, refl, sym, ap, subst, ◌∙◌}
use Rattle.std.specs.Prelude.{IfSome, MatchOption}
use Rattle.std.proofs.lemmas.Result.{IfOk-weaker}
use Rattle.dom_links.specs.Forest.{Forest}
use Rattle.dom_markup.specs.Numbered.{document_of}
use Rattle.dom_markup.specs.declared.document.Document.{Document}
use Rattle.calm_pages.specs.Calm.{PassesTests}
use Rattle.calm_pages.proofs.CalmBack.{calm_back}
use Rattle.calm_pages.proofs.reading.read_calm.Goals as goal

found_is : (found : Option Document) (one other : Forest) → one ≡ other → MatchOption found ⊥ (λ document. document.tree ≡ one) → MatchOption found ⊥ (λ document. document.tree ≡ other)
found_is None one other e h = h
found_is (Some document) one other e h = h ∙ e

pub returns-in-Ok-clause-calm : goal.returns-in-Ok-clause-calm
returns-in-Ok-clause-calm c = λ trees page.
    let read = c.in-Ok.ensures.ok.spelled in
    let is : c.in-Ok.document.tree ≡ document_of trees = read.2 ∙ ap document_of (sym (c.one_reading.ensures c.args.source.now trees read.0 page.spelled read.1)) in
    IfOk-weaker c.calm_only.result _ _ (λ found h. found_is found c.in-Ok.document.tree (document_of trees) is h) (c.calm_only.ensures.calm trees is page.document)

some_weaker : (found : Option Document) (P Q : Document → Type 0) → ((document : Document) → P document → Q document) → IfSome found P → IfSome found Q
some_weaker None P Q f h = h
some_weaker (Some document) P Q f h = f document h

-- what passes the tests is a calm document
pub returns-in-Ok-clause-read : goal.returns-in-Ok-clause-read
returns-in-Ok-clause-read c =
    let read = c.in-Ok.ensures.ok.spelled in
    IfOk-weaker c.calm_only.result _ _ (λ found h. some_weaker found _ _ (λ document k.
    let tests : PassesTests (document_of read.0) = subst PassesTests read.2 k.1 in
    record {
      trees = read.0;
      page = record {
        spelled = read.1;
        framed = c.is_framed.ensures.0 c.if-not-is_framed.false;
        bytes = sym c.is_calm_text.ensures ∙ c.if-not-is_calm_text.false;
        document = calm_back c.args.source.now read.0 (c.is_framed.ensures.0 c.if-not-is_framed.false) read.1 tests.page tests.ends (tests.calm read.0 refl);
      };
      is = ap (λ d. d.tree) k.0 ∙ read.2;
      no_quirks = ap (λ d. d.quirks_mode) k.0 ∙ c.in-Ok.ensures.ok.notes.no_quirks;
    }) h) c.calm_only.ensures.read
