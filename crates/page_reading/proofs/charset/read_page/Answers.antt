use Rattle.std.proofs.Common.{◌≡◌, ◌∙◌, subst, sym}
use Rattle.std.specs.Str.{chars}
use Rattle.calm_pages.specs.Calm.{IsCalmPage, SpellsCalmPage}
use Rattle.page_reading.specs.StandardPages.{IsPageInLimit, IsStandardPage}
use Rattle.text_decoding.specs.Pages.{page_text}
use Rattle.text_decoding.proofs.PageTexts.{replaced_is, text_is}
use Rattle.page_reading.proofs.PageLemmas.{utf8_written}
use Rattle.page_reading.proofs.charset.read_page.Goals as goal

pub returns-clause-replaced : goal.returns-clause-replaced
returns-clause-replaced c = c.replaced.ensures ∙ replaced_is _ _ c.in_ok-page.ensures.text

pub returns-clause-text : goal.returns-clause-text
returns-clause-text c =
    let text = sym (c.as_str.ensures ∙ text_is _ _ c.in_ok-page.ensures.text) in
    record {
      written = λ calm. record {
        calm = λ trees page. c.in_ok-document.ensures.calm trees (subst (λ t. IsCalmPage t trees) text page) calm;
        same = λ forest page. c.in_ok-document.ensures.same forest (subst (λ t. SpellsCalmPage t forest) text page) calm;
      };
      standard = λ limit. subst (λ t. IsStandardPage c.args.options (chars t) c.in_ok-document.document) (sym text)
          (c.in_ok-document.ensures.standard (subst (λ t. IsPageInLimit c.args.options (chars t)) text limit));
    }

pub returns-clause-utf8 : goal.returns-clause-utf8
returns-clause-utf8 c = λ transport utf8 calm.
    let text = sym (c.as_str.ensures ∙ text_is _ _ c.in_ok-page.ensures.text) in
    utf8_written c.args.charset c.args.bytes.now c.in_ok-page.page.encoding c.in_ok-page.page.confidence _ transport utf8 c.in_ok-page.ensures.encoding (record {
      calm = λ trees page. c.in_ok-document.ensures.calm trees (subst (λ text. IsCalmPage text trees) text page) calm;
      same = λ forest page. c.in_ok-document.ensures.same forest (subst (λ text. SpellsCalmPage text forest) text page) calm;
    })
