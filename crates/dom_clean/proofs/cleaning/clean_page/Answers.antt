use Rattle.std.proofs.Common.{◌≡◌, ◌∙◌, ℕ, List, ap, string_bytes, subst, sym}
use Rattle.dom_links.specs.Forest.{Forest}
use Rattle.dom_markup.specs.Numbered.{document_of}
use Rattle.calm_pages.specs.Calm.{IsCalmPage}
use Rattle.dom_clean.specs.Cleaned.{cleaned_below, cleaned_body}
use Rattle.dom_clean.specs.Laws.{left_below, page_around, page_of}
use Rattle.dom_clean.specs.Written.{text_of}
use Rattle.dom_clean.proofs.Again.{body_again, page_read, text_stays}
use Rattle.dom_clean.proofs.CleanedParsed.{cleaned_page}
use Rattle.dom_clean.proofs.cleaning.clean_page.Goals as goal

pub returns-clause-cleaned : goal.returns-clause-cleaned
returns-clause-cleaned c =
    cleaned_page c.args.policy.now _ (string_bytes c.in_ok-text.text) (c.in_ok-page_around.ensures ∙ ap page_around c.as_str.ensures.value) c.in_ok-text.ensures.cleaned

pub returns-clause-calm : goal.returns-clause-calm
returns-clause-calm c = λ trees calm.
    let policy = c.args.policy.now in
    let read : c.in_ok-document.document.tree ≡ document_of trees = c.in_ok-document.ensures.calm trees calm in
    c.in_ok-page_around.ensures ∙ ap page_around (c.as_str.ensures.value ∙ c.in_ok-text.ensures.text ∙ ap (λ n. text_of (cleaned_below policy c.in_ok-document.document.tree n)) c.body_of.ensures
    ∙ ap (λ (forest : Forest). text_of (cleaned_body policy forest)) read)

pub returns-clause-left : goal.returns-clause-left
returns-clause-left c = (
  string_bytes c.in_ok-text.text,
  c.in_ok-page_around.ensures ∙ ap page_around c.as_str.ensures.value,
  (c.in_ok-document.document.tree, c.body_of.result, c.in_ok-text.ensures.text),
)

pub returns-clause-again : goal.returns-clause-again
returns-clause-again c = λ left.
    let policy = c.args.policy.now in
    let sound = c.lists.ensures.sound in
    let body = left_below policy left.2.0 left.2.1 in
    let calm : IsCalmPage c.args.source.now (page_of body) = subst (λ (t : List ℕ). IsCalmPage t (page_of body)) (sym left.1) (page_read policy sound left.0 left.2) in
    let read : c.in_ok-document.document.tree ≡ document_of (page_of body) = c.in_ok-document.ensures.calm (page_of body) calm in
    c.in_ok-page_around.ensures ∙ ap page_around (c.as_str.ensures.value ∙ c.in_ok-text.ensures.text ∙ ap (λ n. text_of (cleaned_below policy c.in_ok-document.document.tree n)) c.body_of.ensures
    ∙ ap (λ (forest : Forest). text_of (cleaned_body policy forest)) read ∙ ap text_of (body_again policy body) ∙ text_stays policy sound left.0 left.2) ∙ sym left.1

pub returns-clause-standard : goal.returns-clause-standard
returns-clause-standard c = λ limit. record {
  forest = c.in_ok-document.document.tree;
  quirks = c.in_ok-document.document.quirks_mode;
  parsed = c.in_ok-document.ensures.standard limit;
  is = c.in_ok-page_around.ensures ∙ ap page_around (c.as_str.ensures.value ∙ c.in_ok-text.ensures.text
      ∙ ap (λ n. text_of (cleaned_below c.args.policy.now c.in_ok-document.document.tree n)) c.body_of.ensures);
}
