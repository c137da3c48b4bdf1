use Rattle.std.proofs.Common.{◌≡◌, ◌∙◌, ℕ, ap, refl, subst, sym}
use Rattle.std.proofs.lemmas.Result.{IfOk-weaker}
use Rattle.calm_pages.specs.Calm.{IsCalmPage}
use Rattle.dom_clean.specs.Cleaned.{body_of, cleaned_below}
use Rattle.dom_clean.specs.Laws.{AreAllowed, left_below, page_around, page_of}
use Rattle.dom_clean.specs.Policy.{Policy}
use Rattle.dom_clean.specs.Written.{text_of}
use Rattle.dom_clean.proofs.AgainDocuments.{document_stays}
use Rattle.dom_markup.specs.declared.document.Document.{Document}
use Rattle.dom_clean.proofs.documents.clean_document.Goals as goal

pub returns-clause-tree : goal.returns-clause-tree
returns-clause-tree c =
    let policy = c.args.policy.now in
    let forest = c.args.tree.now in
    let n = body_of forest in
    let trees = left_below policy forest n in
    let safe = c.what_is_left_is_safe.ensures policy c.lists.ensures.sound forest n in
    let text = c.in_ok-text.ensures ∙ ap (λ (p : Policy). text_of (cleaned_below p forest c.body_of.result)) c.lists.ensures.value ∙ ap (λ (k : ℕ). text_of (cleaned_below policy forest k)) c.body_of.ensures in
    let page = c.as_str-2.ensures.value ∙ c.in_ok-page.ensures ∙ ap page_around (c.as_str.ensures.value ∙ text) in
    c.parse_page.ensures.calm (page_of trees) (subst (λ t. IsCalmPage t (page_of trees)) (sym page) safe.page) (refl, refl)

pub returns-clause-again : goal.returns-clause-again
returns-clause-again c = λ left.
    let policy = c.args.policy.now in
    let tree = c.args.tree.now in
    let sound = c.lists.ensures.sound in
    IfOk-weaker c.parse_page.result _ (λ (document : Document). document.tree ≡ tree)
    (λ document is. is ∙ document_stays policy sound tree left)
    (returns-clause-tree c)

pub returns-clause-allowed : goal.returns-clause-allowed
returns-clause-allowed c =
    let policy = c.args.policy.now in
    let forest = c.args.tree.now in
    let n = body_of forest in
    let safe = c.what_is_left_is_safe.ensures policy c.lists.ensures.sound forest n in
    IfOk-weaker c.parse_page.result _ (λ _. AreAllowed policy (left_below policy forest n)) (λ _ _. safe.allowed) c.parse_page.ensures.page
