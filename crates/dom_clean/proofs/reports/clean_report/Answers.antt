use Rattle.std.proofs.Common.{ℕ, ap, subst, ◌∙◌}
use Rattle.std.proofs.lemmas.Result.{IfOk-weaker}
use Rattle.dom_links.specs.Forest.{Forest}
use Rattle.dom_markup.specs.Numbered.{document_of}
use Rattle.dom_clean.specs.Cleaned.{cleaned_below}
use Rattle.dom_clean.specs.Laws.{left_below, page_of}
use Rattle.dom_clean.specs.Reports.{IsReportOf}
use Rattle.dom_clean.specs.Written.{text_of}
use Rattle.dom_clean.proofs.Again.{page_read, text_stays}
use Rattle.dom_clean.proofs.Found.{found_is, found_none}
use Rattle.dom_clean.proofs.reports.clean_report.Goals as goal

pub returns-in-Some-clause-calm : goal.returns-in-Some-clause-calm
returns-in-Some-clause-calm c = λ body calm.
    let policy = c.args.policy.now in
    let read = found_is c.in_ok-document.field-0 c.in-Some.document (document_of (page_of body)) c.in-Some.is (c.in_ok-document.ensures.calm body calm) in
    IfOk-weaker c.report_node.result _ _
    (λ made is. subst (λ (forest : Forest). IsReportOf policy forest 5 made) read (subst (λ (n : ℕ). IsReportOf policy c.in-Some.document.tree n made) c.calm_body.ensures is))
    c.report_node.ensures.of

pub returns-in-Some-clause-again : goal.returns-in-Some-clause-again
returns-in-Some-clause-again c = λ left.
    let policy = c.args.policy.now in
    let sound = c.lists.ensures.sound in
    let page = document_of (page_of (left_below policy left.0 left.1)) in
    let read = found_is c.in_ok-document.field-0 c.in-Some.document page c.in-Some.is (c.in_ok-document.ensures.calm (left_below policy left.0 left.1) (page_read policy sound c.args.source.now left)) in
    IfOk-weaker c.report_node.result _ _
    (λ made is. is.text ∙ ap (λ n. text_of (cleaned_below policy c.in-Some.document.tree n)) c.calm_body.ensures ∙ ap (λ (forest : Forest). text_of (cleaned_below policy forest 5)) read
    ∙ text_stays policy sound c.args.source.now left)
    c.report_node.ensures.of

pub returns-in-None-clause-calm : goal.returns-in-None-clause-calm
returns-in-None-clause-calm c = λ body calm. absurd (found_none c.in_ok-document.field-0 (document_of (page_of body)) c.in-None.is (c.in_ok-document.ensures.calm body calm))

pub returns-in-None-clause-again : goal.returns-in-None-clause-again
returns-in-None-clause-again c = λ left.
    let policy = c.args.policy.now in
    let body = left_below policy left.0 left.1 in
    absurd (found_none c.in_ok-document.field-0 (document_of (page_of body)) c.in-None.is (c.in_ok-document.ensures.calm body (page_read policy c.lists.ensures.sound c.args.source.now left)))
