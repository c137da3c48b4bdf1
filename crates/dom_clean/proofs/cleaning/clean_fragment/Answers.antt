use Rattle.std.proofs.Common.{ap, inl, ◌∙◌}
use Rattle.std.proofs.lemmas.Result.{IfOk-weaker}
use Rattle.dom_clean.specs.Cleaned.{cleaned_below}
use Rattle.dom_clean.specs.Written.{text_of}
use Rattle.dom_clean.proofs.cleaning.clean_fragment.Goals as goal

pub returns-clause-standard : goal.returns-clause-standard
returns-clause-standard c = λ limit.
    let tree = c.in_ok-document.document.tree in
    let parsed = c.in_ok-document.ensures limit in
    IfOk-weaker c.clean_node.result _ _
    (λ text is. inl (record { forest = tree; parsed = parsed; is = is ∙ ap (λ n. text_of (cleaned_below c.args.policy.now tree n)) c.fragment_top.ensures }))
    c.clean_node.ensures.text

pub returns-clause-left : goal.returns-clause-left
returns-clause-left c = IfOk-weaker c.clean_node.result _ _ (λ text is. (c.in_ok-document.document.tree, c.fragment_top.result, is)) c.clean_node.ensures.text
