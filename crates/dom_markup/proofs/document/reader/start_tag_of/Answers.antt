use Rattle.std.proofs.Common.{ℕ, List, [], ◌∙◌, ap, refl, inr, rules}
use Rattle.std.proofs.lemmas.Result.{err_from_is_err_and}
use Rattle.dom_nodes.specs.Words.{is_among}
use Rattle.dom_markup.specs.Bytes.{folded}
use Rattle.dom_markup.specs.Names.{void_names}
use Rattle.dom_markup.specs.Markup.{NamesElement, kept_after}
use Rattle.dom_markup.proofs.grammar.Items.{start_closes, start_fails, start_unnamed}
use Rattle.dom_markup.proofs.document.reader.start_tag_of.Goals as goal

pub returns-then-not-names_element : goal.returns-then-not-names_element
returns-then-not-names_element c = inr (start_unnamed _ _ _ c.split_front.ensures c.if-not-names_element.ensures)

pub returns-in_err-rest : goal.returns-in_err-rest
returns-in_err-rest c =
    let p = err_from_is_err_and c.from_residual.result c.from_residual.ensures.1 in
    let names : NamesElement c.split_front.result.0.now (folded c.split_front.result.0.now) = search rules in
    let void = c.is_void_name-void.ensures ∙ ap (λ (n : List ℕ). is_among n void_names) (c.by_ref.ensures ∙ c.in-Ok.ensures) in
    rw (p.1, p.2) (inr (start_fails _ _ _ _ _ _ c.split_front.ensures names.0 void c.in-Ok-attrs_of.ensures.past c.in_err-rest.ensures))

pub returns : goal.returns
returns c =
    let names : NamesElement c.split_front.result.0.now (folded c.split_front.result.0.now) = search rules in
    let void = c.is_void_name-void.ensures ∙ ap (λ (n : List ℕ). is_among n void_names) (c.by_ref.ensures ∙ c.in-Ok.ensures) in
    let closed = start_closes _ _ _ _ _ _ c.split_front.ensures names void c.in-Ok-attrs_of.ensures.past c.in_ok-rest.ensures in
    (kept_after [] closed.0, closed.2, record { written = refl; local = c.in-Ok.ensures; void = void; attrs = c.in-Ok-attrs_of.ensures.attrs _ closed.0 _ closed.1 })
