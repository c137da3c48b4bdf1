use Rattle.std.proofs.Common.{[], refl, rules, arith}
use Rattle.std.proofs.lemmas.Result.{err_from_is_err_and}
use Rattle.std.proofs.lemmas.Grind.{common_steps}
use Rattle.dom_markup.specs.Bytes.{folded}
use Rattle.dom_markup.specs.Markup.{NamesElement, kept_after}
use Rattle.dom_markup.proofs.grammar.Items.{start_closes, start_fails, start_unnamed}
use Rattle.dom_markup.proofs.document.tags.start_tag_end.Goals as goal

pub returns-then-not-names_element : goal.returns-then-not-names_element
returns-then-not-names_element c = start_unnamed _ _ _ c.split_front.ensures c.if-not-names_element.ensures

pub returns-in_err-rest : goal.returns-in_err-rest
returns-in_err-rest c =
    let p = err_from_is_err_and c.from_residual.result c.from_residual.ensures.1 in
    let names : NamesElement c.split_front.result.0.now (folded c.split_front.result.0.now) = search rules in
    rw (p.1, p.2) (start_fails _ _ _ _ _ _ c.split_front.ensures names.0 refl c.attributes_end.ensures c.in_err-rest.ensures)

pub returns : goal.returns
returns c =
    let names : NamesElement c.split_front.result.0.now (folded c.split_front.result.0.now) = search rules in
    let closed = start_closes _ _ _ _ _ _ c.split_front.ensures names refl c.attributes_end.ensures c.in_ok-rest.ensures in
    (kept_after [] closed.0, closed.2)

pub names_element-requires-text-name : goal.names_element-requires-text-name
names_element-requires-text-name c = grind (arith, common_steps)

pub names_element-requires : goal.names_element-requires
names_element-requires c = grind (arith, common_steps)

pub attributes_end-requires-text-text : goal.attributes_end-requires-text-text
attributes_end-requires-text-text c = grind (arith, common_steps)

pub close_named-requires-text-name : goal.close_named-requires-text-name
close_named-requires-text-name c = grind (arith, common_steps)
