use Rattle.std.proofs.Common.{◌≡◌, ◌∷◌, ◌++◌, [], None, Some, position, slice_set, ap, sym, ◌∙◌}
use Rattle.std.proofs.lemmas.Result.{on_ok_weaker}
use Rattle.dom_nodes.specs.Changes.{is_attr_named}
use Rattle.dom_nodes.proofs.AttrLemmas.{with_attr-found, with_attr-added}
use Rattle.dom_nodes.proofs.node_data.attributes.set_in.Goals as goal

pub returns-in-Some-clause-ok : goal.returns-in-Some-clause-ok
returns-in-Some-clause-ok c =
    let attrs = c.args.items.now.items in
    let at : position (is_attr_named c.args.name.now) attrs ≡ Some c.in-Some.place =
    ap (position (is_attr_named c.args.name.now)) (sym c.as_slice.ensures.value) ∙ sym c.attr_position.ensures ∙ c.in-Some.is in
    ap (λ attr. slice_set attrs c.in-Some.place (record attr { value = c.args.value })) c.index_mut.ensures.value
    ∙ with_attr-found c.args.name.now c.args.value attrs c.in-Some.place c.index_mut.result.now at

pub returns-in_ok-attr-in-None-clause-ok : goal.returns-in_ok-attr-in-None-clause-ok
returns-in_ok-attr-in-None-clause-ok c =
    let attrs = c.args.items.now.items in
    let none : position (is_attr_named c.args.name.now) attrs ≡ None =
    ap (position (is_attr_named c.args.name.now)) (sym c.as_slice.ensures.value) ∙ sym c.attr_position.ensures ∙ c.in-None.is in
    on_ok_weaker c.push_doubling.result (λ pushed. pushed
    ∙ ap (λ attr. attrs ++ attr ∷ []) c.in_ok-attr-in-None.ensures
    ∙ with_attr-added c.args.name.now c.args.value attrs none) c.push_doubling.ensures.ok
