use Rattle.std.proofs.Common.{rules, ◌≡◌, Some, position, take, ap, ◌∙◌}
use Rattle.dom_nodes.specs.Changes.{is_attr_named, with_attr}
use Rattle.dom_nodes.proofs.AttrLemmas.{with_attr-part}
use Rattle.dom_nodes.proofs.node_data.attrs_form.AttrsForm.set_few.Goals as goal

pub returns-clause-put : goal.returns-clause-put
returns-clause-put c _ =
    let name = c.args.name.now in
    let value = c.args.value in
    let list = c.deref_mut.result.now in
    let at : position (is_attr_named name) (take c.in-Few.count list) ≡ Some c.in-Some.place = search rules in
    with_attr-part name value list c.in-Few.count c.in-Some.place _ at ∙ ap (with_attr name value) (search rules)
