use Rattle.std.proofs.Common.{rules, ◌≡◌, ◌∷◌, [], get_or, slice_set, ap, ◌∙◌}
use Rattle.std.proofs.lemmas.Result.{IfOk-weaker}
use Rattle.dom_nodes.specs.declared.name.Attr.{Attr}
use Rattle.dom_nodes.specs.declared.name.NameParts.{NameParts}
use Rattle.dom_nodes.proofs.AttrLemmas.{with_attr-found, with_attr-first}
use Rattle.dom_nodes.proofs.node_data.attrs_form.AttrsForm.with_value.Goals as goal

pub returns-then-attrs-gt2 : goal.returns-then-attrs-gt2
returns-then-attrs-gt2 c name at =
    let value = c.args.value in
    let place = c.args.place in
    let d = c.index_mut.result.now in
    IfOk-weaker c.own.result _ _ (λ form made. made
    ∙ ap (λ attr. slice_set c.in_ok-items.items.items place (record attr { value = value })) c.index_mut.ensures.value
    ∙ ap (λ attrs. slice_set attrs place (record (get_or attrs place d) { value = value })) c.in_ok-items.ensures
    ∙ with_attr-found name value c.args.attrs.now place d at) c.own.ensures

pub returns-in_ok-try_clone : goal.returns-in_ok-try_clone
returns-in_ok-try_clone c name at =
    let attrs = c.args.attrs.now in
    let value = c.args.value in
    let place = c.args.place in
    let of : NameParts → Attr = λ n. record { name = n; value = value } in
    let d = c.index-attrs-place.result in
    let e = c.index-attrs-1.result in
    let changed : of c.in_ok-name.name ≡ of (get_or attrs place d).name = ap of c.in_ok-name.ensures in
    IfOk-weaker c.two.result _ _ (λ form made. made
    ∙ ap (λ attr. attr ∷ c.in_ok-try_clone.field-0 ∷ []) changed
    ∙ ap (λ attr. of (get_or attrs place d).name ∷ attr ∷ []) (c.in_ok-try_clone.ensures ∙ c.index-attrs-1.is)
    ∙ with_attr-first name value attrs place d e at (search rules) (search rules)) c.two.ensures
