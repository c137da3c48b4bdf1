use Rattle.std.proofs.Common.{◌∷◌, ◌++◌, [], ap, sym, ◌∙◌}
use Rattle.std.proofs.lemmas.Result.{IfOk-weaker}
use Rattle.dom_nodes.proofs.AttrLemmas.{with_attr-added}
use Rattle.dom_nodes.proofs.node_data.attrs_form.AttrsForm.with_attr.Goals as goal

pub returns-in_ok-plain_attr-in-None : goal.returns-in_ok-plain_attr-in-None
returns-in_ok-plain_attr-in-None c =
    IfOk-weaker c.lengthened.result _ _ (λ form made. made
    ∙ ap (λ attr. c.args.attrs.now ++ attr ∷ []) c.in_ok-plain_attr-in-None.ensures
    ∙ with_attr-added c.args.name.now c.args.value c.args.attrs.now (sym c.attr_position.ensures ∙ c.in-None.is)) c.lengthened.ensures
