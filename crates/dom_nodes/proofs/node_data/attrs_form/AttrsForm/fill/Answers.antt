use Rattle.std.proofs.Common.{◌∷◌, ◌++◌, [], take, refl, ap, ◌∙◌}
use Rattle.std.specs.Rc.{rc_value}
use Rattle.dom_nodes.specs.AttrForms.{form_attrs}
use Rattle.dom_nodes.proofs.AttrLemmas.{put-first, put-second}
use Rattle.dom_nodes.proofs.node_data.attrs_form.AttrsForm.fill.Goals as goal

pub returns-in_default-put-clause-put : goal.returns-in_default-put-clause-put
returns-in_default-put-clause-put c _ =
    ap (take 1) (c.in_default-put.ensures.put refl)
    ∙ put-first (rc_value c.in-Room.list) c.args.attr (c.in_default-put.ensures.pair refl)
    ∙ ap (λ form. form_attrs form ++ c.args.attr ∷ []) c.in-Room.ensures.value

pub returns-in_default-put-2-clause-put : goal.returns-in_default-put-2-clause-put
returns-in_default-put-2-clause-put c _ =
    c.in_default-put-2.ensures.put refl
    ∙ put-second (rc_value c.in-First.list) c.args.attr (c.in_default-put-2.ensures.pair refl)
    ∙ ap (λ form. form_attrs form ++ c.args.attr ∷ []) c.in-First.ensures.value
