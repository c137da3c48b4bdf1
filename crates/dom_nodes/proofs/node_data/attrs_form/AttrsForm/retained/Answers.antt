use Rattle.std.proofs.Common.{rules, filter, ap, sym, ◌∙◌}
use Rattle.std.proofs.lemmas.Fn.{filter_same}
use Rattle.dom_nodes.specs.AttrForms.{form_attrs}
use Rattle.dom_nodes.specs.Kept.{keeps}
use Rattle.dom_nodes.proofs.node_data.attrs_form.AttrsForm.retained.Goals as goal

pub returns-in-Own : goal.returns-in-Own
returns-in-Own c =
    filter_same _ (keeps c.args.kept) _ (λ x b f' k. search rules) _ _ c.retain.ensures.filtered
    ∙ ap (λ list. filter (keeps c.args.kept) list.items) c.deref_mut.ensures.value
    ∙ ap (λ form. filter (keeps c.args.kept) (form_attrs form)) (sym c.in-Own.is)
