use Rattle.std.proofs.Common.{sym, ap, ◌∙◌}
use Rattle.dom_nodes.proofs.ClassLemmas.{without_classes-none}
use Rattle.dom_nodes.proofs.node_data.Element.remove_class.Goals as goal

pub returns-then-not-has_attr-clause-ok : goal.returns-then-not-has_attr-clause-ok
returns-then-not-has_attr-clause-ok c =
    ap (λ attrs. record c.args.self.now { attrs = attrs }) (sym (without_classes-none c.args.classes.now c.args.self.now.attrs
    (sym c.is_blank.ensures ∙ c.if-is_blank.false) (sym c.has_attr.ensures ∙ c.if-not-has_attr.true)))
