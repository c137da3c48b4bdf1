use Rattle.std.proofs.Common.{refl, subst, sym, ◌∙◌}
use Rattle.page_trees.specs.Stands.{IsStackOf}
use Rattle.page_trees.proofs.HtmlTags.{html_added, html_ignored}
use Rattle.page_trees.proofs.builder.TreeBuilder.add_html_attrs.Goals as goal

pub returns-then-has-clause-rule : goal.returns-then-has-clause-rule
returns-then-has-clause-rule c starts within b current html stands =
    let open_is = c.has.ensures.rule b.tree refl (subst (IsStackOf b.tree) (sym c.open.ensures.elements) stands.tree.stack) c.open.ensures.index in
    html_ignored c.args.tag.now b c.args.self.now current starts (sym open_is ∙ c.if-has.true) stands

pub returns-clause-rule : goal.returns-clause-rule
returns-clause-rule c starts within b current html stands =
    let open_is = c.has.ensures.rule b.tree refl (subst (IsStackOf b.tree) (sym c.open.ensures.elements) stands.tree.stack) c.open.ensures.index in
    html_added c.args.tag.now b c.args.self.now c.add_attrs.new.self current starts html (sym open_is ∙ c.if-has.false) c.add_attrs.ensures.rule within stands
