use Rattle.std.proofs.Common.{rules, sym, subst, ap, ◌∙◌, ◌≡◌}
use denote.Enum.Bare.{same_false, same_true}
use Rattle.standard_trees.specs.Building.{perform}
use Rattle.page_trees.specs.Constructs.{Constructs, implying}
use Rattle.page_trees.specs.Names.{text_of}
use Rattle.page_trees.specs.contracts.name.Name.{the_type}
use Rattle.page_trees.specs.declared.name.Name.{Name}
use Rattle.page_trees.proofs.ElementSteps.{implied, implied_element, implied_root}
use Rattle.page_trees.proofs.builder.TreeBuilder.insert_implied.Goals as goal

pub returns-in-Ok-clause-rule : goal.returns-in-Ok-clause-rule
returns-in-Ok-clause-rule c text within b stands =
    let e : c.args.name ≡ Name.Html = same_true the_type (search rules) c.args.name Name.Html (sym c.eq.ensures ∙ c.if-eq.true) in
    subst (λ (n : Name). Constructs c.insert_html.new.self (perform (implying n) b)) (sym e)
    (implied_root c.in-Ok.tag c.args.self.now c.insert_html.new.self c.insert_html.ensures.element
    (implied Name.Html c.in-Ok.tag c.args.written.now (text ∙ ap text_of e) c.in-Ok.ensures.named c.in-Ok.ensures.bare) within b stands)

pub returns-in-Ok-2-clause-rule : goal.returns-in-Ok-2-clause-rule
returns-in-Ok-2-clause-rule c text within b stands =
    implied_element c.args.name c.in-Ok.tag c.args.self.now c.insert.new.self (same_false the_type c.args.name Name.Html (sym c.eq.ensures ∙ c.if-eq.false))
    c.insert.ensures.element (implied c.args.name c.in-Ok.tag c.args.written.now text c.in-Ok.ensures.named c.in-Ok.ensures.bare) within b stands
