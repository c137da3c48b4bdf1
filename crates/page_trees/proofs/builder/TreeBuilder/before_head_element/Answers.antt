use Rattle.std.proofs.Common.{rules, sym, subst, ◌∙◌, ◌≡◌}
use denote.Enum.Bare.{same_false, same_true}
use Rattle.page_trees.specs.contracts.name.Name.{the_type}
use Rattle.page_trees.specs.declared.name.Name.{Name}
use Rattle.page_trees.specs.Constructs.{Performs}
use Rattle.page_trees.specs.HeadSteps.{before_element}
use Rattle.page_trees.proofs.HeadEdits.{nothing_before}
use Rattle.page_trees.proofs.builder.TreeBuilder.before_head_element.Goals as goal

pub returns-then-eq-clause-rule : goal.returns-then-eq-clause-rule
returns-then-eq-clause-rule c =
    let e : c.args.name ≡ Name.Template = same_true the_type (search rules) c.args.name Name.Template (sym c.eq.ensures ∙ c.if-eq.true) in
    subst (λ (n : Name). Performs (before_element n) c.args.self.now c.start_template.new.self) (sym e) c.start_template.ensures.rule

pub returns-clause-rule : goal.returns-clause-rule
returns-clause-rule c = nothing_before c.args.name c.args.self.now (same_false the_type c.args.name Name.Template (sym c.eq.ensures ∙ c.if-eq.false))
