use Rattle.std.proofs.Common.{refl, sym, subst, ◌∙◌, Bool, [], ◌∷◌, codes}
use Rattle.standard_trees.specs.RuleWords.{PopUntil, These}
use Rattle.page_trees.specs.Constructs.{Constructs, all_performed}
use Rattle.page_trees.specs.TableSteps.{if_found}
use Rattle.page_trees.proofs.builder.TreeBuilder.end_table.Goals as goal

pub returns-then-close_in_table-clause-found : goal.returns-then-close_in_table-clause-found
returns-then-close_in_table-clause-found c t b = sym c.if-close_in_table.true ∙ c.close_in_table.ensures.found refl t b

pub returns-then-close_in_table-clause-rule : goal.returns-then-close_in_table-clause-rule
returns-then-close_in_table-clause-rule c within b stands =
    c.reset_mode.ensures.rule within _
    (subst (λ (found : Bool). Constructs c.close_in_table.new.self (all_performed (if_found found (PopUntil (These (codes "table" ∷ [])) ∷ [])) b)) c.if-close_in_table.true
    (c.close_in_table.ensures.rule refl (c.reset_mode.ensures.limits within) b stands))

pub returns-clause-found : goal.returns-clause-found
returns-clause-found c t b = sym c.if-close_in_table.false ∙ c.close_in_table.ensures.found refl t b

pub returns-clause-rule : goal.returns-clause-rule
returns-clause-rule c within b stands =
    subst (λ (found : Bool). Constructs c.close_in_table.new.self (all_performed (if_found found (PopUntil (These (codes "table" ∷ [])) ∷ [])) b)) c.if-close_in_table.false
    (c.close_in_table.ensures.rule refl within b stands)
