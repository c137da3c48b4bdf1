use Rattle.std.proofs.Common.{◌∙◌, refl, sym, ap, subst, Bool}
use Rattle.page_trees.specs.Constructs.{Constructs, all_performed}
use Rattle.page_trees.specs.TableSteps.{closing_row, if_found, is_again}
use Rattle.page_trees.proofs.builder.TreeBuilder.leave_row.Goals as goal

pub returns-then-has_in_table-clause-found : goal.returns-then-has_in_table-clause-found
returns-then-has_in_table-clause-found c t b = ap is_again c.end_row.ensures.next ∙ sym c.if-has_in_table.true ∙ c.has_in_table.ensures refl t b

pub returns-then-has_in_table-clause-rule : goal.returns-then-has_in_table-clause-rule
returns-then-has_in_table-clause-rule c within b stands =
    subst (λ (found : Bool). Constructs c.end_row.new.self (all_performed (if_found found closing_row) b)) (sym (ap is_again c.end_row.ensures.next)) (c.end_row.ensures.rule within b stands)

pub returns-clause-found : goal.returns-clause-found
returns-clause-found c t b = sym c.if-has_in_table.false ∙ c.has_in_table.ensures refl t b
