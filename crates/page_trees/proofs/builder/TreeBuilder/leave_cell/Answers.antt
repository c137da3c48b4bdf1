use Rattle.std.proofs.Common.{◌∙◌, sym, ap, subst, Bool}
use Rattle.page_trees.specs.Constructs.{Constructs, all_performed}
use Rattle.page_trees.specs.TableSteps.{cell_names, closing_cell, if_found, is_again}
use Rattle.page_trees.proofs.builder.TreeBuilder.leave_cell.Goals as goal

pub returns-then-has_cell-clause-found : goal.returns-then-has_cell-clause-found
returns-then-has_cell-clause-found c t b = ap is_again c.close_cell.ensures.next ∙ sym c.if-has_cell.true ∙ c.has_cell.ensures t b

pub returns-then-has_cell-clause-rule : goal.returns-then-has_cell-clause-rule
returns-then-has_cell-clause-rule c within b stands =
    subst (λ (found : Bool). Constructs c.close_cell.new.self (all_performed (if_found found (closing_cell cell_names)) b)) (sym (ap is_again c.close_cell.ensures.next)) (c.close_cell.ensures.rule within b stands)

pub returns-clause-found : goal.returns-clause-found
returns-clause-found c t b = sym c.if-has_cell.false ∙ c.has_cell.ensures t b
