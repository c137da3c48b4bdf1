use Rattle.std.proofs.Common.{◌∙◌, sym, ap, subst, Bool}
use Rattle.page_trees.specs.Constructs.{Constructs, all_performed}
use Rattle.page_trees.specs.TableSteps.{cell_names, closing_cell, if_found, is_again}
use Rattle.page_trees.proofs.builder.TreeBuilder.leave_cell_in.Goals as goal

pub returns-then-has_in_table-clause-found : goal.returns-then-has_in_table-clause-found
returns-then-has_in_table-clause-found c known t b = ap is_again c.close_cell.ensures.next ∙ sym c.if-has_in_table.true ∙ c.has_in_table.ensures known t b

pub returns-then-has_in_table-clause-rule : goal.returns-then-has_in_table-clause-rule
returns-then-has_in_table-clause-rule c known within b stands =
    subst (λ (found : Bool). Constructs c.close_cell.new.self (all_performed (if_found found (closing_cell cell_names)) b)) (sym (ap is_again c.close_cell.ensures.next)) (c.close_cell.ensures.rule within b stands)

pub returns-clause-found : goal.returns-clause-found
returns-clause-found c known t b = sym c.if-has_in_table.false ∙ c.has_in_table.ensures known t b
