use Rattle.std.proofs.Common.{refl, sym, subst, ◌∙◌, Bool, [], ◌∷◌}
use Rattle.standard_trees.specs.RuleWords.{ClearListToMarker, InRow, PopUntil, SwitchTo, These}
use Rattle.page_trees.specs.Constructs.{Constructs, all_performed}
use Rattle.page_trees.specs.Names.{text_of}
use Rattle.page_trees.specs.TableSteps.{if_found}
use Rattle.page_trees.proofs.TableRules.{closed_by}
use Rattle.page_trees.proofs.TableTags.{cell_apart, cell_is_known}
use Rattle.page_trees.proofs.builder.TreeBuilder.end_cell.Goals as goal

pub returns-then-close_in_table-clause-found : goal.returns-then-close_in_table-clause-found
returns-then-close_in_table-clause-found c known t b = sym c.if-close_in_table.true ∙ c.close_in_table.ensures.found known t b

pub returns-then-close_in_table-clause-rule : goal.returns-then-close_in_table-clause-rule
returns-then-close_in_table-clause-rule c cell within b stands =
    closed_by (text_of c.args.name ∷ []) (ClearListToMarker ∷ SwitchTo InRow ∷ []) _ b (cell_apart c.args.name cell)
    (c.leave_marker.ensures.rule refl within _
    (subst (λ (found : Bool). Constructs c.close_in_table.new.self (all_performed (if_found found (PopUntil (These (text_of c.args.name ∷ [])) ∷ [])) b)) c.if-close_in_table.true
    (c.close_in_table.ensures.rule (cell_is_known c.args.name cell) (c.leave_marker.ensures.limits within) b stands)))

pub returns-clause-found : goal.returns-clause-found
returns-clause-found c known t b = sym c.if-close_in_table.false ∙ c.close_in_table.ensures.found known t b

pub returns-clause-rule : goal.returns-clause-rule
returns-clause-rule c cell within b stands =
    subst (λ (found : Bool). Constructs c.close_in_table.new.self (all_performed (if_found found (PopUntil (These (text_of c.args.name ∷ [])) ∷ [])) b)) c.if-close_in_table.false
    (c.close_in_table.ensures.rule (cell_is_known c.args.name cell) within b stands)
