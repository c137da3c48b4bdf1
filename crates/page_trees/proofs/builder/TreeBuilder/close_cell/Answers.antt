use Rattle.std.proofs.Common.{refl, [], ◌∷◌}
use Rattle.standard_trees.specs.RuleWords.{ClearListToMarker, InRow, SwitchTo}
use Rattle.page_trees.specs.TableSteps.{cell_names}
use Rattle.page_trees.proofs.TableRules.{cell_popped, closed_by}
use Rattle.page_trees.proofs.builder.TreeBuilder.close_cell.Goals as goal

pub returns-clause-rule : goal.returns-clause-rule
returns-clause-rule c within b stands =
    closed_by cell_names (ClearListToMarker ∷ SwitchTo InRow ∷ []) _ b refl
    (c.leave_marker.ensures.rule refl within _ (cell_popped c.args.self.now c.pop_to_cell.new.self c.pop_to_cell.ensures b stands))
