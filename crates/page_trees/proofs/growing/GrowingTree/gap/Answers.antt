use Rattle.std.proofs.Common.{length, subst, sym, true≢false, ◌<◌, ◌∙◌}
use Rattle.page_trees.specs.Stands.{Builds}
use Rattle.page_trees.specs.TreeState.{TreeState}
use Rattle.page_trees.proofs.BuiltPlaces.{gap_point}
use Rattle.page_trees.proofs.growing.GrowingTree.gap.Goals as goal
use Rattle.page_trees.proofs.growing.GrowingTree.gap.Goals.{in_default-via-in-Some+else-placing, in_default-via-in_default}

pub returns-in_default-clause-rule : goal.returns-in_default-clause-rule
returns-in_default-clause-rule c shallow t fosters b =
    gap_point _ t c.args.placing _ (subst (λ (s : TreeState). Builds s t) (sym c.self.view_is) b) c.is_forest.ensures
    (subst (λ (s : TreeState). length s.stack < c.args.placing.max_depth) (sym c.self.view_is) shallow) fosters (elim c.in_default.branch [
      | in_default-via-in-Some+else-placing w ↦ λ in_head. absurd (true≢false (sym in_head ∙ w.if-placing.false))
      | in_default-via-in_default w ↦ λ in_head. w.in_default.is
    ]) c.gap.ensures.value
