use Rattle.std.proofs.Common.{ap, reverse, subst, sym, true≢false, ◌∙◌}
use Rattle.page_trees.specs.Placing.{place_of, point_of}
use Rattle.page_trees.specs.Stands.{Builds}
use Rattle.page_trees.specs.TreeState.{TreeState}
use Rattle.page_trees.proofs.BuiltPlaces.{wide_point}
use Rattle.page_trees.proofs.growing.GrowingTree.gap_at_any_depth.Goals as goal
use Rattle.page_trees.proofs.growing.GrowingTree.gap_at_any_depth.Goals.{in_default-via-in-Some+else-placing, in_default-via-in_default}

pub returns-in_default-clause-rule : goal.returns-in_default-clause-rule
returns-in_default-clause-rule c t fosters b =
    wide_point _ t c.args.placing _ (subst (λ (s : TreeState). Builds s t) (sym c.self.view_is) b) c.is_forest.ensures fosters (elim c.in_default.branch [
      | in_default-via-in-Some+else-placing w ↦ λ in_head. absurd (true≢false (sym in_head ∙ w.if-placing.false))
      | in_default-via-in_default w ↦ λ in_head. w.in_default.is
    ]) (c.gap_in.ensures.value ∙ ap (λ os. point_of c.self.inside.tree (place_of c.self.inside.tree c.args.placing.foster (reverse os))) c.as_slice.ensures)
