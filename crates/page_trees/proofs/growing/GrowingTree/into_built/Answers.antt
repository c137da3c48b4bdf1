use Rattle.std.proofs.Common.{ap, sym, ◌∙◌}
use Rattle.page_trees.specs.TreeState.{TreeState, completed}
use Rattle.page_trees.proofs.DocumentsStand.{tree_stands}
use Rattle.page_trees.proofs.growing.GrowingTree.into_built.Goals as goal

pub returns-clause-rule : goal.returns-clause-rule
returns-clause-rule c = λ b builds mode.
    tree_stands c.args.self b c.put_into.new.tree c.self.inside.quirks_mode c.is_forest.ensures builds
    (c.in_ok-put_into.ensures.ok ∙ ap (λ (s : TreeState). completed s.late s.forest) c.self.view_is)
    (mode ∙ sym (ap (λ (s : TreeState). s.quirks) c.self.view_is))
