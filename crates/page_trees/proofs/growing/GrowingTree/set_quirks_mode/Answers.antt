use Rattle.std.proofs.Common.{subst, sym}
use Rattle.page_trees.specs.Stands.{Builds}
use Rattle.page_trees.specs.TreeState.{TreeState}
use Rattle.page_trees.proofs.DocumentsStand.{mode_set}
use Rattle.page_trees.proofs.growing.GrowingTree.set_quirks_mode.Goals as goal

pub returns-clause-rule : goal.returns-clause-rule
returns-clause-rule c t b = mode_set _ t c.args.mode (subst (λ (s : TreeState). Builds s t) (sym c.self.view_is) b)
