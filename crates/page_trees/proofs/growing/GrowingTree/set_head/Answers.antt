use Rattle.std.proofs.Common.{subst, sym, true≢false, ◌∙◌}
use Rattle.page_trees.specs.Stands.{Builds}
use Rattle.page_trees.specs.TreeState.{TreeState}
use Rattle.page_trees.proofs.BuiltPointers.{built_head}
use Rattle.page_trees.proofs.BuiltRoots.{head_named, no_head}
use Rattle.page_trees.proofs.BuiltStacks.{current_id, nothing_current}
use Rattle.page_trees.proofs.growing.GrowingTree.set_head.Goals as goal

pub returns-in-Some : goal.returns-in-Some
returns-in-Some c t is b =
    let here = subst (λ (s : TreeState). Builds s t) (sym c.self.view_is) b in
    built_head _ t _ here (current_id _ t c.in-Some.head here c.in-Some.ensures.value) (head_named _ t here is)

pub returns-in_default : goal.returns-in_default
returns-in_default c t is b =
    let here = subst (λ (s : TreeState). Builds s t) (sym c.self.view_is) b in
    absurd (true≢false (sym is ∙ no_head _ t here (nothing_current _ t here c.in_default.ensures.value)))
