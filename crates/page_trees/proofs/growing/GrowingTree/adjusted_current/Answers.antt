use Rattle.std.proofs.Common.{ap, length, subst, sym, ◌∙◌}
use Rattle.standard_trees.specs.GrowingTree.{adjusted_current}
use Rattle.page_trees.specs.Stands.{IsCurrent}
use Rattle.page_trees.specs.TreeState.{TreeState}
use Rattle.page_trees.proofs.BuiltStacks.{adjusted_node, one_less}
use Rattle.page_trees.proofs.growing.GrowingTree.adjusted_current.Goals as goal

pub returns : goal.returns
returns c t b =
    let long = one_less _ (length c.args.self.now.stack) (c.len-count.ensures ∙ ap (λ (s : TreeState). length s.stack) c.self.view_is) c.if-count-eq0.false in
    subst (λ r. IsCurrent r (adjusted_current t)) (sym c.adjusted_current_node.ensures) (adjusted_node c.args.self.now t _ b long)
