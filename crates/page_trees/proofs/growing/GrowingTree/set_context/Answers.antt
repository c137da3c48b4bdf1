use Rattle.std.proofs.Common.{ap, subst, sym, true≢false, ◌∙◌}
use Rattle.standard_trees.specs.Building.{is_empty}
use Rattle.page_trees.specs.Stands.{Builds}
use Rattle.page_trees.specs.TreeState.{TreeState}
use Rattle.page_trees.proofs.BuiltStacks.{nothing_current}
use Rattle.page_trees.proofs.ContextElements.{built_context, of_any_id}
use Rattle.page_trees.proofs.growing.GrowingTree.set_context.Goals as goal

pub returns-in-Some : goal.returns-in-Some
returns-in-Some c t open_ kind is b =
    let here = subst (λ (s : TreeState). Builds s t) (sym c.self.view_is) b in
    built_context _ t _ kind (of_any_id c.args.ns c.args.name _ kind is) here

pub returns-in_default : goal.returns-in_default
returns-in_default c t open_ kind is b =
    let here = subst (λ (s : TreeState). Builds s t) (sym c.self.view_is) b in
    absurd (true≢false (sym (ap is_empty (nothing_current _ t here c.in_default.ensures.value)) ∙ open_))
