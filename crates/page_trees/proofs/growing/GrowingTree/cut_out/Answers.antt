use Rattle.std.proofs.Common.{ap, subst, sym, ◌∙◌}
use Rattle.std.specs.Prelude.{slice_get}
use Rattle.page_trees.specs.Stands.{Builds}
use Rattle.page_trees.specs.TreeState.{TreeState}
use Rattle.page_trees.proofs.BuiltNodes.{cut_built, none_cut}
use Rattle.page_trees.proofs.HeldNumbers.{grown}
use Rattle.page_trees.proofs.growing.GrowingTree.cut_out.Goals as goal

pub invariant_of-self : goal.invariant_of-self
invariant_of-self c =
    (grown _ _ _ _ _ _ _ c.self.invariant.0 c.cut_out.ensures.grows, c.self.invariant.1)

pub returns-in-Some : goal.returns-in-Some
returns-in-Some c t b =
    let got = c.in-Some.ensures.value ∙ ap (λ (s : TreeState). slice_get s.stack c.args.place) c.self.view_is in
    cut_built _ t _ c.in-Some.open _ (subst (λ (s : TreeState). Builds s t) (sym c.self.view_is) b) got c.cut_out.ensures.made

pub returns-in_default : goal.returns-in_default
returns-in_default c t b =
    let got = c.in_default.ensures.value ∙ ap (λ (s : TreeState). slice_get s.stack c.args.place) c.self.view_is in
    none_cut _ t _ b got
