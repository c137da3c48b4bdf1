use Rattle.std.proofs.Common.{ap, subst, sym, ◌∙◌}
use Rattle.std.specs.Prelude.{slice_get}
use Rattle.page_trees.specs.Stands.{Builds}
use Rattle.page_trees.specs.TreeState.{TreeState}
use Rattle.page_trees.proofs.MergedNodes.{merged_step}
use Rattle.page_trees.proofs.growing.GrowingTree.add_attrs.Goals as goal

pub returns-in_ok-add-clause-rule : goal.returns-in_ok-add-clause-rule
returns-in_ok-add-clause-rule c attrs has t may b =
    let got = c.in-Some.ensures.value ∙ ap (λ (s : TreeState). slice_get s.stack c.args.place) c.self.view_is in
    merged_step _ t c.in-Some.open _ attrs c.args.tag.now.attrs.items _ (subst (λ (s : TreeState). Builds s t) (sym c.self.view_is) b) got has may c.in_ok-add.ensures
