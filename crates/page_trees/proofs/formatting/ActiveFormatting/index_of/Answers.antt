use Rattle.std.proofs.Common.{Option, subst, ap, ◌∙◌}
use Rattle.page_trees.specs.Formatting.{is_of, last_place}
use Rattle.page_trees.specs.KeyPlaces.{last_key}
use Rattle.page_trees.specs.Likeness.{Listed}
use Rattle.page_trees.specs.ListIndex.{AreIndexed, IsIndexOf}
use Rattle.page_trees.specs.declared.formatting.index.FormattingIndex.{FormattingIndex}
use Rattle.page_trees.proofs.IndexedLists.{found_by_id}
use Rattle.page_trees.proofs.formatting.ActiveFormatting.index_of.Goals as goal

pub returns-in-Some-clause-place : goal.returns-in-Some-clause-place
returns-in-Some-clause-place c =
    let at : AreIndexed c.self.inside.entries.items c.in-Some.index =
    subst (λ (o : Option FormattingIndex). IsIndexOf c.self.inside.entries.items o) c.in-Some.is c.self.invariant in
    c.position_of.ensures.place ∙ ap (last_key c.args.id) at.ids ∙ found_by_id c.self.inside.entries.items c.args.id c.position_of.ensures.bound
    ∙ ap (λ (l : Listed). last_place (is_of c.args.id) l.entries) c.self.view_is
