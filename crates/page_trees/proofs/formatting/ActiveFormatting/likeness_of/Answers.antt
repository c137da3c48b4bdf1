use Rattle.std.proofs.Common.{Option, subst, sym, ◌∙◌}
use Rattle.page_trees.specs.Likeness.{AreLikesOf, KnowsLikes, Listed}
use Rattle.page_trees.specs.ListIndex.{likes_of}
use Rattle.page_trees.specs.declared.formatting.index.FormattingIndex.{FormattingIndex}
use Rattle.page_trees.proofs.LikeKeys.{likes_more}
use Rattle.page_trees.proofs.formatting.ActiveFormatting.likeness_of.Goals as goal

pub returns-clause-likes : goal.returns-clause-likes
returns-clause-likes c are =
    likes_more c.args.tree.now c.self.inside.entries.items c.in-Some.known c.likeness_of.new.self c.likeness_of.ensures.likes
    c.in-Some-likeness_of.ensures.kept
    (subst (λ (o : Option FormattingIndex). AreLikesOf c.args.tree.now c.self.inside.entries.items (likes_of o)) (sym c.take.ensures.value ∙ c.in-Some.is)
    (subst (λ (l : Listed). KnowsLikes c.args.tree.now l) (sym c.self.view_is) (c.index_if_long.ensures.likes are)))
