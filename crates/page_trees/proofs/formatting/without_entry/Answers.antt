use Rattle.std.proofs.Common.{Option, subst}
use Rattle.page_trees.specs.Likeness.{AreLikesOf, HasLikeness}
use Rattle.page_trees.specs.ListIndex.{IsIndexOf, likes_of}
use Rattle.page_trees.specs.declared.formatting.index.FormattingIndex.{FormattingIndex}
use Rattle.page_trees.proofs.IndexedLists.{indexed_without}
use Rattle.page_trees.proofs.LikeKeys.{likes_without, number_as}
use Rattle.page_trees.proofs.formatting.without_entry.Goals as goal

pub returns-clause-indexed : goal.returns-clause-indexed
returns-clause-indexed c entries less at =
    indexed_without entries c.args.place c.in_ok-known.known c.remove.new.self less
    (subst (λ (o : Option FormattingIndex). IsIndexOf entries o) c.in_ok-known.was at) c.remove.ensures.ids c.remove.ensures.names c.remove.ensures.likes

pub returns-clause-likes : goal.returns-clause-likes
returns-clause-likes c forest entries less are =
    likes_without forest entries c.args.place c.in_ok-known.known c.remove.new.self c.remove.ensures.likes c.remove.ensures.numbers
    (subst (λ (o : Option FormattingIndex). AreLikesOf forest entries (likes_of o)) c.in_ok-known.was are)

pub returns-clause-kept : goal.returns-clause-kept
returns-clause-kept c forest id likeness one =
    number_as forest id likeness c.in_ok-known.known c.remove.new.self c.remove.ensures.numbers
    (subst (λ (o : Option FormattingIndex). HasLikeness forest id likeness (likes_of o)) c.in_ok-known.was one)
