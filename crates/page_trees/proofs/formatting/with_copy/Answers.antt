use Rattle.std.proofs.Common.{Option, subst}
use Rattle.page_trees.specs.Likeness.{AreLikesOf, IsLikeness}
use Rattle.page_trees.specs.ListIndex.{IsIndexOf, likes_of}
use Rattle.page_trees.specs.declared.formatting.index.FormattingIndex.{FormattingIndex}
use Rattle.page_trees.proofs.IndexedLists.{indexed_set}
use Rattle.page_trees.proofs.LikeKeys.{likes_set}
use Rattle.page_trees.proofs.formatting.with_copy.Goals as goal

pub returns-in-Ok-clause-indexed : goal.returns-in-Ok-clause-indexed
returns-in-Ok-clause-indexed c entries at =
    indexed_set entries c.args.place c.args.entry.now c.args.likeness c.in_ok-known.known c.replace.new.self
    (subst (λ (o : Option FormattingIndex). IsIndexOf entries o) c.in_ok-known.was at) c.in-Ok.ensures.ids c.in-Ok.ensures.names c.in-Ok.ensures.likes

pub returns-in-Ok-clause-likes : goal.returns-in-Ok-clause-likes
returns-in-Ok-clause-likes c forest entries one are =
    likes_set forest entries c.args.place c.args.entry.now c.args.likeness c.in_ok-known.known c.replace.new.self c.in-Ok.ensures.likes
    c.replace.ensures.numbers
    (subst (λ (o : Option FormattingIndex). IsLikeness forest c.args.entry.now c.args.likeness (likes_of o)) c.in_ok-known.was one)
    (subst (λ (o : Option FormattingIndex). AreLikesOf forest entries (likes_of o)) c.in_ok-known.was are)
