use Rattle.std.proofs.Common.{List, Option, subst, sym, ap, ◌∙◌, length}
use Rattle.std.specs.Prelude.{remove}
use Rattle.page_trees.specs.Likeness.{AreLikesOf, KnowsLikes, Listed}
use Rattle.page_trees.specs.ListIndex.{IsIndexOf, likes_of}
use Rattle.page_trees.specs.declared.formatting.Entry.{Entry}
use Rattle.page_trees.specs.declared.formatting.index.FormattingIndex.{FormattingIndex}
use Rattle.page_trees.proofs.IndexedLists.{last_less, removed_last}
use Rattle.page_trees.proofs.formatting.ActiveFormatting.take.Goals as goal

pub invariant_of-self-2 : goal.invariant_of-self-2
invariant_of-self-2 c =
    let items = c.in_ok-last.ensures.items in
    let left = ap (λ (es : List Entry). length es) c.as_slice-left.ensures.value in
    subst (λ (es : List Entry). IsIndexOf es c.without_entry.result)
    (ap (λ n. remove c.self.inside.entries.items n) left ∙ ap (λ (es : List Entry). remove es (length c.pop.new.self.items)) items
    ∙ removed_last c.pop.new.self.items c.in_ok-last.last)
    (c.without_entry.ensures.indexed c.self.inside.entries.items
    (last_less c.self.inside.entries.items c.pop.new.self.items c.in_ok-last.last (length c.as_slice-left.result.now) items left)
    (subst (λ (o : Option FormattingIndex). IsIndexOf c.self.inside.entries.items o) (sym c.take.ensures.value) c.self.invariant))

pub returns-clause-likes : goal.returns-clause-likes
returns-clause-likes c forest are =
    let items = c.in_ok-last.ensures.items in
    let left = ap (λ (es : List Entry). length es) c.as_slice-left.ensures.value in
    subst (λ (es : List Entry). AreLikesOf forest es (likes_of c.without_entry.result))
    (ap (λ n. remove c.self.inside.entries.items n) left ∙ ap (λ (es : List Entry). remove es (length c.pop.new.self.items)) items
    ∙ removed_last c.pop.new.self.items c.in_ok-last.last)
    (c.without_entry.ensures.likes forest c.self.inside.entries.items
    (last_less c.self.inside.entries.items c.pop.new.self.items c.in_ok-last.last (length c.as_slice-left.result.now) items left)
    (subst (λ (o : Option FormattingIndex). AreLikesOf forest c.self.inside.entries.items (likes_of o)) (sym c.take.ensures.value)
    (subst (λ (l : Listed). KnowsLikes forest l) (sym c.self.view_is) are)))
