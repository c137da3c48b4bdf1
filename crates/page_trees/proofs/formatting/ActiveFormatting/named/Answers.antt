use Rattle.std.proofs.Common.{Option, subst, ap, ◌∙◌}
use denote.Enum.Declared.{tag_of}
use Rattle.page_trees.specs.Likeness.{Listed}
use Rattle.page_trees.specs.ListIndex.{AreIndexed, IsIndexOf, last_after_marker}
use Rattle.page_trees.specs.contracts.name.Name.{the_type}
use Rattle.page_trees.specs.declared.formatting.index.FormattingIndex.{FormattingIndex}
use Rattle.page_trees.proofs.IndexedLists.{named_at, names_of, unnamed}
use Rattle.page_trees.proofs.formatting.ActiveFormatting.named.Goals as goal

pub returns-in_err-last_named : goal.returns-in_err-last_named
returns-in_err-last_named c =
    let at : AreIndexed c.self.inside.entries.items c.in-Some.index =
    subst (λ (o : Option FormattingIndex). IsIndexOf c.self.inside.entries.items o) c.in-Some.is c.self.invariant in
    rw c.from_residual.ensures (unnamed c.args.name c.args.self.now.entries c.last_named-2.result
    (c.last_named-2.ensures ∙ ap (last_after_marker (tag_of the_type c.args.name)) (at.names ∙ ap (λ (l : Listed). names_of l.entries) c.self.view_is)) c.in_err-last_named.was)

pub returns : goal.returns
returns c =
    let at : AreIndexed c.self.inside.entries.items c.in-Some.index =
    subst (λ (o : Option FormattingIndex). IsIndexOf c.self.inside.entries.items o) c.in-Some.is c.self.invariant in
    named_at c.args.name c.args.self.now.entries c.last_named-2.result c.in_ok-last_named.field-0 c.element_at.result
    (c.last_named-2.ensures ∙ ap (last_after_marker (tag_of the_type c.args.name)) (at.names ∙ ap (λ (l : Listed). names_of l.entries) c.self.view_is)) c.in_ok-last_named.was
    c.element_at.ensures
