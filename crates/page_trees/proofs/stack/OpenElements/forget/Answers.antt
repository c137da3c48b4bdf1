use Rattle.std.proofs.Common.{refl, set, subst, sym, ◌∙◌}
use Rattle.page_trees.specs.SearchIndex.{IsIndex}
use Rattle.page_trees.proofs.AlikeLemmas.{alike_index, replaced_alike}
use Rattle.page_trees.proofs.StackSearches.{index_set}
use Rattle.page_trees.proofs.stack.OpenElements.forget.Goals as goal

pub returns-clause-index : goal.returns-clause-index
returns-clause-index c is =
    alike_index c.args.self.now.elements.items (set c.args.self.now.elements.items c.args.place c.args.copy.now) c.args.self.now.marks
    (replaced_alike c.args.self.now.elements.items c.args.place c.in-Some.old c.args.copy.now (sym c.in-Some.ensures.value) (sym c.is_named_like.ensures ∙ c.if-is_named_like.true)) is

pub returns-2-clause-index : goal.returns-2-clause-index
returns-2-clause-index c is =
    index_set c.args.self.now.elements.items (set c.args.self.now.elements.items c.args.place c.args.copy.now) c.cut.new.self c.args.place c.args.copy.now refl c.cut.ensures.short
    (subst (λ xs. IsIndex xs c.cut.new.self) c.as_slice.ensures.value (c.cut.ensures.index (subst (λ xs. IsIndex xs c.args.self.now.marks) (sym c.as_slice.ensures.value) is)))
