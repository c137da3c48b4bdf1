use Rattle.std.proofs.Common.{ap, set, subst, sym, ◌∙◌}
use Rattle.page_trees.specs.SearchIndex.{IsIndex}
use Rattle.page_trees.proofs.stack.OpenElements.replace.Goals as goal

pub returns-clause-index : goal.returns-clause-index
returns-clause-index c is =
    subst (λ m. IsIndex c.put.new.self.elements.items m) (sym c.put.ensures.marks)
    (subst (λ xs. IsIndex xs c.forget.new.self.marks) (sym (c.put.ensures.items ∙ ap (λ v. set v.items c.args.place c.args.copy.now) c.forget.ensures.elements)) (c.forget.ensures.index is))
