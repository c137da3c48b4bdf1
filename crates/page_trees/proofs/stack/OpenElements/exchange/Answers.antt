use Rattle.std.proofs.Common.{ap, set, subst, sym, ◌∙◌}
use Rattle.page_trees.specs.SearchIndex.{IsIndex}
use Rattle.page_trees.proofs.Carrying.{exchanged}
use Rattle.page_trees.proofs.StackSearches.{exchanged_stack, set_exchanged}
use Rattle.page_trees.proofs.stack.OpenElements.exchange.Goals as goal

pub returns-clause-items : goal.returns-clause-items
returns-clause-items c xs y front lt =
    exchanged c.args.self.now.elements.items c.put.new.self.elements.items c.put-2.new.self.elements.items xs c.args.place y c.in-Some-Some.lower c.in-Some-Some.upper (sym c.in-Some-Some.ensures.value) (sym c.in-Some-Some.ensures')
    (c.put.ensures.items ∙ ap (λ v. set v.items c.args.place c.in-Some-Some.upper) c.reach.ensures.elements) c.put-2.ensures.items front lt

pub returns-clause-index : goal.returns-clause-index
returns-clause-index c is =
    exchanged_stack c.args.self.now.elements.items c.put-2.new.self.elements.items c.as_slice.result.now c.reach.new.self.marks c.put-2.new.self.marks c.exchange.new.self c.args.place c.as_slice.ensures.value
    (c.put-2.ensures.marks ∙ c.put.ensures.marks) c.reach.ensures.rows
    (set_exchanged c.args.self.now.elements.items c.put.new.self.elements.items c.put-2.new.self.elements.items c.args.place c.in-Some-Some.lower c.in-Some-Some.upper (sym c.in-Some-Some.ensures.value) (sym c.in-Some-Some.ensures') c.requires
    (c.put.ensures.items ∙ ap (λ v. set v.items c.args.place c.in-Some-Some.upper) c.reach.ensures.elements) c.put-2.ensures.items)
    (subst (λ v. IsIndex v.items c.reach.new.self.marks) c.reach.ensures.elements (c.reach.ensures.index is)) c.exchange.ensures.index c.exchange.ensures.kept
