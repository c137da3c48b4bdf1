use Rattle.std.proofs.Common.{Ok, rules, tests, ◌∙◌}
use Rattle.std.proofs.lemmas.Iterator.{items_from_collect}
use Rattle.std.proofs.lemmas.Iterator.Consumers.{YieldsList-from_filter, YieldsList-from_first}
use Rattle.dom_links.specs.Forest.{children_of}
use Rattle.dom_trees.specs.Views.{refs_to}
use Rattle.dom_trees.proofs.Elements.{filter-refs, is_element_ref}
use Rattle.dom_trees.proofs.node_ref.NodeRef.element_children.Goals as goal

pub returns : goal.returns
returns c =
    items_from_collect {E = Unit {0}} (Ok c.in_ok-collect.field-0) c.in_ok-collect.ensures.ran
    (YieldsList-from_filter _ is_element_ref (YieldsList-from_first (λ x. x) (λ it. refs_to it.tree it.ids) (refs_to c.args.self.now.tree (children_of c.args.self.now.tree.now c.args.self.now.id)) cc) c.filter-elements.ensures.closure (λ x r q k. search (rules, tests)))
    ∙ filter-refs c.args.self.now.tree (children_of c.args.self.now.tree.now c.args.self.now.id)
