use Rattle.std.proofs.Common.{◌∙◌, ap, sym, set, slice_get, refl, arith}
use Rattle.std.proofs.lemmas.Grind.{common_steps}
use Rattle.dom_links.specs.Forest.{parent}
use Rattle.dom_index.proofs.TraversalLemmas.{traversed_more}
use Rattle.dom_index.proofs.preorder.Traversal.visit.Goals as goal

pub returns-clause-traversed : goal.returns-clause-traversed
returns-clause-traversed c =
    let old = c.args.self.now in
    let forest = c.args.tree.now in
    let up = c.node_at-node.ensures.parent_is ∙ ap (λ f. parent f c.args.id) c.nodes.ensures.value in
    let found = ap (λ f. slice_get f.content c.args.id) (sym c.nodes.ensures.value) ∙ c.node_at-node.ensures.content_is in
    traversed_more forest c.order_laws.ensures.once c.order_laws.ensures.long old _ c.args.id c.requires.known c.requires.room c.requires.next c.requires.traversed
    c.type_byte.result c.node_at-node.result.now.content found c.type_byte.ensures refl refl (ap (set old.above.items old.visited) up) (ap (λ k. set old.places.items k old.visited) c.value-n.ensures.number) (ap (λ k. set old.type_bytes.items k c.type_byte.result) c.value-n.ensures.number)

pub overflow_cast-place : goal.overflow_cast-place
overflow_cast-place c = grind (arith, common_steps)
