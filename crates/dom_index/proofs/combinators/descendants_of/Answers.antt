use Rattle.std.proofs.Common.{◌+◌, ◌∙◌, subst, arith}
use Rattle.std.proofs.lemmas.List.{length-set}
use Rattle.std.proofs.lemmas.Grind.{elements}
use Rattle.dom_index.specs.Orders.{IsEnd}
use Rattle.dom_index.proofs.PlaceLemmas.{read_of_order}
use Rattle.dom_index.proofs.SpanLemmas.{decided_next}
use Rattle.dom_index.proofs.combinators.descendants_of.Goals as goal

pub loop-i-preserved : goal.loop-i-preserved
loop-i-preserved c =
    let preorder = c.args.preorder.now in
    let forest = preorder.tree.now in
    let n = c.value-n.result in
    let read = read_of_order forest preorder.order.items preorder.places.items c.as_slice-order.result.now preorder.ordered c.as_slice-order.ensures.value c.loop-i.i c.index-order-i.result n (omega arith) c.index-order-i.is c.value-n.ensures.number in
    record {
      long = length-set c.loop-i.flags.items n _ ∙ c.loop-i.invariant.long;
      ends = subst (λ j. IsEnd forest preorder.places.items preorder.subtree_ends.items c.args.table.now (j + 1) c.extend_end-end.result) read.2 c.extend_end-end.ensures;
      answer = decided_next forest c.forest_laws.ensures.lines preorder.order.items preorder.places.items preorder.subtree_ends.items preorder.ordered preorder.spans c.args.table.now c.loop-i.flags.items n c.loop-i.i c.loop-i.end
          c.requires c.loop-i.invariant.long read.1 read.2 c.loop-i.invariant.ends c.loop-i.invariant.answer;
    }

pub index_mut-requires : goal.index_mut-requires
index_mut-requires c = grind (arith, elements)

pub extend_end-end-requires-clause-known : goal.extend_end-end-requires-clause-known
extend_end-end-requires-clause-known c = grind (arith, elements)

pub extend_end-end-requires-clause-ends : goal.extend_end-end-requires-clause-ends
extend_end-end-requires-clause-ends c = grind (arith, elements)
