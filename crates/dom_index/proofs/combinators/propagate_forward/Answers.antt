use Rattle.std.proofs.Common.{◌∙◌, refl, sym, ap, length, arith}
use Rattle.std.proofs.lemmas.List.{length-set}
use Rattle.std.proofs.lemmas.Grind.{common_steps, elements}
use Rattle.dom_index.proofs.ForwardLemmas.{left_known}
use Rattle.dom_index.specs.NodeSets.{reached_from}
use Rattle.dom_index.proofs.FillLemmas.{reached_more}
use Rattle.dom_index.proofs.PlaceLemmas.{read_of_order}
use Rattle.dom_select.specs.Leftward.{left_of}
use Rattle.dom_index.proofs.combinators.propagate_forward.Goals as goal

pub is_reached-requires-clause-known : goal.is_reached-requires-clause-known
is_reached-requires-clause-known c =
    let preorder = c.args.preorder.now in
    let read = read_of_order preorder.tree.now preorder.order.items preorder.places.items c.as_slice-order.result.now preorder.ordered c.as_slice-order.ensures.value c.loop-i.i c.index-order-i.result c.index-order-i.result (omega arith) c.index-order-i.is refl in
    rw c.left_of-left.ensures (left_known preorder.tree.now preorder.order.items preorder.places.items preorder.ordered c.args.combinator c.index-order-i.result read.1)

pub loop-i-preserved : goal.loop-i-preserved
loop-i-preserved c =
    let preorder = c.args.preorder.now in
    let forest = preorder.tree.now in
    let flags = c.loop-i.flags.items in
    let i = c.loop-i.i in
    let n = c.value-n.result in
    let same = ap length c.as_slice-order.ensures.value in
    let read = read_of_order forest preorder.order.items preorder.places.items c.as_slice-order.result.now preorder.ordered c.as_slice-order.ensures.value i c.index-order-i.result n (omega arith) c.index-order-i.is c.value-n.ensures.number in
    let is = c.is_reached.ensures ∙ (ap (λ fs. reached_from forest c.args.combinator c.args.table.now fs c.left_of-left.result) c.deref.ensures.value ∙ ap (reached_from forest c.args.combinator c.args.table.now flags) (c.left_of-left.ensures ∙ ap (left_of forest c.args.combinator) (sym c.value-n.ensures.number))) in
    record {
      long = length-set flags n _ ∙ c.loop-i.invariant.long;
      answer = reached_more forest c.forest_laws.ensures.lines preorder.order.items preorder.places.items preorder.ordered c.args.combinator c.args.table.now flags i n _ (omega (arith, same, preorder.ordered.long)) read.0 c.loop-i.invariant.long c.loop-i.invariant.answer is;
    }

pub bounds-above-i : goal.bounds-above-i
bounds-above-i c = grind (arith, common_steps)

pub left_of-left-requires : goal.left_of-left-requires
left_of-left-requires c = grind (arith, common_steps)

pub index_mut-requires : goal.index_mut-requires
index_mut-requires c = grind (arith, elements)
