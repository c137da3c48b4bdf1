use Rattle.std.proofs.Common.{◌∙◌, ap, arith}
use Rattle.std.specs.Prelude.{◌&&◌}
use Rattle.std.proofs.lemmas.Grind.{common_steps}
use Rattle.dom_links.specs.ListMoves.{element_at}
use Rattle.dom_index.specs.NodeSets.{in_set}
use Rattle.dom_index.proofs.ListLemmas.{row_cut}
use Rattle.dom_index.proofs.CollectLemmas.{next_inside, collect_there, pass_it}
use Rattle.dom_index.proofs.collect.collect_below.Goals as goal

pub is_element_in-requires-clause-known : goal.is_element_in-requires-clause-known
is_element_in-requires-clause-known c =
    let step = row_cut c.loop-i.i c.below-row.result.now c.index-row-i.result (omega arith) c.index-row-i.is in
    next_inside c.args.preorder.now.tree.now _ _ _ _ c.index-row-i.result _ _ c.loop-i.invariant step

pub loop-i-preserved : goal.loop-i-preserved
loop-i-preserved c =
    let forest = c.args.preorder.now.tree.now in
    let table = c.loop-i.table.items in
    let id = c.index-row-i.result in
    let step = row_cut c.loop-i.i c.below-row.result.now id (omega arith) c.index-row-i.is in
    let is = c.is_element_in.ensures ∙ ap (λ t. in_set t id && element_at forest id) c.deref.ensures.value in
    collect_there forest c.loop-i.found.items table _ _ id _ _ c.loop-i.invariant step c.is_element_in.result _ c.value.result is c.if-not-is_element_in.false c.in_ok-push.ensures.items c.value.ensures.number

pub loop-i-preserved-then-not-is_element_in : goal.loop-i-preserved-then-not-is_element_in
loop-i-preserved-then-not-is_element_in c =
    let forest = c.args.preorder.now.tree.now in
    let table = c.loop-i.table.items in
    let id = c.index-row-i.result in
    let step = row_cut c.loop-i.i c.below-row.result.now id (omega arith) c.index-row-i.is in
    let is = c.is_element_in.ensures ∙ ap (λ t. in_set t id && element_at forest id) c.deref.ensures.value in
    pass_it forest c.loop-i.found.items table _ _ id _ _ c.loop-i.invariant step c.is_element_in.result is c.if-not-is_element_in.true

pub index_mut-requires : goal.index_mut-requires
index_mut-requires c = grind (arith, common_steps)

pub returns-clause-added : goal.returns-clause-added
returns-clause-added c = grind (arith, common_steps)

pub returns-clause-left : goal.returns-clause-left
returns-clause-left c = grind (arith, common_steps)
