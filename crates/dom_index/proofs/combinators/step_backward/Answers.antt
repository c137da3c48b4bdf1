use Rattle.std.proofs.Common.{◌≡◌, ◌+◌, ◌-◌, ◌∙◌, length, refl, sym, ap, subst, arith}
use Rattle.std.proofs.lemmas.Grind.{common_steps, elements}
use Rattle.dom_selectors.specs.Spelling.{Decides}
use Rattle.dom_index.specs.Orders.{number_at}
use Rattle.dom_index.specs.NodeSets.{propagates, with_node, in_set}
use Rattle.dom_index.proofs.BackwardLemmas.{DecidedBy, PassesItOn, more_decided, none_decided, passes_here, decided_all, decided_too_long}
use Rattle.dom_index.proofs.PlaceLemmas.{read_of_order}
use Rattle.dom_index.proofs.combinators.step_backward.Goals as goal
use Rattle.dom_index.proofs.combinators.step_backward.Goals.{then-propagates, else-propagates}

pub loop-i-preserved : goal.loop-i-preserved
loop-i-preserved c =
    let preorder = c.args.preorder.now in
    let forest = preorder.tree.now in
    let order = preorder.order.items in
    let places = preorder.places.items in
    let good = preorder.ordered in
    let row = c.as_slice-order.result.now in
    let lines = c.forest_laws.ensures.lines in
    let k = c.args.combinator in
    let table = c.args.table.now in
    let flags = c.loop-i.flags.items in
    let i = c.loop-i.i in
    let n = c.index-order-place.result in
    let read = read_of_order forest order places row good c.as_slice-order.ensures.value (length row - 1 - i) n n (omega arith) c.index-order-place.is refl in
    let known = read.1 in
    let same = ap length c.as_slice-order.ensures.value in
    let place = read.2 in
    let here : number_at places n + i + 1 ≡ length forest.content = omega (arith, same, good.long, place) in
    let answer = c.loop-i.invariant.answer in
    let passes = passes_here forest lines k table order places good flags i n known here answer c.propagates.result (c.propagates.ensures ∙ ap (λ fs. propagates forest k table fs n) c.deref.ensures.value) in
    elim c.if-propagates.branch [
      | then-propagates w ↦ (let new : c.if-propagates.flags.items ≡ with_node flags w.left_of.result = ap (λ v. v.items) w.flags-is ∙ w.insert_node.ensures in
          let so : PassesItOn forest k table n = rw w.if-propagates.true at passes in
          record {
            long = ap length new ∙ (decided_too_long flags w.left_of.result ∙ c.loop-i.invariant.long);
            answer = λ m m_known. subst (λ fs. Decides (in_set fs m) (DecidedBy forest k table places (i + 1) m)) (sym new) (more_decided forest lines k table order places good flags i n known here answer so c.loop-i.invariant.long w.left_of.result (sym w.left_of.ensures) m m_known);
          })
      | else-propagates w ↦ (let same : c.if-propagates.flags.items ≡ flags = ap (λ v. v.items) w.flags-is in
          let none : PassesItOn forest k table n → ⊥ = rw w.if-propagates.false at passes in
          record {
            long = ap length same ∙ c.loop-i.invariant.long;
            answer = λ m m_known. subst (λ fs. Decides (in_set fs m) (DecidedBy forest k table places (i + 1) m)) (sym same) (none_decided forest lines k table order places good flags i n known here answer none m m_known);
          })
    ]

pub returns : goal.returns
returns c =
    let preorder = c.args.preorder.now in
    let forest = preorder.tree.now in
    record {
      long = c.loop-i.invariant.long;
      each = decided_all forest c.forest_laws.ensures.lines c.args.combinator c.args.table.now preorder.order.items preorder.places.items preorder.ordered c.loop-i.flags.items (λ m known. subst (λ j. Decides (in_set c.loop-i.flags.items m) (DecidedBy forest c.args.combinator c.args.table.now preorder.places.items j m)) (omega (arith, preorder.ordered.long)) (c.loop-i.invariant.answer m known));
    }

pub loop-i-init : goal.loop-i-init
loop-i-init c = grind (arith, common_steps)

pub propagates-requires-clause-known : goal.propagates-requires-clause-known
propagates-requires-clause-known c = grind (arith, elements)

pub bounds-above-place : goal.bounds-above-place
bounds-above-place c = grind (arith, common_steps)

pub left_of-requires : goal.left_of-requires
left_of-requires c = grind (arith, common_steps)
