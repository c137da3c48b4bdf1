use Rattle.std.proofs.Common.{sym, ◌∙◌, subst}
use Rattle.dom_links.specs.Indexes.{AreIndexes}
use Rattle.dom_links.proofs.walks.KnownLemmas.{noted}
use Rattle.dom_select.specs.TypeCounts.{type_kind}
use Rattle.dom_select.proofs.types.TypeIndexLemmas.{AreCounted, element_passed, next_index, other_passed}
use Rattle.dom_select.proofs.matcher.type_indexes.note_line.Goals as goal
use Rattle.dom_select.proofs.matcher.type_indexes.note_line.Goals.{in-Some-as_element+in-Some-count_one, in_default-as_element}

counted : (c : goal.After-onward-next) → AreCounted c.args.tree.now c.args.from_first c.match-as_element.counts c.onward-next.result
counted c =
    let forest = c.args.tree.now in
    let before = c.args.from_first in
    let here = c.in-Some-tree_node.ensures.content_is in
    let so_far = subst (AreCounted forest before c.loop-next.counts) c.in-Some.is c.loop-next.invariant.counted in
    elim c.match-as_element.branch [
      | in-Some-as_element+in-Some-count_one w ↦ subst (λ counts. AreCounted forest before counts c.onward-next.result) (sym w.counts-is)
          (element_passed forest before c.in-Some.at _ here c.loop-next.counts w.count_one.new.counts w.of.result w.in-Some-as_element.element.now w.in-Some-count_one.index c.onward-next.result
          (sym w.in-Some-as_element.ensures) (w.of.ensures ∙ w.name.ensures) w.in-Some-count_one.ensures so_far c.onward-next.ensures.passed)
      | in_default-as_element w ↦ subst (λ counts. AreCounted forest before counts c.onward-next.result) (sym w.counts-is)
          (other_passed forest before c.in-Some.at _ here c.loop-next.counts c.onward-next.result (sym w.in_default-as_element.ensures) so_far c.onward-next.ensures.passed)
    ]

right : (c : goal.After-onward-next) → AreIndexes (type_kind c.args.from_first) c.args.tree.now c.match-as_element.known
right c =
    let forest = c.args.tree.now in
    let kind = type_kind c.args.from_first in
    let so_far = subst (AreCounted forest c.args.from_first c.loop-next.counts) c.in-Some.is c.loop-next.invariant.counted in
    elim c.match-as_element.branch [
      | in-Some-as_element+in-Some-count_one w ↦ subst (AreIndexes kind forest) (sym (w.known-is ∙ w.note.ensures))
          (noted forest kind c.loop-next.known c.in-Some.at w.in-Some-count_one.index c.loop-next.invariant.right
          (next_index forest c.in-Some.at _ w.in-Some-as_element.element.now c.in-Some-tree_node.ensures.content_is (sym w.in-Some-as_element.ensures) c.args.from_first c.loop-next.counts w.count_one.new.counts w.of.result w.in-Some-count_one.index (w.of.ensures ∙ w.name.ensures) w.in-Some-count_one.ensures so_far))
      | in_default-as_element w ↦ subst (AreIndexes kind forest) (sym w.known-is) c.loop-next.invariant.right
    ]

pub loop-next-preserved : goal.loop-next-preserved
loop-next-preserved c = record { counted = counted c; right = right c }
