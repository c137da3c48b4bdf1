use Rattle.std.proofs.Common.{◌∙◌, sym, ap, false, ℕ, Bool}
use Rattle.std.specs.Prelude.{find}
use Rattle.dom_links.specs.Forest.{forest_of}
use Rattle.dom_links.specs.Walk.{row_on}
use Rattle.dom_trees.specs.Views.{has_local_name}
use Rattle.dom_select.proofs.ChildRowLemmas.{found_later, row_step, shorter}
use Rattle.dom_mini.proofs.traversal.Traversal.find_child_element_by_name.Goals as goal

pub loop-next-init : goal.loop-next-init
loop-next-init c =
    let forest = forest_of c.args.nodes.now in
    let named : ℕ → Bool = λ child. has_local_name forest child c.args.name.now in
    let lines = c.lines_of_a_forest.ensures _ c.requires.forest in
    ap (find named) (ap (row_on forest false) c.first_child_id-next.ensures ∙ sym (lines.below false c.args.id))

pub loop-next-smaller : goal.loop-next-smaller
loop-next-smaller c =
    let forest = forest_of c.args.nodes.now in
    let step = row_step forest c.in-Some.child c.next_sibling_id-next.result (c.lines_of_a_forest.ensures _ c.requires.forest) c.next_sibling_id-next.ensures in
    shorter _ _ _ (ap (row_on forest false) c.in-Some.is ∙ step)

pub loop-next-preserved : goal.loop-next-preserved
loop-next-preserved c =
    let forest = forest_of c.args.nodes.now in
    let named : ℕ → Bool = λ child. has_local_name forest child c.args.name.now in
    let step = row_step forest c.in-Some.child c.next_sibling_id-next.result (c.lines_of_a_forest.ensures _ c.requires.forest) c.next_sibling_id-next.ensures in
    sym (found_later named c.in-Some.child _ c.if-is_named.ensures) ∙ (ap (find named) (sym (ap (row_on forest false) c.in-Some.is ∙ step)) ∙ c.loop-next.invariant)
