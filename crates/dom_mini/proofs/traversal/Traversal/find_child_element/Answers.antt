use Rattle.std.proofs.Common.{List, ℕ, false, sym, ap, ◌∙◌, subst, inr}
use Rattle.std.specs.Fn.{FnReturnsAt}
use Rattle.dom_links.specs.Forest.{forest_of}
use Rattle.dom_links.specs.Walk.{row_on}
use Rattle.dom_mini.specs.Traversals.{FindsFirst}
use Rattle.dom_select.proofs.ChildRowLemmas.{row_step, shorter}
use Rattle.dom_mini.proofs.traversal.Traversal.find_child_element.Goals as goal

pub loop-next-init : goal.loop-next-init
loop-next-init g c found h =
    let forest = forest_of c.args.nodes.now in
    let lines = c.lines_of_a_forest.ensures _ c.requires.sound.forest in
    subst (λ (ns : List ℕ). FindsFirst (FnReturnsAt g.F.Fn c.args.f) forest ns found) (ap (row_on forest false) c.first_child_id-next.ensures ∙ sym (lines.below false c.args.id)) h

pub loop-next-smaller : goal.loop-next-smaller
loop-next-smaller g c =
    let forest = forest_of c.args.nodes.now in
    let step = row_step forest c.in-Some.child c.next_sibling_id-next.result (c.lines_of_a_forest.ensures _ c.requires.sound.forest) c.next_sibling_id-next.ensures in
    shorter _ _ _ (ap (row_on forest false) c.in-Some.is ∙ step)

pub loop-next-preserved : goal.loop-next-preserved
loop-next-preserved g c found h =
    let forest = forest_of c.args.nodes.now in
    let step = row_step forest c.in-Some.child c.next_sibling_id-next.result (c.lines_of_a_forest.ensures _ c.requires.sound.forest) c.next_sibling_id-next.ensures in
    c.loop-next.invariant found (subst (λ (ns : List ℕ). FindsFirst (FnReturnsAt g.F.Fn c.args.f) forest ns found) (sym (ap (row_on forest false) c.in-Some.is ∙ step)) (inr (c.if-passes.ensures, h)))
