use Rattle.std.proofs.Common.{ap, arith, sym, ◌∙◌}
use Rattle.page_trees.specs.Reopening.{index_at, is_this}
use Rattle.page_trees.proofs.PoppingLemmas.{front_shorter}
use Rattle.page_trees.proofs.ScopeLemmas.{goes_below}
use Rattle.page_trees.proofs.StackSearches.{below_still}
use Rattle.page_trees.proofs.ThisElement.{found_last, known_this, marked_decide, unknown_name}
use Rattle.page_trees.proofs.stack.OpenElements.place_among.Goals as goal

pub returns-then-eq : goal.returns-then-eq
returns-then-eq c is = unknown_name c.args.name c.args.id c.args.self.now.elements.items (sym c.if-eq.ensures)

pub returns-then-is_this : goal.returns-then-is_this
returns-then-is_this c is =
    found_last (is_this c.args.name c.args.id) c.args.self.now.elements.items c.loop-rest.rest.now c.in-Some.below.now c.in-Some.element.now c.in-Some.ensures.cases.0
    (sym (known_this c.args.name c.args.id c.in-Some.element.now c.is_this.result (sym c.if-eq.ensures) c.is_this.ensures) ∙ c.if-is_this.true) c.loop-rest.invariant.value

pub loop-rest-preserved : goal.loop-rest-preserved
loop-rest-preserved c = record {
  front = front_shorter c.args.self.now.elements.items c.loop-rest.rest.now c.in-Some.below.now c.in-Some.element.now c.in-Some.ensures.cases.0 c.loop-rest.invariant.front;
  enough = λ _. below_still c.loop-rest.rest.now c.in-Some.below.now c.in-Some.element.now _ c.in-Some.ensures.cases.0 (omega arith);
  value = goes_below (is_this c.args.name c.args.id) c.loop-rest.rest.now c.in-Some.below.now c.in-Some.element.now c.in-Some.ensures.cases.0
      (sym (known_this c.args.name c.args.id c.in-Some.element.now c.is_this.result (sym c.if-eq.ensures) c.is_this.ensures) ∙ c.if-is_this.false) ∙ c.loop-rest.invariant.value;
}

pub returns : goal.returns
returns c is = c.marked_place.ensures (sym c.if-eq.ensures) is
    ∙ ap index_at (marked_decide (is_this c.args.name c.args.id) c.args.self.now.elements.items c.loop-rest.rest.now c.args.self.now.marks c.loop-rest.invariant.front c.loop-rest.invariant.enough (omega arith) c.loop-rest.invariant.value is)
