use Rattle.std.proofs.Common.{ap, arith, min, sym, ◌∙◌}
use Rattle.page_trees.proofs.ThisElement.{found_there, goes_on, not_missing, starts_at}
use Rattle.page_trees.proofs.stack.OpenElements.marked_place.Goals as goal

pub loop-place-init : goal.loop-place-init
loop-place-init c known is =
    starts_at c.args.name c.args.id c.args.self.now.elements.items c.args.self.now.marks c.last-top.result c.key_for.result known c.key_for.ensures c.last-top.ensures is

pub returns-in_default-get : goal.returns-in_default-get
returns-in_default-get c known is = absurd (not_missing c.args.name c.args.id c.args.self.now.elements.items c.args.self.now.marks c.loop-place.top c.in-Some.place c.get.result
    (c.loop-place.invariant known is) (omega arith) c.get.ensures.value c.in_default-get.is)

pub returns-then-eq : goal.returns-then-eq
returns-then-eq c known is = found_there c.args.name c.args.id c.args.self.now.elements.items c.args.self.now.marks c.loop-place.top c.in-Some.place c.in-Some-get.element c.eq.result
    known (c.loop-place.invariant known is) (omega arith) (sym c.get.ensures.value ∙ c.in-Some-get.is) c.eq.ensures c.if-eq.true

pub loop-place-preserved : goal.loop-place-preserved
loop-place-preserved c known is = goes_on c.args.name c.args.id c.args.self.now.elements.items c.args.self.now.marks c.loop-place.top c.in-Some.place c.min-top.result c.in-Some-get.element c.eq.result
    known is (c.loop-place.invariant known is) (omega arith) (sym c.get.ensures.value ∙ c.in-Some-get.is) c.eq.ensures c.if-eq.false
    (c.min-top.ensures ∙ ap (λ n. min n c.in-Some.place) c.same.ensures)
