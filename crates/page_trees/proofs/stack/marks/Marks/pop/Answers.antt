use Rattle.std.proofs.Common.{◌≡◌, ◌++◌, ◌∷◌, [], ap, arith, length, refl, rules, subst, sym, ◌∙◌}
use Rattle.std.specs.Prelude.{IfNone, Some, slice_get}
use Rattle.std.proofs.lemmas.Option.{slice_get_read}
use Rattle.page_trees.specs.Links.{AreLinks}
use Rattle.page_trees.specs.declared.stack.marks.Marks.{Marks}
use Rattle.page_trees.proofs.IndexLemmas.{popped_off}
use Rattle.page_trees.proofs.stack.marks.Marks.pop.Goals as goal

pub returns-in-Some-clause-index : goal.returns-in-Some-clause-index
returns-in-Some-clause-index c is =
    let new : Marks = record { rows = c.pop.new.self; links = c.pop-in-Some.new.self } in
    let none : IfNone c.pop.result (c.args.self.now.rows.items ≡ []) = search rules in
    let place : length c.pop.new.self.items ≡ length c.as_slice.result.now = omega (arith, ap length c.as_slice.ensures.value) in
    let at_end : slice_get c.args.elements.now (length c.as_slice.result.now) ≡ Some c.in-Some.element.now =
    slice_get_read c.args.elements.now (length c.args.elements.now) (length c.as_slice.result.now) c.in-Some.element.now refl c.in-Some.ensures.lookup.3.0 c.in-Some.ensures.lookup.1 in
    popped_off c.args.elements.now c.args.self.now new c.in-Some.element.now c.pop.result c.pop.ensures.items none c.requires (ap (slice_get c.args.elements.now) place ∙ at_end)
    (λ keys old. c.pop-in-Some.ensures keys
    (subst (λ k. AreLinks (keys ++ k ∷ []) c.args.self.now.links.same.items c.args.self.now.links.next.items c.args.self.now.links.tops.items) (sym c.key_of.ensures) old)) is
