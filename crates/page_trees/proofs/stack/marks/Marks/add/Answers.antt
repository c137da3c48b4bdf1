use Rattle.std.proofs.Common.{◌≡◌, ◌+◌, ◌++◌, ◌∷◌, [], ap, subst, arith, length, take}
use Rattle.page_trees.specs.Links.{AreLinks}
use Rattle.page_trees.specs.declared.stack.marks.Marks.{Marks}
use Rattle.page_trees.proofs.IndexLemmas.{added_index, taken_long}
use Rattle.page_trees.proofs.stack.marks.Marks.add.Goals as goal

pub returns-then-add : goal.returns-then-add
returns-then-add c elements at_end is =
    let new : Marks = record { rows = c.push_reserved.new.self; links = c.add.new.self } in
    let top : length c.as_slice-count.result.now + 1 ≡ length (take (length c.args.self.now.rows.items) elements) + 1 = omega (arith, ap length c.as_slice-count.ensures.value, taken_long elements c.args.self.now is) in
    added_index elements c.args.self.now new c.args.element.now c.found-mark.result c.push_reserved.ensures.items at_end
    (c.found-mark.ensures (take (length c.args.self.now.rows.items) elements) (c.last_row.ensures elements is) top)
    (λ keys old. subst (λ k. AreLinks (keys ++ k ∷ []) c.add.new.self.same.items c.add.new.self.next.items c.add.new.self.tops.items) c.key_of.ensures (c.add.ensures.added keys c.if-add.true old)) is
