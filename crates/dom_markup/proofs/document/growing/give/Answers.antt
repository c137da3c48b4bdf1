use Rattle.std.proofs.Common.{◌∙◌, ap}
use Rattle.dom_markup.specs.TreeUnderConstruction.{part_of}
use Rattle.dom_markup.proofs.rows.GrowingLemmas.{given_one}
use Rattle.dom_markup.proofs.document.growing.give.Goals as goal

pub loop-one-preserved : goal.loop-one-preserved
loop-one-preserved c =
    let one = c.one-item.result in
    let part = c.in_ok-part.ensures ∙ ap (λ attrs. part_of attrs one) c.loop-one.invariant.list in
    record {
      given = given_one c.args.attrs.items c.in_ok-part.part c.args.waiting.now c.loop-one.one-index one c.args.tree.now c.loop-one.tree c.add_attrs.new.self c.loop-one-test.true c.one-item.is c.loop-one.invariant.given part c.in_ok-add_attrs.ensures;
      list = c.loop-one.invariant.list;
    }
