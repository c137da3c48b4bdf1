use Rattle.std.proofs.Common.{length, [], arith}
use Rattle.std.proofs.lemmas.Grind.{common_steps}
use Rattle.dom_nodes.specs.Changes.{with_attrs, with_missing}
use Rattle.dom_markup.specs.TreeUnderConstruction.{plain_element}
use Rattle.dom_markup.proofs.rows.LateChanges.{last-changed}
use Rattle.dom_markup.proofs.rows.GrowingLemmas.{all_missing, lists_commute, lists-more, part-last}
use Rattle.dom_markup.proofs.document.growing.TreeUnderConstruction.append_waiting.Goals as goal

pub invariant_of-self-2 : goal.invariant_of-self-2
invariant_of-self-2 c =
    let old = c.self-2.inside in
    grind (arith, common_steps, (lists_commute old.attrs.items old.waiting.items _ old.tree c.self-2.invariant).as_many)

pub returns-in-Ok-settle_where_full : goal.returns-in-Ok-settle_where_full
returns-in-Ok-settle_where_full c =
    let old = c.self-2.inside in
    let more = c.args.attrs.now.items in
    grind (
      arith,
      common_steps,
      all_missing more,
      lists-more old.attrs.items more old.waiting.items _ old.tree c.self-2.invariant,
      part-last old.attrs.items more (length c.as_slice-from.result.now) (length c.as_slice-to.result.now),
      last-changed c.args.parent.now (with_attrs (with_missing more)) (plain_element c.args.name []) c.args.self.now,
    )
