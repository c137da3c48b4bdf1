use Rattle.std.proofs.Common.{arith}
use Rattle.std.proofs.lemmas.Grind.{common_steps}
use Rattle.dom_trees.specs.NewNodes.{text_node}
use Rattle.dom_markup.specs.DeferredTexts.{with_contents}
use Rattle.dom_markup.proofs.rows.LateChanges.{last-changed}
use Rattle.dom_markup.proofs.rows.LateLemmas.{texts_commute}
use Rattle.dom_markup.proofs.document.late_texts.DeferredTexts.append_late.Goals as goal

pub invariant_of-self-2 : goal.invariant_of-self-2
invariant_of-self-2 c =
    let old = c.self-2.inside in
    grind (arith, common_steps, (texts_commute old.late.items old.tree c.self-2.invariant).as_many)

pub returns-in-Ok-settle_where_full : goal.returns-in-Ok-settle_where_full
returns-in-Ok-settle_where_full c = grind (arith, common_steps, last-changed c.args.parent.now (with_contents c.args.text.now) (text_node c.from-contents.result) c.args.self.now)
