use Rattle.std.proofs.Common.{arith}
use Rattle.std.proofs.lemmas.Grind.{common_steps}
use Rattle.dom_nodes.specs.Changes.{with_missing}
use Rattle.dom_links.proofs.forest.Changing.{length-changed}
use Rattle.dom_markup.proofs.rows.LateLemmas.{attrs-texts}
use Rattle.dom_markup.proofs.document.late_texts.DeferredTexts.add_attrs.Goals as goal

pub invariant_of-self : goal.invariant_of-self
invariant_of-self c = grind (arith, common_steps, length-changed)

pub returns : goal.returns
returns c = grind (arith, common_steps, attrs-texts c.args.number.now (with_missing c.args.attrs) c.self.inside.late.items c.self.inside.tree)
