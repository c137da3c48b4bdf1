use Rattle.std.proofs.Common.{arith, refl}
use Rattle.dom_links.proofs.walks.IndexLemmas.{steps_decide}
use Rattle.dom_links.proofs.indexes.is_reached.Goals as goal

pub returns : goal.returns
returns c = steps_decide c.args.step c.args.from c.args.to _ (λ less. omega (arith, c.if-to-from.false)) refl
