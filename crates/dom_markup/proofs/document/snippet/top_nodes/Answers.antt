use Rattle.std.proofs.Common.{arith}
use Rattle.std.proofs.lemmas.Grind.{common_steps}
use Rattle.dom_markup.proofs.document.snippet.top_nodes.Goals as goal

pub loop-id-init-derived : goal.loop-id-init-derived
loop-id-init-derived c = grind (arith, common_steps)

pub loop-id-init : goal.loop-id-init
loop-id-init c = grind (arith, common_steps)

pub next-requires : goal.next-requires
next-requires c = grind (arith, common_steps)

pub loop-id-preserved-in-Continue-1 : goal.loop-id-preserved-in-Continue-1
loop-id-preserved-in-Continue-1 c = grind (arith, common_steps)

pub returns-in_err-push : goal.returns-in_err-push
returns-in_err-push c = grind (arith, common_steps)

pub loop-id-preserved : goal.loop-id-preserved
loop-id-preserved c = grind (arith, common_steps)

pub returns : goal.returns
returns c = grind (arith, common_steps)
