use Rattle.std.proofs.Common.{ap, map, arith}
use Rattle.std.proofs.lemmas.Grind.{common_steps}
use Rattle.dom_selectors.specs.ValuesAsTrees.{read_compound, read_step}
use Rattle.dom_index.proofs.PlainLemmas.{chains_next, plain_here}
use Rattle.dom_index.proofs.chains.prepare_all.Goals as goal

pub new-requires : goal.new-requires
new-requires c = plain_here c.args.selectors.now c.loop-i.i c.index-selectors-i-in-loop-i.result c.deref.result.now c.requires (omega arith) c.deref.ensures.value

pub loop-i-preserved : goal.loop-i-preserved
loop-i-preserved c =
    chains_next c.args.selectors.now c.loop-i.i c.index-selectors-i.result c.index-selectors-i-in-loop-i.result c.loop-i.chains.items c.push_chain.new.chains.items c.in_ok-chain.chain c.deref.result.now (omega arith) c.loop-i.invariant c.in_ok-push_chain.ensures c.in_ok-chain.ensures.prepared
    (ap (λ b. read_compound b.now) c.in_ok-chain.ensures.first) (ap (λ b. map read_step b.now) c.in_ok-chain.ensures.steps) c.deref.ensures.value

pub returns : goal.returns
returns c = grind (arith, common_steps)
