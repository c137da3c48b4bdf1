use Rattle.std.proofs.Common.{arith, map, subst}
use Rattle.dom_selectors.specs.declared.syntax.Combinator.{Combinator}
use Rattle.dom_selectors.specs.ValuesAsTrees.{read_step}
use Rattle.dom_index.specs.FlagRows.{AreAlong}
use Rattle.dom_index.proofs.PlainLemmas.{all_along, along_more}
use Rattle.dom_index.proofs.strategies.is_plain.Goals as goal

pub loop-i-preserved : goal.loop-i-preserved
loop-i-preserved c = along_more c.way_of-way.result c.args.steps.now c.loop-i.i c.index-steps-i.result c.loop-i.invariant (c.is_along.ensures c.if-not-is_along.false)

pub returns : goal.returns
returns c = λ t. subst (λ (k : Combinator). AreAlong k (map read_step c.args.steps.now)) c.way_of-way.ensures (all_along c.way_of-way.result c.args.steps.now (λ j s below. c.loop-i.invariant j s (omega (arith, below))))
