use Rattle.std.proofs.Common.{◌∙◌, sym, arith, drop}
use Rattle.dom_article.proofs.HiddenLemmas.{end_is, part_ends, part_here, part_on}
use Rattle.dom_article.proofs.hidden.mentions.Goals as goal

pub returns-then-is_mentioned_first : goal.returns-then-is_mentioned_first
returns-then-is_mentioned_first c = sym (part_here c.args.wanted.now (drop c.loop-at.at c.args.text.now) (sym (end_is c.args.wanted.now c.args.text.now c.loop-at.at c.is_mentioned_first.result c.is_mentioned_first.ensures) ∙ c.if-is_mentioned_first.true)) ∙ c.loop-at.invariant

pub loop-at-preserved : goal.loop-at-preserved
loop-at-preserved c = sym (part_on c.args.wanted.now c.args.text.now c.loop-at.at (omega arith) (sym (end_is c.args.wanted.now c.args.text.now c.loop-at.at c.is_mentioned_first.result c.is_mentioned_first.ensures) ∙ c.if-is_mentioned_first.false)) ∙ c.loop-at.invariant

pub returns : goal.returns
returns c = c.is_empty.ensures ∙ (sym (part_ends c.args.wanted.now c.args.text.now c.loop-at.at (omega arith)) ∙ c.loop-at.invariant)
