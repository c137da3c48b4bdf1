use Rattle.std.proofs.Common.{rules, arith}
use Rattle.page_tokens.specs.RunEnds.{ends_attr_name}
use Rattle.page_tokens.proofs.RunLengths.{run_len_is}
use Rattle.page_tokens.proofs.tokenizer.runs.attr_name_len.Goals as goal

pub returns-then-ends_attr_name-clause-len : goal.returns-then-ends_attr_name-clause-len
returns-then-ends_attr_name-clause-len c = run_len_is ends_attr_name c.args.text.now c.loop-index.index (search rules) c.loop-index.invariant (λ _. search rules)

pub returns-clause-len : goal.returns-clause-len
returns-clause-len c = run_len_is ends_attr_name c.args.text.now _ (search rules) (λ k h. c.loop-index.invariant k (search rules)) (λ h. absurd (omega (arith, h)))
