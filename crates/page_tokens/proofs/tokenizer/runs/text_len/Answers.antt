use Rattle.std.proofs.Common.{rules, arith}
use Rattle.page_tokens.specs.Runs.{ends_text}
use Rattle.page_tokens.proofs.RunLengths.{run_len_is}
use Rattle.page_tokens.proofs.tokenizer.runs.text_len.Goals as goal

pub returns-then-ends_text-clause-len : goal.returns-then-ends_text-clause-len
returns-then-ends_text-clause-len c = run_len_is ends_text c.args.text.now c.loop-index.index (search rules) c.loop-index.invariant (λ _. search rules)

pub returns-clause-len : goal.returns-clause-len
returns-clause-len c = run_len_is ends_text c.args.text.now _ (search rules) (λ k h. c.loop-index.invariant k (search rules)) (λ h. absurd (omega (arith, h)))
