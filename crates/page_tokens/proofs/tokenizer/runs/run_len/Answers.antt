use Rattle.std.proofs.Common.{rules, arith}
use Rattle.page_tokens.specs.RunEnds.{ends_run}
use Rattle.page_tokens.proofs.RunLengths.{run_len_is, run_of_text}
use Rattle.page_tokens.proofs.tokenizer.runs.run_len.Goals as goal

pub returns-in-Text-clause-text : goal.returns-in-Text-clause-text
returns-in-Text-clause-text c = run_of_text c.args.run c.args.text.now _ c.text_len.ensures.len

pub returns-then-ends_at-clause-len : goal.returns-then-ends_at-clause-len
returns-then-ends_at-clause-len c = run_len_is (ends_run c.args.run) c.args.text.now c.loop-index.index (search rules) c.loop-index.invariant (λ _. search rules)

pub returns-clause-len : goal.returns-clause-len
returns-clause-len c = run_len_is (ends_run c.args.run) c.args.text.now _ (search rules) (λ k h. c.loop-index.invariant k (search rules)) (λ h. absurd (omega (arith, h)))
