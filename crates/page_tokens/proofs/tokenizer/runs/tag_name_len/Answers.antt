use Rattle.std.proofs.Common.{rules, arith}
use Rattle.page_tokens.proofs.TagLemmas.{tag_name_len_is}
use Rattle.page_tokens.proofs.tokenizer.runs.tag_name_len.Goals as goal

pub returns-then-ends_tag_name-clause-len : goal.returns-then-ends_tag_name-clause-len
returns-then-ends_tag_name-clause-len c =
    tag_name_len_is c.args.text.now c.loop-index.index (search rules) c.loop-index.invariant (λ _. search rules)

pub returns-clause-len : goal.returns-clause-len
returns-clause-len c =
    tag_name_len_is c.args.text.now _ (search rules) (λ k h. c.loop-index.invariant k (search rules)) (λ h. absurd (omega (arith, h)))
