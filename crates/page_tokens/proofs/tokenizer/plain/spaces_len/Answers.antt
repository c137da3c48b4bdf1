use Rattle.std.proofs.Common.{rules, arith}
use Rattle.page_tokens.proofs.PlainSpaces.{spaces_boundary, spaces_len_is}
use Rattle.page_tokens.proofs.tokenizer.plain.spaces_len.Goals as goal

pub returns-then-not-is_space_byte-clause-boundary : goal.returns-then-not-is_space_byte-clause-boundary
returns-then-not-is_space_byte-clause-boundary c = spaces_boundary c.args.text.now c.loop-index.index c.utf8.text (search rules) c.loop-index.invariant

pub returns-then-not-is_space_byte-clause-len : goal.returns-then-not-is_space_byte-clause-len
returns-then-not-is_space_byte-clause-len c = spaces_len_is c.args.text.now c.loop-index.index (search rules) c.loop-index.invariant (λ _. search rules)

pub returns-clause-len : goal.returns-clause-len
returns-clause-len c = spaces_len_is c.args.text.now _ (search rules) (λ k h. c.loop-index.invariant k (search rules)) (λ h. absurd (omega (arith, h)))
