use Rattle.std.proofs.Common.{rules}
use Rattle.std.proofs.lemmas.Str.{IsCharBoundary-after_ascii}
use Rattle.page_tokens.proofs.tokenizer.runs.part_len.Goals as goal

pub returns-then-ends_part-clause-boundary : goal.returns-then-ends_part-clause-boundary
returns-then-ends_part-clause-boundary c =
    IsCharBoundary-after_ascii c.args.text.now c.loop-index.index c.utf8.text (search rules) (search rules)
