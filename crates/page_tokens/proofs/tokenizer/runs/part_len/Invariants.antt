use Rattle.page_tokens.proofs.tokenizer.runs.part_len.Given as goal

-- nothing is kept
abbrev pub invariant-loop-index : goal.invariant-loop-index
invariant-loop-index l = Unit {0}
