use Rattle.std.proofs.Common.{◌≡◌, ◌<◌, false, ℕ, get_or}
use Rattle.page_tokens.specs.declared.tokenizer.state.Quote.TheVariants.{Double}
use Rattle.page_tokens.specs.RunEnds.{ends_value}
use Rattle.page_tokens.proofs.tokenizer.runs.value_len.Given as goal

abbrev pub invariant-loop-index : goal.invariant-loop-index
invariant-loop-index l = (k : ℕ) → k < l.index → ends_value Double (get_or l.text k 0) ≡ false
