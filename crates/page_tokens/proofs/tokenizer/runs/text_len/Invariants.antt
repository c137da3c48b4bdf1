use Rattle.std.proofs.Common.{◌≡◌, ◌<◌, false, ℕ, get_or}
use Rattle.page_tokens.specs.Runs.{ends_text}
use Rattle.page_tokens.proofs.tokenizer.runs.text_len.Given as goal

abbrev pub invariant-loop-index : goal.invariant-loop-index
invariant-loop-index l = (k : ℕ) → k < l.index → ends_text (get_or l.text k 0) ≡ false
