use Rattle.std.proofs.Common.{◌≡◌, ◌<◌, false, ℕ, get_or}
use Rattle.page_tokens.specs.Runs.{ends_tag_name}
use Rattle.page_tokens.proofs.tokenizer.runs.tag_name_len.Given as goal

abbrev pub invariant-loop-index : goal.invariant-loop-index
invariant-loop-index l = (k : ℕ) → k < l.index → ends_tag_name (get_or l.text k 0) ≡ false
