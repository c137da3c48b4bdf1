use Rattle.std.proofs.Common.{◌≡◌, ◌<◌, true, ℕ, get_or}
use Rattle.page_tokens.specs.Runs.{is_space_of}
use Rattle.page_tokens.proofs.tokenizer.plain.spaces_len.Given as goal

abbrev pub invariant-loop-index : goal.invariant-loop-index
invariant-loop-index l = (k : ℕ) → k < l.index → is_space_of (get_or l.text k 0) ≡ true
