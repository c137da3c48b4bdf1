use Rattle.std.proofs.Common.{◌≡◌, ◌<◌, ◌≤◌, ◌*◌, false, ℕ, get_or}
use Rattle.page_tokens.specs.Lanes.{is_one_of}
use Rattle.page_tokens.proofs.tokenizer.lanes.skip.Given as goal

abbrev pub invariant-loop-index : goal.invariant-loop-index
invariant-loop-index l = (l.count ≤ 16 * l.index) × ((k : ℕ) → k < 16 * l.index → is_one_of l.ends (get_or l.bytes k 0) ≡ false)
