use Rattle.std.proofs.Common.{ℕ, Bool, get_or}
use Rattle.std.specs.Prelude.{◌==◌, ◌||◌}
use Rattle.page_tokens.specs.Lanes.{is_one_of}
use Rattle.page_tokens.proofs.tokenizer.lanes.block_len.Goals as goal

pub returns-clause-none : goal.returns-clause-none
returns-clause-none c =
    let byte : ℕ → ℕ = λ k. get_or c.args.block.now k 0 in
    let is : ℕ → ℕ → Bool = λ i k. byte k == get_or c.args.ends i 0 in
    c.unmarked_len.ensures.unmarked (λ k. is_one_of c.args.ends (byte k))
    (c.either.ensures (λ k. is 0 k || is 1 k || is 2 k) (is 3)
    (c.either-marks-2.ensures (λ k. is 0 k || is 1 k) (is 2) (c.either-marks.ensures (is 0) (is 1) c.equal_to.ensures c.equal_to-2.ensures) c.equal_to-3.ensures) c.equal_to-4.ensures)
