use Rattle.std.proofs.Common.{arith, ℕ, ◌+◌, ◌-◌, ◌≡◌}
use Rattle.std.specs.Str.{IsAscii}
use Rattle.std.proofs.Common.{take, drop, subst}
use Rattle.decoded_text.proofs.Runs.{ascii_more}
use Rattle.decoded_text.proofs.ascii.ascii_len.Goals as goal

pub loop-end-preserved : goal.loop-end-preserved
loop-end-preserved c =
    let sixteen : c.loop-end.end + 16 - c.loop-end.end ≡ 16 = omega arith in (
      omega arith,
      ascii_more c.loop-end.end 16 c.args.bytes.now c.loop-end.invariant.1
          (let P : ℕ → Type 0 = λ n. IsAscii (take n (drop c.loop-end.end c.args.bytes.now)) in subst P sixteen c.if-is_ascii.ensures.cases),
    )
