use Rattle.std.proofs.Common.{◌+◌, ◌*◌, ◌/◌, ◌<◌, ◌≤◌, length, arith, rules}
use Rattle.page_tokens.specs.Lanes.{is_one_of}
use Rattle.page_tokens.proofs.RunLengths.{skipped}
use Rattle.page_tokens.proofs.tokenizer.lanes.skip.Goals as goal

pub returns-then-len-lt16-clause-none : goal.returns-then-len-lt16-clause-none
returns-then-len-lt16-clause-none c k l =
    let short : k < 16 * c.loop-index.index + c.block_len-len.result = grind (arith, l, c.saturating_add-count.ensures, c.loop-index.invariant.0) in
    skipped (is_one_of c.args.ends) c.as_chunks.result.0.now (length c.args.bytes.now / 16) c.loop-index.index c.block_len-len.result k c.args.bytes.now _ c.as_chunks.ensures.front (search rules) c.block_len-len.ensures.within
    c.loop-index.invariant.1 c.block_len-len.ensures.none short

pub loop-index-preserved : goal.loop-index-preserved
loop-index-preserved c = (
  (let within : c.block_len-len.result ≤ 16 = c.block_len-len.ensures.within in grind (arith, c.saturating_add-count.ensures, c.loop-index.invariant.0, within)),
  (λ k l.
      let short : k < 16 * c.loop-index.index + c.block_len-len.result = omega (arith, l, c.if-len-lt16.false) in
      skipped (is_one_of c.args.ends) c.as_chunks.result.0.now (length c.args.bytes.now / 16) c.loop-index.index c.block_len-len.result k c.args.bytes.now _ c.as_chunks.ensures.front (search rules) c.block_len-len.ensures.within
      c.loop-index.invariant.1 c.block_len-len.ensures.none short),
)
