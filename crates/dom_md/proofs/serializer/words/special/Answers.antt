use Rattle.std.proofs.Common.{bit_or, bit_xor, get_or, replicate}
use Rattle.std.specs.Prelude.{◌==◌, ◌||◌, nat_le}
use Rattle.std.specs.Simd.Lanes.{zip2}
use Rattle.dom_md.proofs.BlockLemmas.{marks-special}
use Rattle.dom_md.proofs.serializer.words.special.Goals as goal

pub returns : goal.returns
returns c =
    let v = c.args.v in
    let quotes = c.either-quotes.ensures (λ k. get_or v k 0 == 96) (λ k. get_or v k 0 == 42) c.equal_to.ensures c.equal_to-2.ensures in
    let signs = c.either-signs.ensures (λ k. get_or v k 0 == 60) (λ k. get_or v k 0 == 33) c.equal_to-3.ensures c.equal_to-4.ensures in
    let rest = c.either.ensures (λ k. get_or v k 0 == 96 || get_or v k 0 == 42) (λ k. get_or v k 0 == 60 || get_or v k 0 == 33) quotes signs in
    marks-special v c.either-2.result c.fits-v.0 c.fits-v.1 (c.either-2.ensures (λ k. nat_le (get_or (zip2 bit_xor (zip2 bit_or v (replicate 16 32)) (replicate 16 127)) k 0) 4)
    (λ k. (get_or v k 0 == 96 || get_or v k 0 == 42) || (get_or v k 0 == 60 || get_or v k 0 == 33)) c.at_most-brackets.ensures rest)
