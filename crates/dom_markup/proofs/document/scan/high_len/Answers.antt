use Rattle.std.proofs.Common.{◌∙◌, ap, sym, map, arith}
use Rattle.std.proofs.lemmas.Bool.{cond-false, ne_eqb}
use Rattle.std.proofs.lemmas.Simd.{length-chunk, first_set_mask_l}
use Rattle.std.specs.Int.Count.{count_trailing_zeros}
use Rattle.std.specs.Simd.Lanes.{chunk, mask_l}
use Rattle.dom_markup.specs.Bytes.{is_low}
use Rattle.dom_markup.proofs.document.scan.high_len.Goals as goal

pub returns : goal.returns
returns c =
    let is = c.low_bytes-low.ensures in
    let first = first_set_mask_l is_low (chunk 0 16 c.args.bytes.now) 16 (length-chunk 0 16 c.args.bytes.now c.requires) (omega arith) in
    ap (count_trailing_zeros 64) is ∙ sym (cond-false _ _ _ (ne_eqb (mask_l (map is_low (chunk 0 16 c.args.bytes.now))) 0 (λ e. c.if-low-eq0.false (is ∙ e)))) ∙ first
