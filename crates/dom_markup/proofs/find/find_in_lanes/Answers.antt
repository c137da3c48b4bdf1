use Rattle.std.proofs.Common.{◌≡◌, ◌<◌, ◌^◌, ◌∙◌, ap, sym, subst, map, length, not, w16, arith}
use Rattle.std.proofs.lemmas.List.{length-map}
use Rattle.std.proofs.lemmas.Nat.Bits.{bit_at-trailing_zeros}
use Rattle.std.proofs.lemmas.Simd.{length-chunk, mask_l-lt, none_from_empty_mask, run_in_chunk_fails, run_in_chunk_stops, trailing_mask_l}
use Rattle.std.specs.Int.Count.{count_trailing_zeros}
use Rattle.std.specs.List.{prefix_len}
use Rattle.std.specs.Simd.Lanes.{chunk, mask_l}
use Rattle.memchr.specs.Find.{is_byte}
use Rattle.dom_markup.proofs.find.find_in_lanes.Goals as goal

pub returns-then-places-eq0 : goal.returns-then-places-eq0
returns-then-places-eq0 c = λ k low high passes.
    let fails = none_from_empty_mask (is_byte c.args.byte) c.args.bytes.now c.args.at 16 0 c.requires (sym c.places_in-places.ensures ∙ c.if-places-eq0.true) k low high in
    cc

pub returns : goal.returns
returns c =
    let p = is_byte c.args.byte in
    let xs = c.args.bytes.now in
    let lanes = chunk c.args.at 16 xs in
    let r = count_trailing_zeros 64 c.places_in-places.result in
    let long : length lanes ≡ 16 = length-chunk c.args.at 16 xs c.requires in
    let is : c.places_in-places.result ≡ mask_l (map p lanes) = c.places_in-places.ensures in
    let some : 0 < mask_l (map p lanes) = omega (arith, is, c.if-places-eq0.false) in
    let small : mask_l (map p lanes) < 2 ^ 16 = subst (λ n. mask_l (map p lanes) < 2 ^ n) (length-map lanes p ∙ long) (mask_l-lt (map p lanes)) in
    let counted : r ≡ prefix_len (λ x. not (p x)) lanes = ap (count_trailing_zeros 64) is ∙ trailing_mask_l p 64 lanes (omega (arith, long)) some in
    let below : prefix_len (λ x. not (p x)) lanes < 16 = subst (λ n. n < 16) (trailing_mask_l p 16 lanes (omega (arith, long)) some) (bit_at-trailing_zeros w16 (mask_l (map p lanes)) some small).0 in
    let within : r < 16 = omega (arith, counted, below) in (
      record {
        low = omega arith;
        high = omega (arith, within);
        before = λ k low high passes. let fails = run_in_chunk_fails p xs c.args.at 16 r 0 c.requires counted k low high in cc;
      },
      run_in_chunk_stops p xs c.args.at 16 r 0 c.requires counted within,
    )
