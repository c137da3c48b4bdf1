use Rattle.std.proofs.Common.{sym}
use Rattle.text_decoding.proofs.Pieces.{begins_to, counted_new, nothing}
use Rattle.text_decoding.proofs.decoder.decode_pieces.Goals as goal

pub loop-piece-init : goal.loop-piece-init
loop-piece-init c = record {
  begins = begins_to _ _ _ _ (sym (c.new-decoder.ensures _)) (nothing _ _ c.in_ok-out.ensures);
  counted = counted_new _ c.in_ok-out.ensures;
}
