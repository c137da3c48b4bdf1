use Rattle.std.proofs.Common.{drop}
use Rattle.decoded_text.specs.Characters.{IsCounted}
use Rattle.text_decoding.specs.Decoding.{Begins, characters, characters_behind, joined}
use Rattle.text_decoding.proofs.decoder.decode_pieces.Given as goal

-- what is written and what is to come are the whole
abbrev pub invariant-loop-piece : goal.invariant-loop-piece
invariant-loop-piece l = record {
  begins : Begins l.out (characters l.fn.encoding (joined (λ piece. piece.now) l.pieces)) (characters_behind l.decoder (joined (λ piece. piece.now) (drop l.piece-index l.pieces)));
  counted : IsCounted l.out;
}
