use Rattle.text_decoding.proofs.Pieces.{lent_piece}
use Rattle.text_decoding.proofs.decoder.Decoder.lent.Goals as goal

pub returns-in-Utf8 : goal.returns-in-Utf8
returns-in-Utf8 c = λ more. lent_piece _ _ more _ c.in-Utf8.is (c.is_between_characters.ensures c.if-is_between_characters.true) c.lent_utf8.ensures.bytes c.lent_utf8.ensures.some
