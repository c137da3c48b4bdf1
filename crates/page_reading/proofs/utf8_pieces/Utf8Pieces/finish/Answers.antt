use Rattle.std.proofs.Common.{◌≡◌, [], ap, ◌∙◌, string_bytes}
use Rattle.std.proofs.lemmas.Result.{IfOk-weaker}
use Rattle.decoded_text.specs.Characters.{IsDecoded, text_of}
use Rattle.decoded_text.specs.declared.decoded.Decoded.{Decoded}
use Rattle.text_decoding.specs.Decoding.{characters_behind}
use Rattle.text_decoding.specs.Utf8.{characters}
use Rattle.text_decoding.specs.declared.decoder.Decoder.{Decoder}
use Rattle.page_reading.proofs.utf8_pieces.Utf8Pieces.finish.Goals as goal

pub returns-clause-text : goal.returns-clause-text
returns-clause-text c =
    IfOk-weaker c.finish.result (λ (left : Decoded). IsDecoded left (characters_behind c.replace.result []))
    (λ (left : Decoded). string_bytes left.text ≡ text_of (characters_behind c.args.self.now.decoder []))
    (λ left is. is.text ∙ ap (λ (decoder : Decoder). text_of (characters_behind decoder [])) c.replace.ensures.value)
    c.finish.ensures.decoded

pub returns-clause-ended : goal.returns-clause-ended
unfolding characters
returns-clause-ended c = ap (λ (decoder : Decoder). characters_behind decoder []) c.replace.ensures.after ∙ c.new-next.ensures []
