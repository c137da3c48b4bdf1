use Rattle.std.proofs.Common.{◌∙◌, ◌++◌, ap}
use Rattle.decoded_text.specs.Characters.{text_of}
use Rattle.text_decoding.proofs.PageTexts.{text_is}
use Rattle.page_reading.proofs.page_decoder.ascii_text.Goals as goal

pub returns : goal.returns
unfolding text_of
returns c =
    c.in_ok-push_str.ensures.bytes ∙ ap (λ bytes. bytes ++ c.as_str.result.now) c.in_ok-out.ensures.text
    ∙ c.as_str.ensures ∙ text_is _ _ c.in_ok-text.ensures
