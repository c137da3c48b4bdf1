use Rattle.std.proofs.Common.{string_bytes, ◌∙◌}
use Rattle.std.proofs.lemmas.Str.{IsUtf8-string_bytes}
use Rattle.page_reading.proofs.HeldLemmas.{page_ends}
use Rattle.page_reading.proofs.page_decoder.PageDecoder.finish.Goals as goal

pub returns : goal.returns
returns c = λ bytes read cs has spelt.
    page_ends bytes read cs (string_bytes c.in_ok-text.text.text) c.as_str.result.now (string_bytes c.push_str.new.self) c.args.self
    c.decode_held.new.self c.in_ok-text.ensures (IsUtf8-string_bytes c.in_ok-text.text.text) (c.as_str.ensures.value
    ∙ c.in_ok-last.ensures.decoded.text) c.in_ok-push_str.ensures.bytes
    has spelt
