use Rattle.std.proofs.Common.{◌++◌, ap}
use Rattle.text_decoding.specs.Decoding.{characters_from, start}
use Rattle.text_decoding.proofs.decoder.Decoder.new.Goals as goal

pub returns : goal.returns
returns c = λ bytes. ap (λ waiting. characters_from c.args.encoding start (waiting ++ bytes)) c.new.ensures.items
