use Rattle.std.proofs.Common.{refl}
use Rattle.page_reading.proofs.Utf8Lemmas.{nothing_behind}
use Rattle.page_reading.proofs.page_decoder.PageDecoder.new.Goals as goal

pub returns : goal.returns
returns c = (refl, (refl, nothing_behind c.new-2.result c.new-2.ensures), refl, c.new.ensures.items)
