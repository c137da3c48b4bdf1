use Rattle.std.proofs.Common.{ap}
use Rattle.std.proofs.lemmas.List.{take-append-le}
use Rattle.encodings.specs.Prescan.{declared_encoding, declared_in, looked_at}
use Rattle.encodings.proofs.laws.only_the_front_is_looked_at.Goals as goal

pub returns : goal.returns
unfolding declared_encoding
returns c = λ bytes more long. ap declared_in (take-append-le looked_at bytes more long)
