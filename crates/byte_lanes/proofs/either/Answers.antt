use Rattle.byte_lanes.proofs.LaneLemmas.{Marks-or}
use Rattle.byte_lanes.proofs.either.Goals as goal

pub returns : goal.returns
returns c = λ p q m n. Marks-or c.args.a c.args.b p q m n
