use Rattle.std.proofs.Common.{eqb}
use Rattle.byte_lanes.proofs.LaneLemmas.{marks_compared}
use Rattle.byte_lanes.proofs.equal_to.Goals as goal

pub returns : goal.returns
returns c = marks_compared eqb c.args.v c.args.byte c.fits-v.0
