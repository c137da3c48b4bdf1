use Rattle.std.proofs.Common.{leb}
use Rattle.byte_lanes.proofs.LaneLemmas.{marks_compared}
use Rattle.byte_lanes.proofs.at_most.Goals as goal

pub returns : goal.returns
returns c = marks_compared leb c.args.v c.args.byte c.fits-v.0
