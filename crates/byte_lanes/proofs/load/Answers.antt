use Rattle.std.proofs.lemmas.Simd.{get_or-chunk, length-chunk}
use Rattle.byte_lanes.proofs.load.Goals as goal

pub returns : goal.returns
returns c = record { long = length-chunk c.args.at 16 c.args.bytes.now c.requires; each = λ k l. get_or-chunk c.args.at 16 c.args.bytes.now k 0 l }
