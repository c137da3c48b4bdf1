use Rattle.std.proofs.Common.{leb, w8, arith}
use Rattle.std.proofs.lemmas.Simd.{bitmask_splat}
use Rattle.dom_markup.proofs.document.scan.low_bytes.Goals as goal

pub returns : goal.returns
returns c = bitmask_splat w8 leb c.args.bytes 16 62 c.fits-bytes.0 (omega arith)
