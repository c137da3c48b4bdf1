use Rattle.std.proofs.Common.{arith, ap}
use Rattle.dom_md.specs.Fences.{longest_run}
use Rattle.dom_md.proofs.FenceLemmas.{ticks-longest}
use Rattle.dom_md.proofs.fences.fence_len.Goals as goal

pub returns-clause-longer : goal.returns-clause-longer
returns-clause-longer c = λ front text is.
    let run = ticks-longest front text in
    let same = ap longest_run is in
    let counted = rw c.as_bytes.ensures.value at c.longest_run.ensures.value in
    omega arith
