use Rattle.std.proofs.Common.{arith}
use Rattle.std.proofs.lemmas.Grind.{elements}
use Rattle.dom_links.proofs.validation.cycles.parents_or_hosts.Goals as goal

pub loop-n-preserved : goal.loop-n-preserved
loop-n-preserved c = grind (arith, elements)
