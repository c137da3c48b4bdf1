use Rattle.std.proofs.Common.{refl}
use Rattle.dom_links.specs.Forest.{forest_of}
use Rattle.dom_links.proofs.walks.EdgeLemmas.{no_row}
use Rattle.dom_links.proofs.edges.push_row.Goals as goal

pub returns-in_default : goal.returns-in_default
returns-in_default g c = rw (no_row g.D.Descent.descending (forest_of c.args.nodes.now) c.args.marked c.args.alone c.args.first c.in_default.is) refl
