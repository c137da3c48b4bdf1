use Rattle.std.proofs.Common.{refl}
use Rattle.std.proofs.lemmas.Result.{on_ok_weaker}
use Rattle.dom_links.specs.Forest.{forest_of}
use Rattle.dom_links.proofs.walks.EdgeLemmas.{opened, unknown-row}
use Rattle.dom_links.proofs.edges.push_after.Goals as goal

pub returns-in_default : goal.returns-in_default
returns-in_default g c = rw (unknown-row g.D.Descent.descending (forest_of c.args.nodes.now) c.requires.forest c.args.id c.args.marked c.args.alone c.in_default.ensures) refl

pub returns : goal.returns
returns g c =
    let forest = forest_of c.args.nodes.now in
    on_ok_weaker c.push_inside.result
    (λ more. opened g.D.Descent.descending forest c.requires.forest c.args.id c.in-Some.node.now c.in-Some.ensures c.args.marked c.args.alone c.next_of.result c.next_of.ensures _ _ _ c.in_ok-push_row.ensures more)
    c.push_inside.ensures
