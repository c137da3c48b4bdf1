use Rattle.std.proofs.lemmas.Result.{on_ok_weaker}
use Rattle.dom_links.specs.Forest.{forest_of}
use Rattle.dom_links.specs.declared.edges.Entry.TheVariants.{End}
use Rattle.dom_links.proofs.walks.EdgeLemmas.{children-pushed, pushed}
use Rattle.dom_links.proofs.edges.push_children.Goals as goal

pub returns : goal.returns
returns g c =
    let d = g.D.Descent.descending in
    let forest = forest_of c.args.nodes.now in
    let one = pushed d forest c.args.ahead.now.items c.push.new.ahead.items (End c.args.id) c.in_ok-push.ensures in
    on_ok_weaker c.push_row.result
    (λ more. children-pushed d forest c.requires.sound.forest c.args.id c.args.node.now c.requires.node _ _ _ one (rw (c.get-first.ensures, c.mark.ensures) at more))
    c.push_row.ensures
