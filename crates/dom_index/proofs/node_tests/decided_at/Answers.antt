use Rattle.std.proofs.lemmas.Option.{IfSome_then}
use Rattle.dom_index.proofs.node_tests.decided_at.Goals as goal

pub returns : goal.returns
returns c =
    let visited = c.args.visited.now in
    IfSome_then c.decided.result c.decided.ensures (λ answer is compound some. is compound visited.tree.now visited.id (record { known = visited.known; named = visited.named }) some)
