use Rattle.std.proofs.Common.{arith}
use Rattle.dom_links.specs.Forest.{forest_of}
use Rattle.dom_links.proofs.moves.Cuts.{length-contents}
use Rattle.dom_links.proofs.walks.Suffixes.{looks_few}
use Rattle.dom_links.proofs.iters.next_after.Goals as goal

pub next_below-requires-clause-room : goal.next_below-requires-clause-room
next_below-requires-clause-room c =
    let long = length-contents (forest_of c.args.nodes.now) c.args.nodes.now c.requires.sound.arena.links in
    looks_few (forest_of c.args.nodes.now) c.args.start c.args.current c.requires.sound.forest c.requires.below (omega (arith, long, c.requires.sound.numbered))
