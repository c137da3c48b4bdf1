use Rattle.std.specs.Prelude.{[]}
use Rattle.dom_links.specs.Copying.{read_nodes}
use Rattle.dom_links.specs.Forest.{forest_of}
use Rattle.dom_links.proofs.ops.copies.fragment_of.Given as goal

abbrev pub ghost-copy_each : goal.ghost-copy_each
ghost-copy_each a = record { source = forest_of (read_nodes a.other a.nodes.now.items); base = record { content = []; children = []; runs = [] } }
