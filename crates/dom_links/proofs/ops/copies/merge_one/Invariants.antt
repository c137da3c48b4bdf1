use Rattle.dom_links.specs.Copying.{read_nodes}
use Rattle.dom_links.specs.Forest.{forest_of}
use Rattle.dom_links.proofs.ops.copies.merge_one.Given as goal

abbrev pub ghost-copy_one : goal.ghost-copy_one
ghost-copy_one a = record { source = forest_of (read_nodes a.other a.nodes.now.items); base = forest_of a.nodes.now.items }
