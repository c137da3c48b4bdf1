use Rattle.dom_links.proofs.ops.copies.copy_node.Given as goal

abbrev pub ghost-copy_alone : goal.ghost-copy_alone
ghost-copy_alone g a = g.at
