use Rattle.dom_links.proofs.ops.copies.copy_row.Given as goal

abbrev pub ghost-copy_node : goal.ghost-copy_node
ghost-copy_node g a = g.at
