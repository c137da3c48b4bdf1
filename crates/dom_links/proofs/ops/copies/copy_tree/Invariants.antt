use Rattle.dom_links.proofs.ops.copies.copy_tree.Given as goal

abbrev pub ghost-copy_node : goal.ghost-copy_node
ghost-copy_node g a = g.at

abbrev pub ghost-copy_rows : goal.ghost-copy_rows
ghost-copy_rows g a = g.at
