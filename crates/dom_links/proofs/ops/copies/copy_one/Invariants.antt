use Rattle.dom_links.proofs.ops.copies.copy_one.Given as goal

abbrev pub ghost-copy_tree : goal.ghost-copy_tree
ghost-copy_tree g a = g.at
