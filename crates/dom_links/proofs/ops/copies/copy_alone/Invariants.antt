use Rattle.dom_links.proofs.ops.copies.copy_alone.Given as goal

abbrev pub ghost-add_copy : goal.ghost-add_copy
ghost-add_copy g a = g.at
