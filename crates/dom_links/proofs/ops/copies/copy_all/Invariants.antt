use Rattle.dom_links.proofs.ops.copies.copy_all.Given as goal

abbrev pub ghost-copy_each : goal.ghost-copy_each
ghost-copy_each g a = g.at
