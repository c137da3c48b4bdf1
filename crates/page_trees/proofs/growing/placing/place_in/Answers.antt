use Rattle.page_trees.proofs.growing.placing.place_in.Goals as goal

pub returns-in_default-clause-lies : goal.returns-in_default-clause-lies
returns-in_default-clause-lies c = c.root_place.ensures.lies _
