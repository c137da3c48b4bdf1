use Rattle.page_trees.proofs.shape.make_page.Goals as goal

pub returns-in-Err : goal.returns-in-Err
returns-in-Err c = record { page = tt; same = tt }
