use Rattle.dom_index.proofs.combinators.is_reached.Goals as goal

pub returns-in-None : goal.returns-in-None
returns-in-None c = rw c.in-None.is
