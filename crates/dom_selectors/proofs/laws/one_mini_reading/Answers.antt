use Rattle.dom_selectors.proofs.MiniLemmas.{mini_once, mini_not_bad, path_once, path_not_bad}
use Rattle.dom_selectors.proofs.laws.one_mini_reading.Goals as goal

pub returns : goal.returns
returns c = record { mini = mini_once; mini_bad = mini_not_bad; path = path_once; path_bad = path_not_bad }
