use Rattle.std.proofs.Common.{refl}
use Rattle.dom_links.proofs.laws.worked_moves.Goals as goal

pub returns : goal.returns
returns c = λ content. record { appended = refl; prepended = refl; run_grown = refl; after_two = refl; before_four = refl; below_two = refl; run_split = refl; alone_stays = refl }
