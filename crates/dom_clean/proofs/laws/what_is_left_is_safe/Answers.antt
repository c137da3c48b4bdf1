use Rattle.dom_clean.proofs.Pages.{safe}
use Rattle.dom_clean.proofs.laws.what_is_left_is_safe.Goals as goal

pub returns : goal.returns
returns c = λ policy sound. safe policy sound
