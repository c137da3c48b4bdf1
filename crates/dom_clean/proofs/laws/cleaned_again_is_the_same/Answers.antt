use Rattle.dom_clean.proofs.Again.{cleans_once}
use Rattle.dom_clean.proofs.laws.cleaned_again_is_the_same.Goals as goal

pub returns : goal.returns
returns c = λ policy sound. cleans_once policy sound
