-- Lists of names in a line.
use Rattle.std.proofs.Common.{◌≡◌, ◌≢◌, ℕ, List, [], ◌∷◌, refl}
use Rattle.dom_script.specs.NameLists.{listed_in}
use Rattle.dom_script.specs.EditLine.{names_in}

pub some-list : (text : List ℕ) → text ≢ [] → names_in text ≡ listed_in text
some-list [] some = absurd (some refl)
some-list (b ∷ bs) some = refl
