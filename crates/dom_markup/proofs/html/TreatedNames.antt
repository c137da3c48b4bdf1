-- Names of elements that are looked up by their numbers.
use Rattle.std.proofs.Common.{◌≡◌, ℕ, ◌<◌, List, true, get_or, ap, ◌∙◌}
use Rattle.std.specs.Prelude.{◌==◌}
use Rattle.std.proofs.lemmas.Bool.{agree_below, agree_below_at}
use Rattle.dom_nodes.specs.KnownNames.{known_name}
use Rattle.dom_nodes.specs.Words.{is_among}
use Rattle.dom_markup.specs.declared.names.TheConstants.{TREATED}

-- the table gives this value to the known names that are among these, and to no others
abbrev pub TreatsAs : ℕ → List (List ℕ) → Type 0
TreatsAs value names = agree_below (λ n. get_or TREATED n 0 == value) (λ n. is_among (known_name n) names) 247 ≡ true

pub treated_as : (value : ℕ) (names : List (List ℕ)) (number : ℕ) (name : List ℕ) → TreatsAs value names → number < 247 → known_name number ≡ name → (get_or TREATED number 0 == value) ≡ is_among name names
treated_as value names number name table known is =
    agree_below_at (λ n. get_or TREATED n 0 == value) (λ n. is_among (known_name n) names) 247 number table known ∙ ap (λ bytes. is_among bytes names) is
