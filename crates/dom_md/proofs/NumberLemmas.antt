-- Tests of the numbers of known names.
use Rattle.std.proofs.Common.{◌≡◌, ℕ, ◌<◌, Bool, true, List, ap, ◌∙◌}
use Rattle.std.proofs.lemmas.Bool.{agree_below, agree_below_at}
use Rattle.dom_nodes.specs.KnownNames.{known_name}

-- where a test of numbers agrees with one of the known names, it decides the one of the name with a number
pub decides_name : (by_number : ℕ → Bool) (by_name : List ℕ → Bool) (n : ℕ) (name : List ℕ) → agree_below by_number (λ k. by_name (known_name k)) 247 ≡ true → n < 247 → known_name n ≡ name → by_number n ≡ by_name name
decides_name by_number by_name n name agree low is = agree_below_at by_number (λ k. by_name (known_name k)) 247 n agree low ∙ ap by_name is
