-- A search among siblings, one after the other.
use Rattle.std.proofs.Common.{◌≡◌, ℕ, ◌<◌, List, ◌∷◌, length, Bool, false, cond, sym, ap, ◌∙◌, arith, Option, Some}
use Rattle.std.specs.Prelude.{find}
use Rattle.dom_links.specs.Forest.{Forest, siblings}
use Rattle.dom_links.specs.Laws.{AreLines}
use Rattle.dom_links.specs.Lists.{after}
use Rattle.dom_links.specs.Walk.{row_on}

pub shorter : (ahead rest : List ℕ) (n : ℕ) → ahead ≡ n ∷ rest → length rest < length ahead
shorter ahead rest n e = omega (arith, ap length e)

-- a node and its later siblings
pub row_step : (forest : Forest) (n : ℕ) (next : Option ℕ) → AreLines forest → next ≡ after (siblings forest n) n → row_on forest false (Some n) ≡ n ∷ row_on forest false next
row_step forest n next lines e = ap (λ ns. n ∷ ns) (lines.beside false n ∙ ap (row_on forest false) (sym e))

pub found_later : (p : ℕ → Bool) (n : ℕ) (rest : List ℕ) → false ≡ p n → find p (n ∷ rest) ≡ find p rest
found_later p n rest h = ap (λ c. cond c (Some n) (find p rest)) (sym h)
