use Rattle.std.proofs.Common.{◌≡◌, ℕ, ◌≤◌, Option, None, Some, ◌∙◌, arith}
use Rattle.std.specs.Prelude.{MatchOption, unwrap_or}
use Rattle.dom_clean.proofs.cleaning.fragment_top.Goals as goal

id_is : (found : Option ℕ) (other : ℕ) → MatchOption found (4294967295 ≤ 1) (λ id. id ≡ 1) → unwrap_or found other ≡ 1
id_is None other holds = absurd (omega (arith, holds))
id_is (Some id) other holds = holds

pub returns : goal.returns
returns c = c.unwrap_or.ensures ∙ id_is c.new.result c.root.result c.new.ensures
