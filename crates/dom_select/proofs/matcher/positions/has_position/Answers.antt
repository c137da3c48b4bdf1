use Rattle.std.proofs.Common.{ℕ, subst, MatchBool}
use Rattle.dom_links.specs.Indexes.{IsNth}
use Rattle.dom_select.proofs.matcher.positions.has_position.Goals as goal

pub returns-clause-is : goal.returns-clause-is
returns-clause-is c =
    subst (λ (i : ℕ). MatchBool c.is_nth.result (IsNth c.args.position.nth i) (IsNth c.args.position.nth i → ⊥)) c.index_at-index.ensures.is c.is_nth.ensures

pub returns-in-Some-clause-is : goal.returns-in-Some-clause-is
returns-in-Some-clause-is c = rw c.tree.ensures at c.in-Some.ensures
