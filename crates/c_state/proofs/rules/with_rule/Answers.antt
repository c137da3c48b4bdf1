use Rattle.std.proofs.Common.{rules, ◌≡◌, ℕ, List, Ok, Result, Some, subst, sym, ap, ◌∙◌}
use Rattle.std.specs.Prelude.{MatchResult}
use Rattle.dom_clean.specs.Policy.{Policy}
use Rattle.c_state.specs.Rules.{rule_numbered}
use Rattle.c_state.specs.declared.fault.Fault.{Fault}
use Rattle.c_state.proofs.rules.with_rule.Goals as goal

at_ok : (old : Result Policy Fault) (policy : Policy) (P : Policy → Type 0) → old ≡ Ok policy → P policy → MatchResult old P (λ _. ⊥)
at_ok old policy P is holds = subst (λ (r : Result Policy Fault). MatchResult r P (λ _. ⊥)) (sym is) holds

pub returns : goal.returns
returns c =
    let told = subst (λ (text : List ℕ). rule_numbered c.args.rule text c.in_ok-rules.rules ≡ Some c.add_rule.new.rules) c.in_ok-text.ensures c.in_ok-add_rule.ensures in
    at_ok c.args.rules c.in_ok-rules.rules _ (search rules) (told ∙ ap (λ (policy : Policy). Some policy) (search rules))
