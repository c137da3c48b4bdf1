-- The steps of a selector, cut before the last.
use Rattle.std.proofs.Common.{◌≡◌, ℕ, ◌+◌, List, [], ◌∷◌, ◌++◌, map, ap, ◌∙◌, arith, ◌↔◌}
use Rattle.dom_selectors.specs.declared.syntax.Combinator.{Combinator}
use Rattle.dom_selectors.specs.declared.syntax.Step.{Step}
use Rattle.dom_selectors.specs.Syntax.{CompoundSelector}
use Rattle.dom_selectors.specs.ListsAsTrees.{steps_of}
use Rattle.dom_selectors.specs.ValuesAsTrees.{read_step, read_compound}
use Rattle.dom_selectors.proofs.Layers.{read_step_is}
use Rattle.dom_links.specs.Forest.{Forest}
use Rattle.dom_select.specs.Meaning.{ChainMatches}
use Rattle.dom_select.proofs.ReachLemmas.{LastStep, chain_by_last}
use Rattle.dom_selectors.proofs.Weights.{compound_weight, steps_weight}

read_last : (front : List Step) (last : Step) → map read_step (front ++ last ∷ []) ≡ map read_step front ++ (last.combinator, read_compound last.compound) ∷ []
read_last [] last = ap (λ s. s ∷ []) (read_step_is last)
read_last (s ∷ front) last = ap (λ ss. read_step s ∷ ss) (read_last front last)

pub read_front_and_last : (steps front : List Step) (last : Step) → steps ≡ front ++ last ∷ [] → map read_step steps ≡ map read_step front ++ (last.combinator, read_compound last.compound) ∷ []
read_front_and_last steps front last e = ap (map read_step) e ∙ read_last front last

weight_last : (ss : List (Combinator × CompoundSelector)) (s : Combinator × CompoundSelector) → steps_weight (steps_of (ss ++ s ∷ [])) ≡ steps_weight (steps_of ss) + 2 + compound_weight s.1
weight_last [] s = omega arith
weight_last (t ∷ ss) s = omega (arith, weight_last ss s)

pub weight_front_and_last : (steps front : List Step) (last : Step) → steps ≡ front ++ last ∷ [] →
    steps_weight (steps_of (map read_step steps)) ≡ steps_weight (steps_of (map read_step front)) + 2 + compound_weight (read_compound last.compound)
weight_front_and_last steps front last e = ap (λ ss. steps_weight (steps_of ss)) (read_front_and_last steps front last e) ∙ weight_last _ _

-- what the steps ask of their last node, and of some node on the left of it
pub chain_by_last_step : (forest : Forest) (exempt : ℕ) (first : ℕ → Type 0) (steps front : List Step) (last : Step) (x : ℕ) → steps ≡ front ++ last ∷ [] →
    ChainMatches first (steps_of (map read_step steps)) forest exempt x
    ↔ LastStep forest exempt first (map read_step front) (last.combinator, read_compound last.compound) x
chain_by_last_step forest exempt first steps front last x e =
    chain_by_last forest exempt first (map read_step steps) (map read_step front) (last.combinator, read_compound last.compound) x (read_front_and_last steps front last e)
