-- Every turn of a page is covered.
use Rattle.std.specs.Prelude.{◌≡◌, ◌||◌, refl, ℕ, Bool, true, false, not, List, Some}
use mathlib.Core.Path.{ap}
use Rattle.standard_tokens.specs.Tokens.{AStart, AnEnd, Token}
use Rattle.standard_trees.specs.Building.{Building, is_empty, tree_steps}
use Rattle.standard_trees.specs.Laws.{is_plain}
use Rattle.standard_trees.specs.RuleWords.{BeforeHtml, Initial, Mode}
use Rattle.standard_order.specs.Beginnings.{Beginning, first_building}
use Rattle.standard_order.specs.Order.{is_before_html}
use Rattle.standard_order.proofs.LevelFacts.{Turn, TurnIs}
use Rattle.standard_order.proofs.StandingStacks.{both}
use Rattle.standard_order.proofs.TurnsRun.{fact_needs_no_test, fact_too}
use Rattle.page_trees.specs.CoveredTurns.{covered_turn, covers, covers_tag}
use Rattle.page_trees.specs.OrderlyTurns.{TurnsAreCovered, is_orderly, is_tag, opens_none_early, orderly_too}
use Rattle.page_trees.specs.PagesRead.{page_steps}
use Rattle.page_trees.proofs.OrderlyPages.{IsNarrower, narrower_steps, turns_are_orderly}
use Rattle.page_trees.proofs.OrderlyTokens.{both_so, orderly, others_are_covered}
use Rattle.page_trees.proofs.TagsCovered.{tags_are_covered}
use Rattle.page_trees.proofs.TurnsPassed.{always, steps_always}

-- no element is open before "html" is made
none_early : (b : Building) → Turn b → opens_none_early b ≡ true
none_early b turn = by b.mode turn.1
  where
    by : (m : Mode) → TurnIs m b → not (is_before_html m) || is_empty b.tree.stack ≡ true
    by Initial h = ap is_empty h.0
    by BeforeHtml h = ap is_empty h.0
    by _ h = refl

-- what is so wherever a turn begins
abbrev orderly_turn : Building → Bool
orderly_turn = fact_too opens_none_early (orderly_too always)

covered_then : IsNarrower orderly_turn covered_turn
covered_then b h = by (is_tag b.token) refl
  where
    two : (is_orderly b ≡ true) × (opens_none_early b ≡ true)
    two = both (is_orderly b) (opens_none_early b) h

    tagged : (t : Token) → is_tag t ≡ true → covers_tag b ≡ true → covers t b ≡ true
    tagged (AStart name attrs closing) e k = k
    tagged (AnEnd name) e k = k
    tagged _ e k = cc

    by : (x : Bool) → is_tag b.token ≡ x → covered_turn b ≡ true
    by true e = both_so (is_plain b.original) (covers b.token b) (orderly b two.0).plain (tagged b.token e (tags_are_covered b two.0 two.1 e))
    by false e = others_are_covered b two.0 e

pub turns_are_covered : TurnsAreCovered
turns_are_covered depth beginning tokens end h =
    narrower_steps orderly_turn covered_turn covered_then depth tokens (first_building beginning) end
    (fact_needs_no_test opens_none_early none_early (orderly_too always) depth beginning tokens end
    (turns_are_orderly always depth beginning tokens end (steps_always depth tokens (first_building beginning) end h)))

-- the turns of a page or a fragment are covered
pub turns_covered : (depth : ℕ) (beginning : Beginning) (all : List Token) (end : Building) →
    tree_steps depth (first_building beginning) all ≡ Some end → page_steps depth beginning all ≡ Some end
turns_covered depth beginning all end h = turns_are_covered depth beginning all end h
