-- What is so wherever a turn of tree construction (13.2.6) begins, whatever tokens come, and so need not be asked of a page.
use Rattle.std.specs.Prelude.{◌≡◌, ◌&&◌, ◌||◌, Bool, List, Some, false, not, true, ℕ}
use Rattle.standard_tokens.specs.Tokens.{AStart, AnEnd, Token}
use Rattle.standard_trees.specs.Building.{Building, is_empty, tree_steps}
use Rattle.page_trees.specs.CoveredTurns.{covered_turn, covers_tag, keeps_plainly}
use Rattle.standard_order.specs.Beginnings.{Beginning, first_building}
use Rattle.standard_order.specs.Begun.{is_begun}
use Rattle.standard_order.specs.CurrentNodes.{has_current}
use Rattle.standard_order.specs.FormattingListed.{lists_formatting}
use Rattle.standard_order.specs.ListedOnce.{lists_each_once}
use Rattle.standard_order.specs.Order.{is_before_html, is_in_order}
use Rattle.standard_order.specs.Pending.{without_nulls}
use Rattle.standard_order.specs.Turns.{tree_steps_while}

-- The original insertion mode is one in which a token of any kind may come, and a mode that returns to it returns to one to which rules
-- switch. The outermost open element is `html` in every
-- mode after "before html", and in "after head" the head element is not open. No pending table character token is a null. Each element is
-- in the list of active formatting elements once at most, and only formatting elements are. No line feed is to be skipped, and the
-- tokenizer is not switched. An element is open in every mode after "before html", and in "text" and "in table text" the adjusted current
-- node is an HTML element.
abbrev pub is_orderly : Building → Bool
is_orderly b =
    keeps_plainly b &&
    (is_in_order b && (without_nulls b.pending && (lists_each_once b && (is_begun b && (has_current b && lists_formatting b)))))

-- the state passes a test, and is orderly
abbrev pub orderly_too : (Building → Bool) → Building → Bool
orderly_too test b = test b && is_orderly b

-- Wherever a turn begins, the state is orderly: where turns that pass a test lead, turns lead that begin in orderly states, too.
abbrev pub TurnsAreOrderly : Type 0
TurnsAreOrderly = (test : Building → Bool) (depth : ℕ) (beginning : Beginning) (tokens : List Token) (end : Building) →
    tree_steps_while test depth (first_building beginning) tokens ≡ Some end →
    tree_steps_while (orderly_too test) depth (first_building beginning) tokens ≡ Some end

abbrev pub is_tag : Token → Bool
is_tag (AStart name attrs closing) = true
is_tag (AnEnd name) = true
is_tag _ = false

-- In an orderly state every token is covered but tags: each character, comment and doctype, and the end of the page.
abbrev pub OthersAreCovered : Type 0
OthersAreCovered = (b : Building) → is_orderly b ≡ true → is_tag b.token ≡ false → covered_turn b ≡ true

-- no element is open before "html" is made
abbrev pub opens_none_early : Building → Bool
opens_none_early b = not (is_before_html b.mode) || is_empty b.tree.stack

-- In an orderly state in which no element is open before "html", each tag is covered.
abbrev pub TagsAreCovered : Type 0
TagsAreCovered = (b : Building) → is_orderly b ≡ true → opens_none_early b ≡ true → is_tag b.token ≡ true → covers_tag b ≡ true

-- So every turn of a page or a fragment is covered.
abbrev pub TurnsAreCovered : Type 0
TurnsAreCovered = (depth : ℕ) (beginning : Beginning) (tokens : List Token) (end : Building) →
    tree_steps depth (first_building beginning) tokens ≡ Some end →
    tree_steps_while covered_turn depth (first_building beginning) tokens ≡ Some end
