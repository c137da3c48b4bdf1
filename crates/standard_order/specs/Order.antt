-- What is so of the stack of open elements wherever a turn of tree construction (13.2.6) begins, whatever tokens come.
use Rattle.std.specs.Prelude.{[], ◌∷◌, ◌≡◌, ◌&&◌, ◌||◌, Bool, List, Some, codes, false, not, true, ℕ}
use Rattle.std.specs.Option.{option_map_or}
use Rattle.standard_tokens.specs.Tokens.{Token}
use Rattle.standard_trees.specs.Building.{Building, tree_steps}
use Rattle.standard_trees.specs.GrowingTree.{is_one, topmost}
use Rattle.standard_trees.specs.RuleWords.{AfterHead, BeforeHtml, Initial, Mode}
use Rattle.standard_trees.specs.TreeStore.{is_member}
use Rattle.standard_order.specs.Beginnings.{Beginning, first_building}
use Rattle.standard_order.specs.Turns.{tree_steps_while}

-- in these modes no element is open yet
abbrev pub is_before_html : Mode → Bool
is_before_html Initial = true
is_before_html BeforeHtml = true
is_before_html _ = false

abbrev pub is_after_head : Mode → Bool
is_after_head AfterHead = true
is_after_head _ = false

-- the outermost open element is `html`
abbrev pub has_html : Building → Bool
has_html b = is_one b.tree (codes "html" ∷ []) (topmost b.tree.stack)

-- the head element is not open
abbrev pub head_is_closed : Building → Bool
head_is_closed b = option_map_or (λ n. not (is_member n b.tree.stack)) b.tree.head true

-- the outermost open element is `html` in every mode after "before html", and in "after head" the head element is not open
abbrev pub is_in_order : Building → Bool
is_in_order b = (is_before_html b.mode || has_html b) && (not (is_after_head b.mode) || head_is_closed b)

-- Wherever a turn begins, the open elements are in order: where tokens lead, turns lead that each begin in such a state.
abbrev pub TurnsBeginInOrder : Type 0
TurnsBeginInOrder = (depth : ℕ) (beginning : Beginning) (tokens : List Token) (end : Building) →
    tree_steps depth (first_building beginning) tokens ≡ Some end →
    tree_steps_while is_in_order depth (first_building beginning) tokens ≡ Some end

-- the state passes a test, and its open elements are in order
abbrev pub in_order_too : (Building → Bool) → Building → Bool
in_order_too test b = test b && is_in_order b

-- So no test of turns need ask for that: where turns that pass a test lead, turns lead that also begin in such states.
abbrev pub OrderNeedsNoTest : Type 0
OrderNeedsNoTest = (test : Building → Bool) (depth : ℕ) (beginning : Beginning) (tokens : List Token) (end : Building) →
    tree_steps_while test depth (first_building beginning) tokens ≡ Some end →
    tree_steps_while (in_order_too test) depth (first_building beginning) tokens ≡ Some end
