-- The texts between two tokens, as the characters for which they stand: each character is a token (13.2.6).
use Rattle.std.specs.Prelude.{◌≡◌, ◌∷◌, ◌==◌, ◌&&◌, ◌||◌, Bool, List, Some, [], encode_utf8_all, false, if◌then◌else◌, map, true, ℕ}
use Rattle.standard_tokens.specs.Tokens.{AChar}
use Rattle.standard_trees.specs.Building.{Building, is_empty, is_space}
use Rattle.page_trees.specs.CharacterSteps.{fits_mode, has_begun, has_no_null, is_run}
use Rattle.page_trees.specs.Constructs.{Constructs, RemembersLimits, WithinLimits}
use Rattle.page_trees.specs.CoveredTurns.{covered_turn}
use Rattle.standard_order.specs.Turns.{tree_steps_while}
use Rattle.page_trees.specs.declared.builder.Mode.{Mode}
use Rattle.page_trees.specs.declared.builder.TreeBuilder.{TreeBuilder}
use Rattle.page_trees.specs.declared.chars.Run.{Run}

-- the white space at the beginning, and what comes after it
abbrev pub front_spaces : List ℕ → List ℕ
front_spaces [] = []
front_spaces (c ∷ cs) = if is_space c then c ∷ front_spaces cs else []

abbrev pub past_spaces : List ℕ → List ℕ
past_spaces [] = []
past_spaces (c ∷ cs) = if is_space c then past_spaces cs else c ∷ cs

-- the characters up to the first white space, and what comes from there on
abbrev pub front_word : List ℕ → List ℕ
front_word [] = []
front_word (c ∷ cs) = if is_space c then [] else c ∷ front_word cs

abbrev pub past_word : List ℕ → List ℕ
past_word [] = []
past_word (c ∷ cs) = if is_space c then c ∷ cs else past_word cs

-- a line feed at the beginning is ignored, if that was asked for
abbrev pub unskipped : Bool → List ℕ → List ℕ
unskipped true (c ∷ cs) = if c == 10 then cs else c ∷ cs
unskipped _ cs = cs

-- the mode in which the text of an element is read
abbrev pub is_text : Mode → Bool
is_text Mode.Text = true
is_text _ = false

-- Within the limits, these characters are processed one after the other. None is to be skipped, and the tokenizer is not switched.
abbrev pub TakesCharacters : List ℕ → TreeBuilder → TreeBuilder → Type 0
TakesCharacters cs old new =
    WithinLimits new → (b : Building) → has_begun b ≡ true → Constructs old b → (depth : ℕ) (c : Building) →
    tree_steps_while covered_turn depth b (map (λ x. AChar x) cs) ≡ Some c → Constructs new c

-- the characters of a text are processed, one after the other
abbrev pub TakesText : List ℕ → TreeBuilder → TreeBuilder → Type 0
TakesText text old new = (cs : List ℕ) → text ≡ encode_utf8_all cs → TakesCharacters cs old new

-- the characters of a text without nulls are processed, one after the other
abbrev pub TakesNoNulls : List ℕ → TreeBuilder → TreeBuilder → Type 0
TakesNoNulls text old new = (cs : List ℕ) → text ≡ encode_utf8_all cs → has_no_null cs ≡ true → TakesCharacters cs old new

-- Of such a text the rest is left to be processed: where that leads, the text leads.
abbrev pub LeavesRest : List ℕ → List ℕ → TreeBuilder → TreeBuilder → Type 0
LeavesRest text rest old now = (new : TreeBuilder) → RemembersLimits now new → TakesNoNulls rest now new → TakesNoNulls text old new

-- the characters are none, or form a run of this kind that fits the mode; then the text of them is processed
abbrev pub fits_piece : Mode → Run → List ℕ → Bool
fits_piece mode kind cs = is_empty cs || (is_run kind cs && fits_mode mode kind cs)

abbrev pub TakesPiece : Run → List ℕ → TreeBuilder → TreeBuilder → Type 0
TakesPiece kind text old new =
    (cs : List ℕ) → text ≡ encode_utf8_all cs → fits_piece old.mode kind cs ≡ true → TakesCharacters cs old new
