-- Characters between the elements of a table are pending table character tokens until another token comes (13.2.6.4.9, 13.2.6.4.10).
use Rattle.std.specs.Prelude.{◌≡◌, ◌∷◌, Bool, List, [], false, not, reverse, true, ℕ}
use Rattle.std.specs.List.{list_all}
use Rattle.standard_trees.specs.Building.{Building, is_space, with_tree}
use Rattle.standard_trees.specs.GrowingTree.{with_chars}
use Rattle.page_trees.specs.CharacterSteps.{inserted_in_body, with_foster}
use Rattle.page_trees.specs.Constructs.{Constructs, WithinLimits, is_entered_plainly}
use Rattle.page_trees.specs.TokenSteps.{keeps_characters}
use Rattle.page_trees.specs.declared.builder.Next.{Next}
use Rattle.page_trees.specs.declared.builder.TreeBuilder.{TreeBuilder}
use Rattle.page_trees.specs.declared.chars.Run.{Run}

-- ---- pending table character tokens

-- the pending table character tokens after more characters; the last one comes first
abbrev pub added : List ℕ → List ℕ → List ℕ
added [] pending = pending
added (c ∷ cs) pending = added cs (c ∷ pending)

-- a run of that kind holds characters that are neither white space nor nulls
abbrev pub holds_letters : Run → Bool
holds_letters Run.Letters = true
holds_letters _ = false

-- within the limits, these characters become pending table character tokens
abbrev pub AddsToPending : List ℕ → TreeBuilder → TreeBuilder → Type 0
AddsToPending cs old new =
    keeps_characters old.mode ≡ true → WithinLimits new → (b : Building) → Constructs old b →
    Constructs new (record b { pending = added cs b.pending })

-- ---- foster parenting

abbrev pub with_fostering : Bool → Building → Building
with_fostering on b = with_tree b (with_foster on b.tree)

-- the characters are inserted by the rules for "in body", with foster parenting
abbrev pub fostered_in_body : Run → List ℕ → Building → Building
fostered_in_body kind cs b = with_fostering false (inserted_in_body kind cs (with_fostering true b))

abbrev pub FostersRun : Run → List ℕ → TreeBuilder → TreeBuilder → Type 0
FostersRun kind cs old new = WithinLimits new → (b : Building) → Constructs old b → Constructs new (fostered_in_body kind cs b)

-- ---- another token comes

-- white space alone is inserted where it stands, and other characters by the rules for "in body", with foster parenting
abbrev pub text_placed : Bool → List ℕ → Building → Building
text_placed false cs b = with_tree b (with_chars cs b.tree)
text_placed true cs b = fostered_in_body Run.Letters cs b

abbrev pub PlacesText : List ℕ → TreeBuilder → TreeBuilder → Type 0
PlacesText cs old new =
    old.table_text_has_letters ≡ not (list_all is_space cs) → WithinLimits new → (b : Building) → Constructs old b →
    Constructs new (text_placed old.table_text_has_letters cs b)

-- The pending table character tokens are inserted, and the insertion mode is switched to the original one.
abbrev pub text_settled : Building → Building
text_settled b = text_placed (not (list_all is_space b.pending)) (reverse b.pending) (record b { mode = b.original })

abbrev pub SettlesText : TreeBuilder → TreeBuilder → Type 0
SettlesText old new =
    keeps_characters old.mode ≡ true → is_entered_plainly old.original ≡ true → WithinLimits new → (b : Building) → Constructs old b →
    Constructs new (text_settled b)

-- and the token is to be reprocessed
pub record LeavesText (old new : TreeBuilder) (next : Next) : Type 0 where
  pub again : next ≡ Next.Again
  pub rule : SettlesText old new
