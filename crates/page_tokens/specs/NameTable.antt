-- The table of named character references: its names, and which of them start with a given text.
use Rattle.std.specs.Prelude.{◌≡◌, ℕ, zero, suc, ◌+◌, ◌<◌, ◌≤◌, ◌↔◌, List, [], ◌∷◌, length, take, slice_index, slice_range, Option, None}
use Rattle.std.specs.Prelude.{Some}
use Rattle.std.specs.Option.{option_map_or}
use Rattle.page_tokens.specs.declared.named_references.Value.{Value}
use Rattle.page_tokens.specs.declared.named_references.table.TheConstants.{LETTERS, STARTS, FIRSTS, SECONDS}

-- the name at an index of the table
unfoldable pub name_at : ℕ → List ℕ
name_at i = slice_range LETTERS (slice_index STARTS i) (slice_index STARTS (i + 1))

-- the second character of a reference, if it means two
abbrev pub second_of : ℕ → Option ℕ
second_of zero = None
second_of (suc n) = Some (suc n)

-- the characters that the name at an index means
unfoldable pub value_at : ℕ → Value
value_at i = record { first = slice_index FIRSTS i; second = second_of (slice_index SECONDS i) }

-- the one or two characters of a value
abbrev pub characters_of : Value → List ℕ
characters_of value = value.first ∷ option_map_or (λ c. c ∷ []) value.second []

-- the text starts with `front`
abbrev pub IsFrontOf : List ℕ → List ℕ → Type 0
IsFrontOf front text = take (length front) text ≡ front

-- The names at the indexes from `low` up to, not including, `high` are those that start with the first `place` characters of name
-- `low`.
pub record AreNames (low high place : ℕ) : Type 0 where
  pub some : low < high
  pub within : high ≤ 2231
  pub read : place ≤ length (name_at low)
  pub exactly : (i : ℕ) → i < 2231 → IsFrontOf (take place (name_at low)) (name_at i) ↔ ((low ≤ i) × (i < high))

-- one more than the character at a position of a text, and 0 after its end
abbrev pub rank_at : ℕ → List ℕ → ℕ
rank_at place [] = 0
rank_at zero (x ∷ xs) = suc x
rank_at (suc place) (x ∷ xs) = rank_at place xs

-- Of the names from `low` up to `high`, those before `index` end at the position or have a character less than the letter there;
-- the others have the letter or a greater one.
pub record ArePartedAt (low high place letter index : ℕ) : Type 0 where
  pub from : low ≤ index
  pub within : index ≤ high
  pub below : (i : ℕ) → low ≤ i → i < index → rank_at place (name_at i) ≤ letter
  pub above : (i : ℕ) → index ≤ i → i < high → letter < rank_at place (name_at i)
