-- How a sequence of words is written.
use Rattle.std.specs.Prelude.{◌≡◌, ◌<◌, ◌+◌, ℕ, ◌==◌, ◌&&◌, ◌||◌, not, Bool, false, List, MatchOption, Option, [], ◌∷◌, ◌++◌, length, take, drop, slice_index_or, if◌then◌else◌}
use Rattle.std.specs.Char.{is_ascii_whitespace}
use Rattle.dom_nodes.specs.Ascii.{backslash, caret, delete, exclamation_mark, space}
use Rattle.dom_md.specs.Chunks.{is_mark, is_marked}
use Rattle.dom_md.specs.declared.serializer.words.Change.{Change}

-- the first byte exists and is not whitespace
abbrev pub begins_word : List ℕ → Bool
begins_word [] = false
begins_word (b ∷ text) = not (is_ascii_whitespace b)

-- the byte is not written unchanged: it is whitespace, except a single space before a word, or, with `escape`, it needs a
-- backslash
abbrev pub is_changed : (escape : Bool) → ℕ → List ℕ → Bool
is_changed escape b text = if is_ascii_whitespace b then not (b == space && begins_word text) else (escape && is_marked b text)

-- a mark, `!`, `^`, `{`, `}` or the byte 127
abbrev pub is_special : ℕ → Bool
is_special b = (is_mark b || b == exclamation_mark) || (b == caret || b == 123 || b == 125 || b == delete)

-- what is written for a byte that is not written unchanged: a mark after a backslash; one space for whitespace before a word,
-- else nothing
abbrev pub change_of : (changed text : List ℕ) → List ℕ
change_of changed text = if begins_word changed then backslash ∷ changed else if begins_word text then space ∷ [] else []

-- the text with one space for each run of whitespace before a word and none at its end, and, with `escape`, a backslash before
-- each byte that needs one
abbrev pub written : (escape : Bool) → List ℕ → List ℕ
written escape [] = []
written escape (b ∷ text) = if is_changed escape b text then change_of (b ∷ []) text ++ written escape text else b ∷ written escape text

-- the first byte that is not written unchanged is at this index
pub record IsFirstChange (escape : Bool) (text : List ℕ) (at : ℕ) : Type 0 where
  pub within : at < length text
  pub ascii : slice_index_or text at 0 < 128
  pub whole : written escape text ≡ take at text ++ (change_of (slice_index_or text at 0 ∷ []) (drop (at + 1) text) ++ written escape (drop (at + 1) text))

-- the text is split at that byte
pub record CutsChange (escape : Bool) (text before changed after : List ℕ) : Type 0 where
  pub whole : written escape text ≡ before ++ (change_of changed after ++ written escape after)
  pub shorter : length after < length text

-- the text is split there, or all of it is written unchanged
abbrev pub CutsFirstChange : Bool → List ℕ → Option Change → Type 0
CutsFirstChange escape text result =
    MatchOption result (written escape text ≡ text) (λ cut. CutsChange escape text cut.before.now cut.changed.now cut.after.now)
