-- How the escaper splits a text at the first character that it must replace by a named character reference.
use Rattle.std.specs.Prelude.{◌≡◌, ℕ, ◌+◌, ◌<◌, List, ◌++◌, length, take, drop, Option, MatchOption}
use Rattle.dom_markup.specs.declared.escaping.Named.{Named}

-- The escaped text is the part before the character, with no-break spaces escaped, then the reference, then the escaped rest.
pub record IsCut (written plain : List ℕ → List ℕ) (text : List ℕ) (named : Named) : Type 0 where
  pub whole : written text ≡ plain named.before.now ++ (named.name.now ++ written named.after.now)
  pub shorter : length named.after.now < length text

-- the text is split at one byte, and `name` is what is written for that byte
pub record IsCutAt (text : List ℕ) (at : ℕ) (name : List ℕ) (named : Named) : Type 0 where
  pub before : named.before.now ≡ take at text
  pub name_is : named.name.now ≡ name
  pub after : named.after.now ≡ drop (at + 1) text

-- the text is split at its first character that must be escaped, or has none
abbrev pub Cuts : (written plain : List ℕ → List ℕ) → List ℕ → Option Named → Type 0
Cuts written plain text result = MatchOption result (written text ≡ plain text) (λ named. IsCut written plain text named)
