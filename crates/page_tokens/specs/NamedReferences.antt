-- Named character references: how much of one was read, and what the longest matching name means.
use Rattle.std.specs.Prelude.{◌≡◌, ℕ, ◌<◌, Bool, not, List, [], ◌∷◌, ◌++◌, MatchOption, length, take, drop, Option, unwrap_or}
use Rattle.std.specs.Option.{option_map}
use Rattle.standard_tokens.specs.Machine.{ends_open, longest_name, value_of}
use Rattle.page_tokens.specs.declared.named_references.Names.{Names}
use Rattle.page_tokens.specs.declared.named_references.Value.{Value}
use Rattle.page_tokens.specs.NameTable.{characters_of, name_at, value_at, IsFrontOf}

-- the characters that were read
abbrev pub read_of : Names → List ℕ
read_of names = take names.place (name_at names.low)

-- no name starts with the text
abbrev pub BeginsNoName : List ℕ → Type 0
BeginsNoName text = (i : ℕ) → i < 2231 → IsFrontOf text (name_at i) → ⊥

-- the names that start with the text, or `None` if there are none
abbrev pub AreNamesFrom : List ℕ → Option Names → Type 0
AreNamesFrom text result = MatchOption result (BeginsNoName text) (λ names. read_of names ≡ text)

-- the text is a name, and `value` is what the name means
pub record IsValueOf (text : List ℕ) (value : Value) : Type 0 where
  pub number : ℕ
  pub known : number < 2231
  pub name : name_at number ≡ text
  pub stands_for : value ≡ value_at number

-- the text is not a name
abbrev pub IsNoName : List ℕ → Type 0
IsNoName text = (i : ℕ) → i < 2231 → name_at i ≡ text → ⊥

-- the longest name with which the text starts; it is empty if there is none
abbrev pub longest_in : List ℕ → List ℕ
longest_in text = unwrap_or (longest_name text) []

-- the characters after that name
abbrev pub after_name : List ℕ → List ℕ
after_name text = drop (length (longest_in text)) text

-- `value` is what the longest name with which the text starts means, or `None` if it starts with no name. The name ends in a semicolon if
-- `closed`.
pub record IsLongest (text : List ℕ) (value : Option Value) (closed : Bool) : Type 0 where
  pub means : option_map characters_of value ≡ option_map value_of (longest_name text)
  pub ends : closed ≡ not (ends_open (longest_in text))

-- After what was read comes the character `c`. Then the longest name is one of what was read, whatever follows.
abbrev pub IsSettled : List ℕ → ℕ → Type 0
IsSettled read c = (rest : List ℕ) → longest_name (read ++ c ∷ rest) ≡ longest_name read
