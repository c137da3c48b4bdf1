-- The named character references of this tokenizer, and those of the definition.
use Rattle.std.specs.Prelude.{◌≡◌, ◌<◌, ℕ, [], length, get_or}
use Rattle.page_tokens.specs.NameTable.{characters_of, name_at, value_at}
use Rattle.standard_tokens.specs.NamedReferences.{NamedReference, named_references}

-- a name by its number, and its characters
abbrev pub reference_at : ℕ → NamedReference
reference_at i = record { name = name_at i; characters = characters_of (value_at i) }

abbrev pub no_reference : NamedReference
no_reference = record { name = []; characters = [] }

-- the two tables hold the same names for the same characters, in the same order
abbrev pub TablesAreTheSame : Type 0
TablesAreTheSame = (length named_references ≡ 2231) × ((i : ℕ) → i < 2231 → get_or named_references i no_reference ≡ reference_at i)
