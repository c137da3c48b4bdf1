-- The table of known names, which are stored by their index.
use Rattle.std.specs.Prelude.{ℕ, ◌+◌, ◌-◌, ◌*◌, ◌%◌, ◌<◌, ◌≡◌, List, take, drop, get_or}
use Rattle.dom_nodes.specs.declared.name.known.TheConstants.{LETTERS, MOVES, STARTS}

-- The offset in LETTERS at which the name with this index begins and the one before it ends.
abbrev pub start : ℕ → ℕ
start number = get_or STARTS number 0

-- The bytes of the known name with this index.
unfoldable pub known_name : ℕ → List ℕ
known_name number = take (start (number + 1) - start number) (drop (start number) LETTERS)

-- The number is the index of the name.
abbrev pub HasNumber : List ℕ → ℕ → Type 0
HasNumber name number = (number < 247) × (known_name number ≡ name)

-- The name isn't in the table.
abbrev pub IsUnknown : List ℕ → Type 0
IsUnknown name = (number : ℕ) → HasNumber name number → ⊥

-- The hash slot of a name, from its length and its first, middle and last letter. A known name can
-- be in no other slot.
unfoldable pub slot : ℕ → ℕ → ℕ → ℕ → ℕ
slot length first middle last =
    (8 * middle + last + get_or MOVES ((length + 4 * first) % 128) 0) % 512
