-- Names that are read again as they are written: those that the tokenizer of the HTML Standard can read.
use Rattle.std.specs.Prelude.{ℕ, ◌==◌, ◌&&◌, ◌||◌, Bool, false, not, nat_lt, List, [], ◌∷◌}
use Rattle.std.specs.List.{list_all}

-- ASCII whitespace, 0, / and >: each ends a name, or can't stand in one
abbrev pub ends_name : ℕ → Bool
ends_name b = ((b == 9 || b == 10) || (b == 12 || b == 13)) || ((b == 32 || b == 0) || (b == 47 || b == 62))

abbrev pub is_element_byte : ℕ → Bool
is_element_byte b = not (ends_name b)

-- The name of an attribute ends before = as well
abbrev pub is_attribute_byte : ℕ → Bool
is_attribute_byte b = not (ends_name b || b == 61)

abbrev pub is_letter : ℕ → Bool
is_letter b = (nat_lt 64 b && nat_lt b 91) || (nat_lt 96 b && nat_lt b 123)

abbrev pub begins_with_letter : List ℕ → Bool
begins_with_letter [] = false
begins_with_letter (b ∷ name) = is_letter b

-- A name of an element: a letter of ASCII, and then bytes that don't end it
abbrev pub is_element_name : List ℕ → Bool
is_element_name name = begins_with_letter name && list_all is_element_byte name

-- A name of an attribute: at least one byte, and none that ends it
abbrev pub is_attribute_name : List ℕ → Bool
is_attribute_name [] = false
is_attribute_name (b ∷ name) = list_all is_attribute_byte (b ∷ name)
