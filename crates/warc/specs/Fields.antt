-- Fields of a head: names and values.
use Rattle.std.specs.Prelude.{ℕ, List, [], ◌∷◌, Bool, true, Option, ◌==◌, ◌||◌, ◌&&◌, drop, find, length, nat_le, take}
use Rattle.std.specs.Option.{option_map}
use Rattle.std.specs.Str.{str_eq_ignore_ascii_case}
use Rattle.httparse.specs.declared.Header.{Header}

-- the value of the first field with this name, whatever the case of its letters
abbrev pub value_of : List Header → List ℕ → Option (List ℕ)
value_of fields name = option_map (λ field. field.value.now) (find (λ field. str_eq_ignore_ascii_case field.name.now name) fields)

-- a word ends where the value does, and before `;`, a space, a tab and `,`
abbrev pub is_end : List ℕ → Bool
is_end [] = true
is_end (byte ∷ rest) = byte == 59 || byte == 32 || byte == 9 || byte == 44

-- the value begins with the word, whatever the case of its letters
abbrev pub begins_with_word : List ℕ → List ℕ → Bool
begins_with_word value word =
    nat_le (length word) (length value) && (str_eq_ignore_ascii_case (take (length word) value) word && is_end (drop (length word) value))
