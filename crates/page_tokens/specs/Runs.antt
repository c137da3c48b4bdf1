-- Runs of characters that stand for themselves.
use Rattle.std.specs.Prelude.{◌≡◌, ℕ, Bool, true, not, ◌||◌, ◌==◌, List}
use Rattle.std.specs.List.{list_all, prefix_len}

-- the bytes that end a run of text: null, carriage return, `&` and `<`
abbrev pub ends_text : ℕ → Bool
ends_text b = b == 0 || b == 13 || b == 38 || b == 60

-- a text that contains none of these bytes
abbrev pub IsRun : List ℕ → Type 0
IsRun text = list_all (λ b. not (ends_text b)) text ≡ true

-- the bytes that end a tag name: null, tab, line feed, form feed, carriage return, space, `/` and `>`
abbrev pub ends_tag_name : ℕ → Bool
ends_tag_name b = b == 0 || b == 9 || b == 10 || b == 12 || b == 13 || b == 32 || b == 47 || b == 62

-- how many bytes come before the first that ends a tag name
abbrev pub tag_name_len_of : List ℕ → ℕ
tag_name_len_of text = prefix_len (λ b. not (ends_tag_name b)) text

-- tab, line feed, form feed and space
abbrev pub is_space_of : ℕ → Bool
is_space_of c = c == 9 || c == 10 || c == 12 || c == 32
