-- Lists: the prefixes and numbers of their items, and the indentation of the items.
use Rattle.std.specs.Prelude.{ℕ, ◌+◌, ◌-◌, ◌^◌, Bool, List, ◌++◌, codes, max, min, nat_lt, if◌then◌else◌, ⊤}
use Rattle.std.specs.Fmt.{decimal}
use Rattle.dom_md.specs.declared.context.ListKind.{ListKind}
use Rattle.dom_md.specs.declared.context.ListKind.TheVariants.{Ul, Ol}

-- an offset increased by `more`, at most the greatest 64-bit number
abbrev pub further : ℕ → ℕ → ℕ
further offset more = min (offset + more) (2 ^ 64 - 1)

-- how many decimal digits a number has, for numbers of at most ten digits
abbrev pub digit_count : ℕ → ℕ
digit_count n =
    if nat_lt n 10 then 1 else if nat_lt n 100 then 2 else if nat_lt n 1000 then 3 else if nat_lt n 10000 then 4 else if nat_lt n 100000 then 5
    else if nat_lt n 1000000 then 6 else if nat_lt n 10000000 then 7 else if nat_lt n 100000000 then 8 else if nat_lt n 1000000000 then 9 else 10

-- by how many columns the text of an item is indented relative to its list
abbrev pub kind_offset : ListKind → ℕ
kind_offset Ul = 4
kind_offset (Ol n) = max 4 (digit_count n + 2)

-- the list with the number of the next item, at most 999999999
abbrev pub advanced : ListKind → ListKind
advanced Ul = Ul
advanced (Ol n) = Ol (min (n + 1) 999999999)

-- a list whose items have numbers
abbrev pub HasNumbers : ListKind → Type 0
HasNumbers Ul = ⊥
HasNumbers (Ol _) = ⊤

-- the prefix of an item
abbrev pub prefix_of : ListKind → (cell : Bool) → List ℕ
prefix_of Ul cell = if cell then codes "+ " else codes "- "
prefix_of (Ol n) cell = decimal n ++ codes ". "

abbrev pub line_break : (cell : Bool) → List ℕ
line_break cell = if cell then codes "<br>" else codes "\n"
