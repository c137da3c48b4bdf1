-- The text of nodes.
use Rattle.std.specs.Prelude.{ℕ, ◌≡◌, ◌+◌, ◌-◌, ◌^◌, nat_lt, min, Bool, true, false, List, [], ◌∷◌, slice_get, length, if◌then◌else◌}
use Rattle.std.specs.Char.{is_whitespace}
use Rattle.std.specs.List.{flat_map}
use Rattle.std.specs.Option.{option_map_or}
use Rattle.std.specs.Str.{chars}
use Rattle.dom_nodes.specs.Ascii.{space}
use Rattle.dom_nodes.specs.declared.node_data.NodeData.{NodeData}
use Rattle.dom_nodes.specs.declared.node_data.NodeData.TheVariants.{Text}
use Rattle.dom_links.specs.Forest.{Forest, children_of}
use Rattle.dom_links.specs.Trees.{descendants_in_order}

-- The contents of a text node; nothing for other nodes.
abbrev pub text_in : NodeData → List ℕ
text_in (Text contents) = contents
text_in _ = []

-- The contents of node n if it is a text; otherwise nothing.
abbrev pub text_at : Forest → ℕ → List ℕ
text_at forest n = option_map_or text_in (slice_get forest.content n) []

-- The text of n: the contents of all texts in its subtree, in document order, joined; nothing for
-- an unknown id.
abbrev pub text_of : Forest → ℕ → List ℕ
text_of forest n = flat_map (text_at forest) (n ∷ descendants_in_order forest n)

-- The contents of the texts among n and its children, joined.
abbrev pub immediate_text_of : Forest → ℕ → List ℕ
immediate_text_of forest n = flat_map (text_at forest) (n ∷ children_of forest n)

-- The rest of a collapsed text: white space before a further character becomes one space, and white
-- space at the end is dropped. `begun` is true after a character, and `gap` after white space
-- behind a character.
abbrev pub collapsed_on : (begun gap : Bool) → List ℕ → List ℕ
collapsed_on begun gap [] = []
collapsed_on begun gap (c ∷ cs) =
    if is_whitespace c then collapsed_on begun begun cs
    else if gap then space ∷ c ∷ collapsed_on true false cs
    else c ∷ collapsed_on true false cs

-- The characters of a text with each sequence of white space as one space, and none at the ends.
abbrev pub collapsed : List ℕ → List ℕ
collapsed text = collapsed_on false false (chars text)

-- A count in 64 bits: larger counts become the largest number.
abbrev pub saturated : ℕ → ℕ
saturated count = min count (2 ^ 64 - 1)

-- The state of a count: `count` characters of a collapsed text were counted, and the bytes `left`
-- make it up to `total`. `gap` is true after white space.
pub record IsCounting (count : ℕ) (gap : Bool) (left : List ℕ) (total : ℕ) : Type 0 where
  pub exact : ℕ
  pub is_saturated : count ≡ saturated exact
  pub makes : exact + length (collapsed_on (nat_lt 0 exact) gap (chars left)) ≡ total
