-- Where the code inserts no characters (13.2.6.1): in the Document, which is the root of the tree.
use Rattle.std.specs.Prelude.{Bool, ◌==◌, false, ℕ}
use Rattle.std.specs.Option.{option_map_or}
use Rattle.dom_links.specs.Forest.{Forest, parent}
use Rattle.dom_links.specs.declared.gap.InsertionPoint.{InsertionPoint}
use Rattle.dom_links.specs.declared.gap.InsertionPoint.TheVariants.{Before, EndOf}

abbrev pub is_zero : ℕ → Bool
is_zero n = n == 0

-- an insertion point at the end of the root's children, or before one of them
abbrev pub is_in_root : Forest → InsertionPoint → Bool
is_in_root forest (EndOf n) = n == 0
is_in_root forest (Before n) = option_map_or is_zero (parent forest n) false
is_in_root forest _ = false
