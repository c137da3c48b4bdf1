-- The numbers of element names that are not in `Name`. The search index of the stack of open elements tells such names apart by them.
use Rattle.std.specs.Prelude.{◌≡◌, ◌<◌, List, Option, Some, String, encode_utf8_all, length, map, string_bytes, ℕ}
use Rattle.std.specs.List.{All}
use Rattle.std.specs.Map.{lookup}
use Rattle.std.specs.Str.{bytes_eq}
use Rattle.standard_trees.specs.GrowingTree.{lower}
use Rattle.standard_trees.specs.TreeStore.{Kind, Node, local_in, node_at}
use Rattle.page_trees.specs.declared.name.Name.{Name}
use Rattle.page_trees.specs.declared.stack.Open.{Open}

-- the names, in UTF-8, with their numbers
abbrev pub numbers_of : {A : Type 0} → List (String A × ℕ) → List (List ℕ × ℕ)
numbers_of entries = map (λ entry. (string_bytes entry.0, entry.1)) entries

-- the number of a name, if it has one
abbrev pub number_in : List (List ℕ × ℕ) → List ℕ → Option ℕ
number_in numbers name = lookup (bytes_eq name) numbers

-- No two names have the same number, and the next number is that of no name.
pub record AreApart (numbers : List (List ℕ × ℕ)) : Type 0 where
  pub below : (name : List ℕ) (n : ℕ) → number_in numbers name ≡ Some n → n < length numbers
  pub once : (name other : List ℕ) (n : ℕ) → number_in numbers name ≡ Some n → number_in numbers other ≡ Some n → name ≡ other

-- The name has this number, if it is not in `Name`, and the names before have their numbers still.
pub record IsNumberFor (name : Name) (written : List ℕ) (number : ℕ) (old new : List (List ℕ × ℕ)) : Type 0 where
  pub here : name ≡ Name.Other → number_in new written ≡ Some number
  pub kept : (other : List ℕ) (n : ℕ) → number_in old other ≡ Some n → number_in new other ≡ Some n
  pub apart : AreApart old → AreApart new

-- if the name of an open element is not in `Name`, the element has its number
abbrev pub IsNumbered : List (List ℕ × ℕ) → Open → Kind → Type 0
IsNumbered numbers o element = o.name ≡ Name.Other → number_in numbers (encode_utf8_all (lower (local_in element))) ≡ Some o.number

-- The numbers tell the names of the open elements apart.
pub record AreNumbered (numbers : List (List ℕ × ℕ)) (nodes : List Node) (stack : List Open) : Type 0 where
  pub apart : AreApart numbers
  pub elements : All (λ o. IsNumbered numbers o (node_at nodes o.id).kind) stack
