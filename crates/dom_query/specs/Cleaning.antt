-- What the script line `sanitize` does.
use Rattle.std.specs.Prelude.{ℕ, List, [], slice_index_or}
use Rattle.dom_links.specs.Forest.{Forest}
use Rattle.dom_links.specs.Sound.{IsForest}
use Rattle.dom_sanitize.specs.Clean.{Cleaned, Lists}
use Rattle.dom_script.specs.NameLists.{listed_in, lists_in}

-- The names in the list at index n; none if there is no such list.
abbrev pub list_at : ℕ → List ℕ → List (List ℕ)
list_at n text = listed_in (slice_index_or (lists_in text) n [])

-- The lists of a sanitizer from the argument of the line: the elements and the attributes that
-- stay, and the elements that are dropped.
abbrev pub allow_of : List ℕ → Lists
allow_of text = record { elements = list_at 0 text; attrs = list_at 1 text; drop = list_at 2 text }

-- The new forest is the old one, sanitized.
pub record IsCleaned (allow : Lists) (old new : Forest) : Type 0 where
  pub was : IsForest old
  pub is : IsForest new
  pub cleaned : Cleaned allow old new
