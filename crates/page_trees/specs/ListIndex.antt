-- The index of the list of active formatting elements.
use Rattle.std.specs.Prelude.{◌≡◌, ◌<◌, ◌≤◌, IfSome, List, None, Option, Some, if◌then◌else◌, length, map, nat_lt, ℕ}
use Rattle.std.specs.Option.{option_and_then, option_map}
use Rattle.dom_links.specs.Forest.{Forest}
use Rattle.page_trees.specs.Likeness.{AreKeysOf, HasNumber, Likes}
use Rattle.page_trees.specs.NameNumbers.{numbers_of}
use Rattle.page_trees.specs.KeyPlaces.{last_key}
use denote.Enum.Declared.{tag_of}
use Rattle.page_trees.specs.contracts.name.Name.{the_type}
use Rattle.page_trees.specs.declared.formatting.Entry.{Entry}
use Rattle.page_trees.specs.declared.formatting.Entry.TheVariants.{Element as AnEntry, Marker}
use Rattle.page_trees.specs.declared.formatting.index.FormattingIndex.{FormattingIndex}

-- the key of a marker, which is neither an id nor the number of a name
abbrev pub marker_key : ℕ
marker_key = 4294967295

abbrev pub id_key : Entry → ℕ
id_key Marker = marker_key
id_key (AnEntry o) = o.id

abbrev pub name_key : Entry → ℕ
name_key Marker = marker_key
name_key (AnEntry o) = tag_of the_type o.name

-- the place is in each list of keys, or at its end
pub record IsPlaceIn (index : FormattingIndex) (place : ℕ) : Type 0 where
  pub ids : place ≤ length index.ids
  pub names : place ≤ length index.names
  pub likes : place ≤ length index.likes

-- an entry is in each of them at the place
pub record IsEntryIn (index : FormattingIndex) (place : ℕ) : Type 0 where
  pub ids : place < length index.ids
  pub names : place < length index.names
  pub likes : place < length index.likes

-- the index has the ids and the names of these entries
pub record AreIndexed (entries : List Entry) (index : FormattingIndex) : Type 0 where
  pub ids : index.ids ≡ map id_key entries
  pub names : index.names ≡ map name_key entries
  pub likes : length index.likes ≡ length entries

-- the index of a long list, if it has one
abbrev pub IsIndexOf : List Entry → Option FormattingIndex → Type 0
IsIndexOf entries index = IfSome index (AreIndexed entries)

-- a place, unless a marker comes after it
abbrev pub after_marker : ℕ → Option ℕ → Option ℕ
after_marker place None = Some place
after_marker place (Some marker) = if nat_lt place marker then None else Some place

-- the last place of a name after the last marker
abbrev pub last_after_marker : ℕ → List ℕ → Option ℕ
last_after_marker key keys = option_and_then (λ place. after_marker place (last_key marker_key keys)) (last_key key keys)

-- the last place of a key, unless a marker comes after it
abbrev pub last_like : ℕ → List ℕ → List ℕ → Option ℕ
last_like key keys names = option_and_then (λ place. after_marker place (last_key marker_key names)) (last_key key keys)

-- what an index knows of which elements are like others
abbrev pub likes_in : FormattingIndex → Likes
likes_in index = record { keys = index.likes; numbers = numbers_of index.numbers.entries }

abbrev pub likes_of : Option FormattingIndex → Option Likes
likes_of index = option_map likes_in index

-- what the index of these entries needs to find those that are like an element: the numbers of the entries and of the element are right
pub record FindsLikes (forest : Forest) (id number : ℕ) (entries : List Entry) (index : FormattingIndex) : Type 0 where
  pub indexed : AreIndexed entries index
  pub keys : AreKeysOf forest (likes_in index).numbers entries index.likes
  pub element : HasNumber forest (likes_in index).numbers id number
