-- Keys in the order of a list, with a set by which the last place of a key is found.
use Rattle.std.specs.Prelude.{◌≡◌, ◌==◌, ◌<◌, ◌≤◌, Bool, IfSome, List, None, Option, Some, [], ◌∷◌, if◌then◌else◌, false}
use Rattle.std.specs.Prelude.{length, map, reverse, slice_get, suc, true, ℕ}
use Rattle.std.specs.BTreeSet.{BTreeSet, contains}
use Rattle.std.specs.List.{AllByRecursion}
use Rattle.std.specs.Ordering.{nat_cmp, ordering_then}
use Rattle.std.specs.declared.cmp.Ordering.{Ordering}
use Rattle.page_trees.specs.declared.formatting.places.Ranked.{Ranked}

-- by key, and then by rank
abbrev pub pair_cmp : ℕ × ℕ → ℕ × ℕ → Ordering
pair_cmp one other = ordering_then (nat_cmp one.0 other.0) (nat_cmp one.1 other.1)

-- the key is in the set with that rank
abbrev pub has_rank : BTreeSet (ℕ × ℕ) → ℕ → ℕ → Bool
has_rank ranks key rank = contains pair_cmp ranks (key, rank)

abbrev pub NoneUpTo : BTreeSet (ℕ × ℕ) → ℕ → ℕ → Type 0
NoneUpTo ranks key bound = (rank : ℕ) → rank ≤ bound → has_rank ranks key rank ≡ false

-- no rank of the key is between this one and the bound
abbrev pub IsTopUpTo : BTreeSet (ℕ × ℕ) → ℕ → ℕ → ℕ → Type 0
IsTopUpTo ranks key bound top = (rank : ℕ) → rank ≤ bound → has_rank ranks key rank ≡ true → rank ≤ top

-- the ranks increase along the list
abbrev pub IsRising : List Ranked → Type 0
IsRising [] = Unit {0}
IsRising (row ∷ rows) = AllByRecursion (λ later. row.rank < later.rank) rows × IsRising rows

-- and each key is in the set with its rank
pub record AreRanked (rows : List Ranked) (ranks : BTreeSet (ℕ × ℕ)) : Type 0 where
  pub rising : IsRising rows
  pub known : AllByRecursion (λ row. has_rank ranks row.key row.rank ≡ true) rows

-- a rank for a new key at a place
abbrev pub FitsAt : List Ranked → ℕ → ℕ → Type 0
FitsAt rows place rank =
    ((before : ℕ) → suc before ≡ place → IfSome (slice_get rows before) (λ row. row.rank < rank))
    × IfSome (slice_get rows place) (λ row. rank < row.rank)

-- a key with that rank is there
pub record IsRowAt (rows : List Ranked) (key rank place : ℕ) : Type 0 where
  pub row : Ranked
  pub there : slice_get rows place ≡ Some row
  pub key_is : row.key ≡ key
  pub rank_is : row.rank ≡ rank

abbrev pub keys_of : List Ranked → List ℕ
keys_of rows = map (λ row. row.key) rows

-- the place of a key, in a list from its end on: as many keys come before it
abbrev pub key_from_end : ℕ → List ℕ → Option ℕ
key_from_end key [] = None
key_from_end key (k ∷ before) = if k == key then Some (length before) else key_from_end key before

-- the last place of a key
abbrev pub last_key : ℕ → List ℕ → Option ℕ
last_key key keys = key_from_end key (reverse keys)
