-- "Reconstruct the active formatting elements" (13.2.4.3): which of them are open, and what is inserted for the others.
use Rattle.std.specs.Prelude.{ℕ, zero, suc, ◌≡◌, ◌≤◌, Bool, false, ◌&&◌, eqb, not, None, Option, Some}
use Rattle.std.specs.Prelude.{All, List, [], ◌∷◌, ◌++◌, length, map}
use Rattle.std.specs.List.{list_any}
use Rattle.standard_trees.specs.Formatting.{reopened}
use Rattle.standard_trees.specs.GrowingTree.{GrowingTree}
use Rattle.page_trees.specs.Scopes.{is_named}
use Rattle.page_trees.specs.Stands.{Builds, EntryStands}
use Rattle.page_trees.specs.TreeState.{TreeState}
use Rattle.page_trees.specs.declared.formatting.Entry.{Entry}
use Rattle.page_trees.specs.declared.growing.placing.Placing.{Placing}
use Rattle.page_trees.specs.declared.name.Name.{Name}
use Rattle.page_trees.specs.declared.stack.Open.{Open}

-- the HTML element with that name and id
abbrev pub is_this : Name → ℕ → Open → Bool
is_this name id o = is_named name o && eqb o.id id

-- the index of a position, which is one more; position 0 has none
abbrev pub index_at : ℕ → Option ℕ
index_at zero = None
index_at (suc n) = Some n

-- an entry is an element that is not open
abbrev pub is_closed : List Open → Entry → Bool
is_closed stack Entry.Marker = false
is_closed stack (Entry.Element o) = not (list_any (is_this o.name o.id) stack)

abbrev pub stays : List Open → Entry → Bool
stays stack entry = not (is_closed stack entry)

-- a copy of an element as an open element with this id
abbrev pub copy_open : Open → ℕ → Open
copy_open o id = record { id = id; ns = o.ns; name = o.name; number = o.number; holds_html = false }

abbrev pub with_entries : List Entry → TreeState → TreeState
with_entries entries s = record s { formatting = entries }

abbrev pub entries_for : List Open → List Entry
entries_for elements = map (λ o. Entry.Element o) elements

-- an element for the token of `o` was inserted, and has the entry after these; the elements behind it stay
pub record HasReopened (before : List Entry) (o : Open) (closed : List Open) (new : TreeState) (t : GrowingTree) : Type 0 where
  pub copy : Open
  pub listed : new.formatting ≡ before ++ Entry.Element copy ∷ entries_for closed
  pub built : Builds (with_entries (before ++ Entry.Element copy ∷ []) new) (reopened (o.id ∷ []) t)
  pub stand : All (EntryStands (reopened (o.id ∷ []) t).nodes) (entries_for closed)

-- where the list up to an entry is that of the definition, and all behind it are elements that are not open: the next is made anew
abbrev pub Reopens : Placing → ℕ → TreeState → TreeState → Type 0
Reopens placing index old new =
    (before : List Entry) (o : Open) (closed : List Open) → old.formatting ≡ before ++ Entry.Element o ∷ entries_for closed →
    index ≡ length before → placing.in_head ≡ false → length new.stack ≤ placing.max_depth → (t : GrowingTree) →
    t.fostering ≡ placing.foster → Builds (with_entries before old) t → All (EntryStands t.nodes) (entries_for (o ∷ closed)) →
    HasReopened before o closed new t
