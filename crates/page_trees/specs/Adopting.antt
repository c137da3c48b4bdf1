-- Steps of the adoption agency algorithm (13.2.6.4.7) where there is a furthest block.
use Rattle.std.specs.Prelude.{◌≡◌, ◌+◌, ◌<◌, ◌≤◌, ◌++◌, Bool, List, None, Option, Some, [], ◌∷◌, codes, drop, false, if◌then◌else◌, length}
use Rattle.std.specs.Prelude.{map, nat_lt, not, reverse, slice_get, slice_set, take, true, ℕ}
use Rattle.std.specs.List.{list_any}
use Rattle.standard_trees.specs.Formatting.{Climb, adopted_by, at_bookmark, climb, copied, is_entry, stacked_below, wrapped}
use Rattle.standard_trees.specs.GrowingTree.{Entry as StandardEntry, GrowingTree, fresh, is_one, place_in, put, top}
use Rattle.standard_trees.specs.TreeStore.{is_member, without}
use Rattle.page_trees.specs.Formatting.{is_of, last_place}
use Rattle.page_trees.specs.Listing.{LeadsTo}
use Rattle.page_trees.specs.Reopening.{copy_open}
use Rattle.page_trees.specs.SameNodes.{with_copy_around}
use Rattle.page_trees.specs.Sets.{ends_scope}
use Rattle.page_trees.specs.Stands.{Builds, EntryStands}
use Rattle.page_trees.specs.TreeState.{TreeState}
use Rattle.page_trees.specs.declared.formatting.Entry.{Entry}
use Rattle.page_trees.specs.declared.growing.adopting.Bookmark.{Bookmark}
use Rattle.page_trees.specs.declared.stack.Open.{Open}

-- the numbers of open elements, the last one first
abbrev pub ids_of : List Open → List ℕ
ids_of elements = map (λ o. o.id) (reverse elements)

-- elements that are neither templates nor tables
abbrev pub ArePassed : GrowingTree → List ℕ → Type 0
ArePassed t [] = Unit {0}
ArePassed t (n ∷ ns) = (is_one t (codes "template" ∷ []) n ≡ false) × (is_one t (codes "table" ∷ []) n ≡ false) × ArePassed t ns

-- "insert last node at the appropriate place for inserting a node, but using common ancestor as the override target": the element after
-- an index of the stack, with the one before that index as the common ancestor
abbrev pub PutsBelow : ℕ → Bool → TreeState → TreeState → Type 0
PutsBelow place foster old new =
    (last : Open) → slice_get old.stack (place + 1) ≡ Some last → (t : GrowingTree) → ArePassed t (ids_of (drop place old.stack)) →
    t.fostering ≡ foster → Builds old t → Builds new (put last.id (place_in t (top (ids_of (take place old.stack)))) t)

-- the last entry of the element with an id is at this index
abbrev pub FindsAt : ℕ → ℕ → List Entry → Type 0
FindsAt id index entries = Some index ≡ last_place (is_of id) entries

-- an index of a list once the entry at another one is removed
abbrev pub IsIndexLeft : ℕ → ℕ → ℕ → Type 0
IsIndexLeft gone index left = (gone < index → left + 1 ≡ index) × (index ≤ gone → left ≡ index)

-- ---- the inner loop

-- The stack of open elements in the inner loop, from the outermost element on: behind the formatting element are those that the loop has
-- not come to, the copies that it made, and the furthest block.
pub record Ladder : Type 0 where
  pub low : List Open
  pub element : Open
  pub mid : List Open
  pub copies : List Open
  pub block : Open
  pub up : List Open

-- the elements behind those that the loop has not come to
abbrev pub above : Ladder → List Open
above l = l.copies ++ l.block ∷ l.up

abbrev pub rungs : Ladder → List Open
rungs l = (l.low ++ l.element ∷ l.mid) ++ above l

-- the last node
abbrev pub last_in : List Open → Open → Open
last_in [] block = block
last_in (copy ∷ copies) block = copy

-- how many entries are older than the one of an element
abbrev pub entry_place : ℕ → List StandardEntry → Option ℕ
entry_place n [] = None
entry_place n (entry ∷ older) = if is_entry n entry then Some (length older) else entry_place n older

-- the bookmark: where the formatting element is, or just behind the first copy
abbrev pub IsMarked : ℕ → List ℕ → Option ℕ → Bookmark → List StandardEntry → Type 0
IsMarked element opened None b listed = (b.renewed ≡ false) × (entry_place element listed ≡ Some b.index)
IsMarked element opened (Some n) b listed =
    (b.renewed ≡ true) × (is_member n opened ≡ true) × ((i : ℕ) × (entry_place n listed ≡ Some i) × (b.index ≡ i + 1))

-- the state is that of the definition in the inner loop, which began with tree t
pub record IsClimbing (place : ℕ) (b : Bookmark) (s : TreeState) (t : GrowingTree) (l : Ladder) (c : Climb) : Type 0 where
  pub leads : LeadsTo t c.tree s
  pub stack : s.stack ≡ rungs l
  pub long : length l.low ≡ place
  pub last : (last_in l.copies l.block).id ≡ c.last
  pub stands : EntryStands c.tree.nodes (Entry.Element l.element)
  pub index : ℕ
  pub listed : entry_place l.element.id c.tree.listed ≡ Some index
  pub mark : IsMarked l.element.id (ids_of (above l)) c.mark b c.tree.listed
  pub inside : list_any ends_scope (l.mid ++ above l) ≡ false

-- copies were made of some of so many elements
pub record IsPassed (place count : ℕ) (b : Bookmark) (s : TreeState) (t : GrowingTree) (l : Ladder) (c : Climb) : Type 0 where
  pub copies : List Open
  pub less : length copies ≤ length l.copies + count
  pub climbing : IsClimbing place b s t (record l { copies = copies }) c

-- where an element of the list of active formatting elements is on the stack, a copy of it takes the element behind it, and its places
pub record IsRenewed (place index : ℕ) (old new : TreeState) (node last : Open) (t : GrowingTree) : Type 0 where
  pub copy : Open
  pub shape : copy ≡ copy_open node (fresh t)
  pub stands : EntryStands (with_copy_around node.id last.id t.nodes) (Entry.Element copy)
  pub alike : (o : Open) → EntryStands t.nodes (Entry.Element o) →
      EntryStands (with_copy_around node.id last.id t.nodes) (Entry.Element o)
  pub built : Builds (record old { forest = new.forest }) (record t { nodes = with_copy_around node.id last.id t.nodes })
  pub result : new ≡ record old {
    forest = new.forest;
    stack = slice_set old.stack place copy;
    formatting = slice_set old.formatting index (Entry.Element copy);
  }

abbrev pub Renews : ℕ → ℕ → TreeState → TreeState → Type 0
Renews place index old new =
    (node last : Open) → slice_get old.stack place ≡ Some node → slice_get old.stack (place + 1) ≡ Some last →
    (t : GrowingTree) → EntryStands t.nodes (Entry.Element node) → Builds old t → IsRenewed place index old new node last t

-- the inner loop once, for the element at an index of the stack
abbrev pub Passes : ℕ → Bool → Bookmark → Bookmark → TreeState → TreeState → Type 0
Passes index near b after old new =
    (place round : ℕ) (t : GrowingTree) (l : Ladder) (node : Open) (c : Climb) → near ≡ not (nat_lt 3 round) →
    IsClimbing place b old t (record l { mid = l.mid ++ node ∷ [] }) c → index ≡ place + length l.mid + 1 →
    IsPassed place 1 after new t l (climb (node.id ∷ []) round c.last c.mark c.tree)

-- the inner loop starts with the furthest block as the last node
abbrev pub Starts : ℕ → ℕ → Bookmark → TreeState → GrowingTree → Ladder → Type 0
Starts place furthest b s t l =
    IsClimbing place b s t l (record { tree = t; last = l.block.id; mark = None }) ×
    (l.copies ≡ []) × (furthest ≡ place + length l.mid + 1)

abbrev pub climbed : Ladder → GrowingTree → Climb
climbed l t = climb (ids_of l.mid) 1 l.block.id None t

-- the inner loop
abbrev pub Climbs : ℕ → ℕ → Bookmark → Bookmark → TreeState → TreeState → Type 0
Climbs place furthest b after old new =
    (t : GrowingTree) (l : Ladder) → Starts place furthest b old t l →
    IsPassed place (length l.mid) after new t (record l { mid = [] }) (climbed l t)

-- ---- the outer loop

-- "create an element for the token for which formatting element was created; take all of the child nodes of furthest block and append
-- them to the new element", and what follows there
abbrev pub with_children_adopted : Option ℕ → ℕ → ℕ → GrowingTree → GrowingTree
with_children_adopted mark element block t =
    let new : ℕ = fresh t in
    let listed : GrowingTree = at_bookmark mark element new (wrapped block new (copied element t)) in
    record listed { stack = stacked_below new block (without element listed.stack) }

abbrev pub AdoptsChildren : ℕ → ℕ → Bookmark → TreeState → TreeState → Type 0
AdoptsChildren place furthest b old new =
    (t : GrowingTree) (l : Ladder) (c : Climb) → IsClimbing place b old t l c → l.mid ≡ [] → furthest ≡ place + length l.copies + 1 →
    LeadsTo t (with_children_adopted c.mark l.element.id l.block.id c.tree) new

-- what the outer loop does once where there is a furthest block
abbrev pub AdoptsOnce : ℕ → ℕ → Bookmark → Bool → TreeState → TreeState → Type 0
AdoptsOnce place furthest b foster old new =
    (t : GrowingTree) (l : Ladder) → Starts place furthest b old t l → t.fostering ≡ foster →
    LeadsTo t (adopted_by l.element.id l.block.id (climbed l t)) new
