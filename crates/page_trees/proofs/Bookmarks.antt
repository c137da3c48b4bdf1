-- A copy of the formatting element is put into the list of active formatting elements at the bookmark.
use Rattle.std.proofs.Common.{◌≡◌, ℕ, ◌+◌, true, false, List, ◌∷◌, ◌++◌, filter, map, refl, sym, ap, ◌∙◌, length, Option, Some, None, subst, arith}
use Rattle.std.specs.Prelude.{insert, nat_eq, remove}
use Rattle.standard_trees.specs.Formatting.{at_bookmark, bookmarked, replaced_entry}
use Rattle.standard_trees.specs.GrowingTree.{Entry as StandardEntry, Formatting, GrowingTree}
use Rattle.standard_trees.specs.TreeStore.{Node, is_member}
use Rattle.page_trees.specs.Adopting.{IsIndexLeft, IsMarked, entry_place}
use Rattle.page_trees.specs.Listing.{lists_once}
use Rattle.page_trees.specs.Stands.{EntryStands, IsListOf}
use Rattle.page_trees.specs.declared.formatting.Entry.{Entry}
use Rattle.page_trees.specs.declared.growing.adopting.Bookmark.{Bookmark}
use Rattle.page_trees.specs.declared.stack.Open.{Open}
use Rattle.page_trees.proofs.EntryPlaces.{IsPlacedAt, entry_inserted, entry_removed, placed_at, still_placed}
use Rattle.page_trees.proofs.InnerLoop.{next_left, not_same}
use Rattle.page_trees.proofs.SplitLists.{bookmarked_one, exchanged_one, listed_replaced, listed_there, lists, neither, stays, unlisted_from, unlisted_in, unlisted_one}

-- the list once the copy has its place
abbrev pub list_at : Option ℕ → ℕ → ℕ → List StandardEntry → List StandardEntry
list_at None old new es = map (replaced_entry old new) es
list_at (Some mark) old new es = bookmarked new mark (filter (stays old) es)

pub bookmark_is : (mark : Option ℕ) (old new : ℕ) (t : GrowingTree) → at_bookmark mark old new t ≡ record t { listed = list_at mark old new t.listed }
bookmark_is None old new t = refl
bookmark_is (Some mark) old new t = refl

pub record IsBookmarked (nodes : List Node) (listed : List StandardEntry) (entries : List Entry) : Type 0 where
  pub list : IsListOf nodes listed entries
  pub once : lists_once listed ≡ true

-- what is known of the entry of the formatting element
record IsOnlyEntry (nodes : List Node) (listed : List StandardEntry) (entries : List Entry) (element gone new : ℕ) : Type 0 where
  pub at : IsPlacedAt element gone listed
  pub before : lists element at.front ≡ false
  pub behind : lists element at.back ≡ false
  pub others : lists_once (at.front ++ at.back) ≡ true
  pub new_before : lists new at.front ≡ false
  pub new_behind : lists new at.back ≡ false
  pub left : IsListOf nodes (at.front ++ at.back) (remove entries gone)

only_entry : (nodes : List Node) (listed : List StandardEntry) (entries : List Entry) (element gone new : ℕ) → IsListOf nodes listed entries → lists_once listed ≡ true →
    entry_place element listed ≡ Some gone → lists new listed ≡ false → IsOnlyEntry nodes listed entries element gone new
only_entry nodes listed entries element gone new is once found absent =
    let at = placed_at element gone listed found in
    let alone = listed_there element at.front at.back (ap lists_once (sym at.split) ∙ once) in
    let parts = unlisted_in new at.front (Formatting element ∷ at.back) (ap (lists new) (sym at.split) ∙ absent) in
    record {
      at = at;
      before = alone.before;
      behind = alone.behind;
      others = alone.others;
      new_before = parts.0;
      new_behind = (neither (nat_eq element new) (lists new at.back) parts.1).1;
      left = entry_removed nodes at.front (Formatting element) at.back entries gone (subst (λ (es : List StandardEntry). IsListOf nodes es entries) at.split is) at.long;
    }

at_element : (nodes : List Node) (listed : List StandardEntry) (entries : List Entry) (element gone left : ℕ) (copy : Open) → IsOnlyEntry nodes listed entries element gone copy.id → left ≡ gone →
    EntryStands nodes (Entry.Element copy) → IsBookmarked nodes (map (replaced_entry element copy.id) listed) (insert (remove entries gone) left (Entry.Element copy))
at_element nodes listed entries element gone left copy o e stands =
    let now : map (replaced_entry element copy.id) listed ≡ o.at.front ++ Formatting copy.id ∷ o.at.back =
    ap (λ (es : List StandardEntry). map (replaced_entry element copy.id) es) o.at.split ∙ exchanged_one element copy.id o.at.front o.at.back o.before o.behind in
    record {
      list = subst (λ (es : List StandardEntry). IsListOf nodes es (insert (remove entries gone) left (Entry.Element copy))) (sym now)
          (entry_inserted nodes o.at.front o.at.back (remove entries gone) left (Entry.Element copy) o.left (o.at.long ∙ sym e) stands);
      once = ap lists_once now ∙ listed_replaced copy.id o.at.front o.at.back o.new_before o.new_behind o.others;
    }

at_copy : (nodes : List Node) (listed : List StandardEntry) (entries : List Entry) (element gone left mark i : ℕ) (copy : Open) → IsOnlyEntry nodes listed entries element gone copy.id →
    entry_place mark (listed) ≡ Some i → nat_eq element mark ≡ false → IsIndexLeft gone (i + 1) left → EntryStands nodes (Entry.Element copy) →
    IsBookmarked nodes (bookmarked copy.id mark (filter (stays element) listed)) (insert (remove entries gone) left (Entry.Element copy))
at_copy nodes listed entries element gone left mark i copy o found other is_left stands =
    let still = still_placed mark i o.at.front (Formatting element) o.at.back other (ap (entry_place mark) (sym o.at.split) ∙ found) in
    let next = next_left (length o.at.back) i still.index left still.left still.other (subst (λ (k : ℕ). IsIndexLeft k (i + 1) left) (sym o.at.long) is_left) in
    let spot = placed_at mark still.index (o.at.front ++ o.at.back) still.placed in
    let long = spot.long in
    let now : bookmarked copy.id mark (filter (stays element) listed) ≡ spot.front ++ Formatting copy.id ∷ Formatting mark ∷ spot.back =
    ap (λ (es : List StandardEntry). bookmarked copy.id mark (filter (stays element) es)) o.at.split
    ∙ ap (bookmarked copy.id mark) (unlisted_one element o.at.front o.at.back o.before o.behind ∙ spot.split) ∙ bookmarked_one copy.id mark spot.front spot.back spot.before in
    let absent = unlisted_in copy.id spot.front (Formatting mark ∷ spot.back)
    (ap (lists copy.id) (sym spot.split) ∙ unlisted_from copy.id o.at.front o.at.back o.new_before o.new_behind) in
    record {
      list = subst (λ (es : List StandardEntry). IsListOf nodes es (insert (remove entries gone) left (Entry.Element copy))) (sym now)
          (entry_inserted nodes spot.front (Formatting mark ∷ spot.back) (remove entries gone) left (Entry.Element copy)
          (subst (λ (es : List StandardEntry). IsListOf nodes es (remove entries gone)) spot.split o.left) (omega (arith, long, next)) stands);
      once = ap lists_once now ∙ listed_replaced copy.id spot.front (Formatting mark ∷ spot.back) absent.0 absent.1 (ap lists_once (sym spot.split) ∙ o.others);
    }

pub bookmarked_list : (nodes : List Node) (listed : List StandardEntry) (entries : List Entry) (element gone left : ℕ) (opened : List ℕ) (mark : Option ℕ) (b : Bookmark) (copy : Open) → IsListOf nodes listed entries →
    lists_once listed ≡ true → entry_place element listed ≡ Some gone → IsMarked element opened mark b listed → is_member element opened ≡ false → IsIndexLeft gone b.index left →
    EntryStands nodes (Entry.Element copy) → lists copy.id listed ≡ false → IsBookmarked nodes (list_at mark element copy.id listed) (insert (remove entries gone) left (Entry.Element copy))
bookmarked_list nodes listed entries element gone left opened None b copy is once found marked apart is_left stands absent =
    let both : Some gone ≡ Some b.index = sym found ∙ marked.1 in
    let same : gone ≡ b.index = cc in
    at_element nodes listed entries element gone left copy (only_entry nodes listed entries element gone copy.id is once found absent) (is_left.1 (omega (arith, same)) ∙ sym same) stands
bookmarked_list nodes listed entries element gone left opened (Some m) b copy is once found marked apart is_left stands absent =
    at_copy nodes listed entries element gone left m marked.2.0 copy (only_entry nodes listed entries element gone copy.id is once found absent) marked.2.1
    (not_same element m opened marked.1 apart) (subst (λ (k : ℕ). IsIndexLeft gone k left) marked.2.2 is_left) stands
