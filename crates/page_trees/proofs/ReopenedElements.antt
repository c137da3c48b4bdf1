-- The active formatting elements are reconstructed one after the other.
use Rattle.std.proofs.Common.{◌≡◌, ℕ, ◌<◌, ◌≤◌, ◌+◌, Option, arith, suc, zero, ◌&&◌, true, false, List, [], ◌∷◌, ◌++◌, map, reverse, refl, sym, ap, ◌∙◌, length, Some, None, subst, codes}
use Rattle.std.specs.Prelude.{All, IfSome, slice_get, slice_set}
use Rattle.std.specs.Option.{option_and_then}
use Rattle.std.proofs.lemmas.List.{length_push, reverse-append}
use Rattle.std.proofs.lemmas.List.Elements.{All-append, All-cons, All-head, All-nil, All-push, All-tail}
use Rattle.dom_links.specs.Forest.{Forest}
use Rattle.dom_links.specs.Sound.{IsForest, IsOpenGap}
use Rattle.dom_links.specs.declared.gap.InsertionPoint.{InsertionPoint}
use Rattle.standard_trees.specs.Formatting.{reopened}
use Rattle.standard_trees.specs.GrowingTree.{Entry as StandardEntry, Formatting, GrowingTree, current, foster_place, in_contents, is_one as is_one_of, kind_of, place}
use Rattle.standard_trees.specs.NameLists.{fostering_names}
use Rattle.standard_trees.specs.TreeStore.{Before, EndOf, Node, Place, parent_of}
use Rattle.page_trees.specs.Elements.{IsElement, IsEntry}
use Rattle.page_trees.specs.Formatting.{element_in}
use Rattle.page_trees.specs.Insertions.{MakesNext}
use Rattle.page_trees.specs.Insertions.{with_copy_at as with_copied_at}
use Rattle.page_trees.specs.Reopening.{HasReopened, copy_open, entries_for, with_entries}
use Rattle.page_trees.specs.SameNodes.{IsPointOf, copy_of, with_kind_at}
use Rattle.page_trees.specs.Stands.{Builds, EntryStands, entry_of, place_for}
use Rattle.page_trees.specs.TreeState.{TreeState}
use Rattle.page_trees.specs.declared.formatting.Entry.{Entry}
use Rattle.page_trees.specs.declared.growing.placing.Placing.{Placing}
use Rattle.page_trees.specs.declared.stack.Open.{Open}
use Rattle.page_trees.proofs.BuiltLists.{built_listed}
use Rattle.page_trees.proofs.BuiltTexts.{in_place}
use Rattle.page_trees.proofs.CopiedElements.{copy_stacked, inserted_copy}
use Rattle.page_trees.proofs.KeptElements.{entries_kept}

-- ---- the list does not matter for the appropriate place

same_contents : (t : GrowingTree) (listed : List StandardEntry) (spot : Place) → in_contents (record t { listed = listed }) spot ≡ in_contents t spot
same_contents t listed (EndOf p) = refl
same_contents t listed (Before p m) = refl

same_foster : (t : GrowingTree) (listed : List StandardEntry) (ns : List ℕ) → foster_place (record t { listed = listed }) ns ≡ foster_place t ns
same_foster t listed [] = refl
same_foster t listed (n ∷ []) = refl
same_foster t listed (n ∷ m ∷ ns) = ap (λ (rest : Place). (let spot : Place = elim (is_one_of t (codes "template" ∷ []) n) [
  | true ↦ EndOf n
  | false ↦ elim (is_one_of t (codes "table" ∷ []) n) [
    | true ↦ elim (parent_of t.nodes n) [ Some p ↦ Before p n | None ↦ EndOf m ]
    | false ↦ rest
  ]
] in spot)) (same_foster t listed (m ∷ ns))

pub same_place : (t : GrowingTree) (listed : List StandardEntry) → place (record t { listed = listed }) ≡ place t
same_place t listed =
    same_contents t listed (elim (t.fostering && is_one_of t fostering_names (current t)) [ true ↦ foster_place (record t { listed = listed }) t.stack | false ↦ EndOf (current t) ])
    ∙ ap (λ (rest : Place). in_contents t (elim (t.fostering && is_one_of t fostering_names (current t)) [ true ↦ rest | false ↦ EndOf (current t) ])) (same_foster t listed t.stack)

-- ---- one element

-- the state with its whole list
abbrev pub whole : TreeState → GrowingTree → GrowingTree
whole s t = record t { listed = map entry_of (reverse s.formatting) }

pub whole_built : (s : TreeState) (t : GrowingTree) (before : List Entry) (elements : List Open) → s.formatting ≡ before ++ entries_for elements → Builds (with_entries before s) t →
    All (EntryStands t.nodes) (entries_for elements) → Builds s (whole s t)
whole_built s t before elements e b all =
    built_listed (with_entries before s) t s.formatting (map entry_of (reverse s.formatting)) b
    (record { list = refl; elements = subst (All (EntryStands t.nodes)) (sym e) (All-append (EntryStands t.nodes) before (entries_for elements) b.listed.elements all) })

set_there : (before : List Entry) (e new : Entry) (rest : List Entry) → slice_set (before ++ e ∷ rest) (length before) new ≡ before ++ new ∷ rest
set_there [] e new rest = refl
set_there (x ∷ before) e new rest = ap (λ (es : List Entry). x ∷ es) (set_there before e new rest)

pub get_there : (before : List Entry) (e : Entry) (rest : List Entry) → slice_get (before ++ e ∷ rest) (length before) ≡ Some e
get_there [] e rest = refl
get_there (x ∷ before) e rest = get_there before e rest

pub reopened_built : (s : TreeState) (t : GrowingTree) (placing : Placing) (h : Forest) (gap : InsertionPoint) (index : ℕ) (before : List Entry) (o copy : Open) (closed : List Open) (stack : List Open) (entries : List Entry) →
    s.formatting ≡ before ++ Entry.Element o ∷ entries_for closed → index ≡ length before → entries ≡ slice_set s.formatting index (Entry.Element copy) → placing.in_head ≡ false →
    Builds (with_entries before s) t → All (EntryStands t.nodes) (entries_for (o ∷ closed)) → IsForest s.forest → IsElement s.forest o.id → IsOpenGap gap s.forest →
    IsPointOf t.nodes gap (place_for placing (whole s t)) → MakesNext copy.id s.forest h (with_copied_at gap o.id s.forest) → copy ≡ copy_open o copy.id → stack ≡ s.stack ++ copy ∷ [] →
    HasReopened before o closed (record s { forest = h; stack = stack; formatting = entries }) t
reopened_built s t placing h gap index before o copy closed stack entries e at_index set in_head b all good element opens at next shape pushed =
    let spot : Place = place t in
    let nodes : List Node = with_kind_at (copy_of (kind_of t o.id)) spot t.nodes in
    let mine : EntryStands t.nodes (Entry.Element o) = All-head (EntryStands t.nodes) (Entry.Element o) (entries_for closed) all in
    let here : IsPointOf t.nodes gap spot =
    subst (IsPointOf t.nodes gap) (same_place t (map entry_of (reverse s.formatting))) (in_place placing (whole s t) gap in_head at) in
    let it = copy_stacked s (whole s t) h gap spot o copy stack (whole_built s t before (o ∷ closed) e b all) good element opens here mine.0 mine.1 next shape pushed in
    let turned : reverse (before ++ Entry.Element copy ∷ []) ≡ Entry.Element copy ∷ reverse before = reverse-append before (Entry.Element copy ∷ []) in
    let after : GrowingTree = record t { nodes = nodes; stack = length t.nodes ∷ t.stack; listed = Formatting (length t.nodes) ∷ t.listed } in
    let same : reopened (o.id ∷ []) t ≡ after =
    ap (λ (u : GrowingTree). record u { listed = Formatting (current u) ∷ u.listed }) (inserted_copy o spot t mine.0 mine.1) in
    record {
      copy = copy;
      listed = set ∙ ap (λ (es : List Entry). slice_set es index (Entry.Element copy)) e ∙ ap (λ (n : ℕ). slice_set (before ++ Entry.Element o ∷ entries_for closed) n (Entry.Element copy)) at_index
          ∙ set_there before (Entry.Element o) (Entry.Element copy) (entries_for closed);
      built = subst (Builds (with_entries (before ++ Entry.Element copy ∷ []) (record s { forest = h; stack = stack; formatting = entries }))) (sym same)
          (built_listed (record s { forest = h; stack = stack }) (record (whole s t) { nodes = nodes; stack = length t.nodes ∷ t.stack }) (before ++ Entry.Element copy ∷ [])
          (Formatting (length t.nodes) ∷ t.listed) it.built (record {
            list = ap (λ (n : ℕ). Formatting n ∷ t.listed) (sym it.id) ∙ ap (λ (es : List StandardEntry). Formatting copy.id ∷ es) b.listed.list ∙ ap (λ (es : List Entry). map entry_of es) (sym turned);
            elements = All-push (EntryStands nodes) before (Entry.Element copy) (entries_kept t.nodes nodes it.keeps before b.listed.elements) it.stands;
          }));
      stand = subst (λ (u : GrowingTree). All (EntryStands u.nodes) (entries_for closed)) (sym same)
          (entries_kept t.nodes nodes it.keeps (entries_for closed) (All-tail (EntryStands t.nodes) (Entry.Element o) (entries_for closed) all));
    }

pub entries_apart : (P : Entry → Type 0) (xs ys : List Entry) → All P (xs ++ ys) → All P xs × All P ys
entries_apart P [] ys all = (All-nil P, all)
entries_apart P (x ∷ xs) ys all =
    let more = entries_apart P xs ys (All-tail P x (xs ++ ys) all) in
    (All-cons P x xs (All-head P x (xs ++ ys) all) more.0, more.1)

element_there : (es before : List Entry) (o : Open) (closed : List Open) (index : ℕ) → es ≡ before ++ Entry.Element o ∷ entries_for closed → index ≡ length before →
    option_and_then element_in (slice_get es index) ≡ Some o
element_there es before o closed index listed at_index =
    ap (λ (e : Option Entry). option_and_then element_in e)
    (ap (λ (xs : List Entry). slice_get xs index) listed ∙ ap (slice_get (before ++ Entry.Element o ∷ entries_for closed)) at_index ∙ get_there before (Entry.Element o) (entries_for closed))

-- an entry that is no marker is there
pub none_to_reopen : (es before : List Entry) (o : Open) (closed : List Open) (index : ℕ) (q : Option Open) → es ≡ before ++ Entry.Element o ∷ entries_for closed → index ≡ length before →
    q ≡ option_and_then element_in (slice_get es index) → q ≡ None → ⊥
none_to_reopen es before o closed index q listed at_index found none =
    let both : Some o ≡ None = sym (element_there es before o closed index listed at_index) ∙ sym found ∙ none in
    cc

-- the element of an entry
pub entry_stays : (f : Forest) (es : List Entry) (i : ℕ) (r : Option Open) → All (IsEntry f) es → r ≡ option_and_then element_in (slice_get es i) → IfSome r (λ o. IsElement f o.id)
entry_stays f es i r all e = subst (λ (q : Option Open). IfSome q (λ o. IsElement f o.id)) (sym e) (by es i all)
  where
    head : (e : Entry) → IsEntry f e → IfSome (element_in e) (λ o. IsElement f o.id)
    head Entry.Marker is = tt
    head (Entry.Element o) is = is

    by : (es : List Entry) (i : ℕ) → All (IsEntry f) es → IfSome (option_and_then element_in (slice_get es i)) (λ o. IsElement f o.id)
    by [] i all = tt
    by (e ∷ es) zero all = head e (All-head (IsEntry f) e es all)
    by (e ∷ es) (suc i) all = by es i (All-tail (IsEntry f) e es all)

-- the same by what the calls say
pub reopens : (s view : TreeState) (placing : Placing) (h : Forest) (gap : InsertionPoint) (index : ℕ) (before : List Entry) (o x copy : Open) (closed : List Open) (stack : List Open) (entries : List Entry)
    (q : Option Open) (t : GrowingTree) → s ≡ view → q ≡ option_and_then element_in (slice_get view.formatting index) → q ≡ Some x → view.formatting ≡ before ++ Entry.Element o ∷ entries_for closed → index ≡ length before →
    placing.in_head ≡ false → length stack ≤ placing.max_depth → t.fostering ≡ placing.foster → Builds (with_entries before view) t → All (EntryStands t.nodes) (entries_for (o ∷ closed)) →
    All (IsEntry s.forest) s.formatting → IsForest s.forest → IsOpenGap gap view.forest →
    (length view.stack < placing.max_depth → (u : GrowingTree) → u.fostering ≡ placing.foster → Builds view u → IsPointOf u.nodes gap (place_for placing u)) →
    MakesNext copy.id s.forest h (with_copied_at gap x.id s.forest) → copy ≡ copy_open x copy.id → stack ≡ s.stack ++ copy ∷ [] → entries ≡ slice_set s.formatting index (Entry.Element copy) →
    HasReopened before o closed (record s { forest = h; stack = stack; formatting = entries }) t
reopens s view placing h gap index before o x copy closed stack entries q t is found some listed at_index in_head within fosters b all held good opens point next shape pushed set =
    let here : s.formatting ≡ before ++ Entry.Element o ∷ entries_for closed = ap (λ (v : TreeState). v.formatting) is ∙ listed in
    let got : Some x ≡ Some o = sym some ∙ found ∙ element_there view.formatting before o closed index listed at_index in
    let one : x ≡ o = cc in
    let mine : Builds (with_entries before s) t = subst (λ (v : TreeState). Builds (with_entries before v) t) (sym is) b in
    let element : IsElement s.forest o.id =
    All-head (IsEntry s.forest) (Entry.Element o) (entries_for closed) (entries_apart (IsEntry s.forest) before (Entry.Element o ∷ entries_for closed) (subst (All (IsEntry s.forest)) here held)).1 in
    let long : length stack ≡ length s.stack + 1 = ap (λ (os : List Open). length os) pushed ∙ length_push s.stack copy in
    let shallow : length view.stack < placing.max_depth = subst (λ (v : TreeState). length v.stack < placing.max_depth) is (omega (arith, long, within)) in
    let at : IsPointOf t.nodes gap (place_for placing (whole s t)) =
    subst (λ (v : TreeState). IsPointOf t.nodes gap (place_for placing (whole v t))) (sym is) (point shallow (whole view t) fosters (whole_built view t before (o ∷ closed) listed b all)) in
    reopened_built s t placing h gap index before o copy closed stack entries here at_index set in_head mine all good element
    (subst (λ (v : TreeState). IsOpenGap gap v.forest) (sym is) opens) at
    (subst (λ (p : Open). MakesNext copy.id s.forest h (with_copied_at gap p.id s.forest)) one next) (shape ∙ ap (λ (p : Open). copy_open p copy.id) one) pushed
