-- Elements of the list of active formatting elements are found and removed, and one is added.
use Rattle.std.proofs.Common.{◌≡◌, ℕ, ◌<◌, ◌-◌, Bool, true, false, List, [], ◌∷◌, ◌++◌, map, reverse, refl, sym, ap, ◌∙◌, length, Option, Some, None, subst, suc, zero, arith, true≢false, if◌then◌else◌, nat_eq}
use Rattle.std.specs.Prelude.{All, remove, slice_get}
use Rattle.std.specs.Option.{option_map_or}
use Rattle.std.proofs.lemmas.List.{length-map, length-reverse, reverse-append, reverse-reverse}
use Rattle.std.proofs.lemmas.List.Edits.{remove-append_left}
use Rattle.std.proofs.lemmas.List.Elements.{All-cons, All-nil, All-head, All-push, All-tail}
use Rattle.dom_links.specs.Forest.{Forest}
use Rattle.standard_trees.specs.Formatting.{are_alike as are_alike_by_rules, enlisted, without_third}
use Rattle.standard_trees.specs.GrowingTree.{Entry as StandardEntry, Formatting, GrowingTree, current, kind_of}
use Rattle.standard_trees.specs.GrowingTree.{is_named as is_of_kind, is_one as is_one_of}
use Rattle.page_trees.specs.Elements.{IsElement, IsEntry}
use Rattle.page_trees.specs.Formatting.{alike_from_end, are_alike, third_alike, with_room}
use Rattle.page_trees.specs.Listing.{Enlists}
use Rattle.page_trees.specs.Names.{html_rows, rare_rows}
use Rattle.page_trees.specs.Sets.{is_one}
use Rattle.page_trees.specs.Stands.{Builds, EntryStands, IsCurrent, IsOfKind, StandsFor, entry_of, formatting_names}
use Rattle.page_trees.specs.TreeState.{TreeState}
use Rattle.page_trees.specs.declared.formatting.Entry.{Entry}
use Rattle.page_trees.specs.declared.stack.Open.{Open}
use Rattle.page_trees.proofs.BuiltLists.{built_listed}
use Rattle.page_trees.proofs.BuiltStacks.{current_id, current_node, nothing_current}
use Rattle.page_trees.proofs.HeldNumbers.{all_left}
use Rattle.page_trees.proofs.LikeElements.{alike_is}
use Rattle.page_trees.proofs.ReopenedElements.{entries_apart}
use Rattle.page_trees.proofs.ScopeLemmas.{by_ends}
use Rattle.page_trees.proofs.StandingNames.{are_known, one_agrees}

-- ---- the Noah's Ark clause

-- an entry is like the element by the rules where it is by the code
abbrev AsAlike : GrowingTree → Forest → ℕ → Entry → Type 0
AsAlike t f n Entry.Marker = Unit {0}
AsAlike t f n (Entry.Element o) = are_alike_by_rules t n o.id ≡ are_alike f o.id n

-- the list, which goes from its end on, without the entry at the k-th of the places that were found
abbrev pub left_by : Option ℕ → List Entry → List Entry
left_by place es = reverse (option_map_or (remove (reverse es)) place (reverse es))

reverse_more : (e : Entry) (es : List Entry) → reverse (e ∷ es) ≡ reverse es ++ e ∷ []
reverse_more e es = reverse-append (e ∷ []) es

below_next : (b : Bool) (m : ℕ) (places : List ℕ) (p : ℕ) → ((j : ℕ) → slice_get places j ≡ Some p → p < m) → (k : ℕ) → slice_get (if b then m ∷ places else places) k ≡ Some p → p < suc m
below_next true m places p more zero e = (let same : m ≡ p = cc in omega (arith, same))
below_next true m places p more (suc k) e = (let less = more k e in omega (arith, less))
below_next false m places p more k e = (let less = more k e in omega (arith, less))

below_end : (f : Forest) (n : ℕ) (es : List Entry) (k p : ℕ) → slice_get (alike_from_end f n es) k ≡ Some p → p < length es
below_end f n [] k p e = cc
below_end f n (Entry.Marker ∷ es) k p e = cc
below_end f n (Entry.Element o ∷ es) k p e = below_next (are_alike f o.id n) (length es) (alike_from_end f n es) p (λ j. below_end f n es j p) k e

-- an entry that stays
pub left_more : (e : Entry) (es : List Entry) (place : Option ℕ) → ((p : ℕ) → place ≡ Some p → p < length es) → left_by place (e ∷ es) ≡ e ∷ left_by place es
left_more e es None within = reverse-reverse (e ∷ es) ∙ ap (λ (xs : List Entry). e ∷ xs) (sym (reverse-reverse es))
left_more e es (Some p) within =
    let inside = within p refl in
    let long = length-reverse es in
    ap (λ (xs : List Entry). reverse (remove xs p)) (reverse_more e es)
    ∙ ap (λ (xs : List Entry). reverse xs) (remove-append_left (reverse es) (e ∷ []) p (omega (arith, inside, long)))
    ∙ reverse-append (remove (reverse es) p) (e ∷ [])

remove_last : (xs : List Entry) (e : Entry) (n : ℕ) → n ≡ length xs → remove (xs ++ e ∷ []) n ≡ xs
remove_last [] e zero at = refl
remove_last [] e (suc n) at = absurd (omega (arith, at))
remove_last (x ∷ xs) e zero at = absurd (omega (arith, at))
remove_last (x ∷ xs) e (suc n) at = ap (λ (ys : List Entry). x ∷ ys) (remove_last xs e n (omega (arith, at)))

-- the entry that goes
pub left_last : (e : Entry) (es : List Entry) → left_by (Some (length es)) (e ∷ es) ≡ es
left_last e es =
    let long = length-reverse es in
    ap (λ (xs : List Entry). reverse (remove xs (length es))) (reverse_more e es)
    ∙ ap (λ (xs : List Entry). reverse xs) (remove_last (reverse es) e (length es) (omega (arith, long))) ∙ reverse-reverse es

module _ (t : GrowingTree) (f : Forest) (n : ℕ) where
  abbrev Leaves : ℕ → ℕ → List Entry → Type 0
  Leaves k count es = without_third t n count (map entry_of es) ≡ map entry_of (left_by (slice_get (alike_from_end f n es) k) es)

  -- the third one goes
  third : (es : List Entry) → All (AsAlike t f n) es → Leaves 0 2 es
  third [] all = refl
  third (Entry.Marker ∷ es) all = ap (λ (xs : List Entry). map entry_of xs) (sym (reverse-reverse (Entry.Marker ∷ es)))
  third (Entry.Element o ∷ es) all = by (are_alike f o.id n) (are_alike_by_rules t n o.id) (All-head (AsAlike t f n) (Entry.Element o) es all) (third es (All-tail (AsAlike t f n) (Entry.Element o) es all))
      (below_end f n es 0)
    where
      by : (b c : Bool) → c ≡ b → Leaves 0 2 es → ((p : ℕ) → slice_get (alike_from_end f n es) 0 ≡ Some p → p < length es) →
          elim c [ true ↦ map entry_of es | false ↦ Formatting o.id ∷ without_third t n 2 (map entry_of es) ]
          ≡ map entry_of (left_by (slice_get (if b then length es ∷ alike_from_end f n es else alike_from_end f n es) 0) (Entry.Element o ∷ es))
      by true true e more within = ap (λ (xs : List Entry). map entry_of xs) (sym (left_last (Entry.Element o) es))
      by false false e more within =
          ap (λ (xs : List StandardEntry). Formatting o.id ∷ xs) more
          ∙ ap (λ (xs : List Entry). map entry_of xs) (sym (left_more (Entry.Element o) es (slice_get (alike_from_end f n es) 0) within))
      by true false e more within = absurd (true≢false (sym e))
      by false true e more within = absurd (true≢false e)

  -- one before it stays
  earlier : (k count : ℕ) → nat_eq count 2 ≡ false → ((es : List Entry) → All (AsAlike t f n) es → Leaves k (suc count) es) → (es : List Entry) → All (AsAlike t f n) es → Leaves (suc k) count es
  earlier k count few later [] all = refl
  earlier k count few later (Entry.Marker ∷ es) all = ap (λ (xs : List Entry). map entry_of xs) (sym (reverse-reverse (Entry.Marker ∷ es)))
  earlier k count few later (Entry.Element o ∷ es) all =
      by (are_alike f o.id n) (are_alike_by_rules t n o.id) (nat_eq count 2) few (All-head (AsAlike t f n) (Entry.Element o) es all)
      (later es (All-tail (AsAlike t f n) (Entry.Element o) es all)) (earlier k count few later es (All-tail (AsAlike t f n) (Entry.Element o) es all))
      (below_end f n es k) (below_end f n es (suc k))
    where
      by : (b c d : Bool) → d ≡ false → c ≡ b → Leaves k (suc count) es → Leaves (suc k) count es →
          ((p : ℕ) → slice_get (alike_from_end f n es) k ≡ Some p → p < length es) → ((p : ℕ) → slice_get (alike_from_end f n es) (suc k) ≡ Some p → p < length es) →
          elim c [
            | true ↦ elim d [ true ↦ map entry_of es | false ↦ Formatting o.id ∷ without_third t n (suc count) (map entry_of es) ]
            | false ↦ Formatting o.id ∷ without_third t n count (map entry_of es)
          ] ≡ map entry_of (left_by (slice_get (if b then length es ∷ alike_from_end f n es else alike_from_end f n es) (suc k)) (Entry.Element o ∷ es))
      by true true false g e passed same within within_too =
          ap (λ (xs : List StandardEntry). Formatting o.id ∷ xs) passed
          ∙ ap (λ (xs : List Entry). map entry_of xs) (sym (left_more (Entry.Element o) es (slice_get (alike_from_end f n es) k) within))
      by false false d g e passed same within within_too =
          ap (λ (xs : List StandardEntry). Formatting o.id ∷ xs) same
          ∙ ap (λ (xs : List Entry). map entry_of xs) (sym (left_more (Entry.Element o) es (slice_get (alike_from_end f n es) (suc k)) within_too))
      by true true true g e passed same within within_too = absurd (true≢false g)
      by true false d g e passed same within within_too = absurd (true≢false (sym e))
      by false true d g e passed same within within_too = absurd (true≢false e)

  room : (es : List Entry) → All (AsAlike t f n) es → Leaves 2 0 es
  room = earlier 1 0 refl (earlier 0 1 refl third)

-- the list is as long as that of the definition
pub listed_long : (s : TreeState) (t : GrowingTree) → Builds s t → length t.listed ≡ length s.formatting
listed_long s t b =
    ap (λ (es : List StandardEntry). length es) b.listed.list ∙ length-map (reverse s.formatting) entry_of ∙ length-reverse s.formatting

pub all_turned : (P : Entry → Type 0) (es : List Entry) → All P es → All P (reverse es)
all_turned P = by_ends (λ es. All P es → All P (reverse es)) (λ all. all) (λ ys y more all.
    (let parts = entries_apart P ys (y ∷ []) all in
    subst (All P) (sym (reverse-append ys (y ∷ []))) (All-cons P y (reverse ys) (All-head P y [] parts.1) (more parts.0))))

-- the list with room for one more
pub with_room_is : (t : GrowingTree) (f : Forest) (n : ℕ) (es : List Entry) → All (AsAlike t f n) es → without_third t n 0 (map entry_of (reverse es)) ≡ map entry_of (reverse (with_room f n es))
with_room_is t f n es all =
    room t f n (reverse es) (all_turned (AsAlike t f n) es all)
    ∙ ap (λ (xs : List Entry). map entry_of (reverse (option_map_or (remove xs) (third_alike f n es) xs))) (reverse-reverse es)

all_alike : (s : TreeState) (t : GrowingTree) (p : Open) → Builds s t → IsElement s.forest p.id → StandsFor t.nodes p → is_one formatting_names p ≡ true →
    (es : List Entry) → All (EntryStands t.nodes) es → All (IsEntry s.forest) es → All (AsAlike t s.forest p.id) es
all_alike s t p b there stands is [] all elements = All-nil (AsAlike t s.forest p.id)
all_alike s t p b there stands is (Entry.Marker ∷ es) all elements =
    All-cons (AsAlike t s.forest p.id) Entry.Marker es tt
    (all_alike s t p b there stands is es (All-tail (EntryStands t.nodes) Entry.Marker es all) (All-tail (IsEntry s.forest) Entry.Marker es elements))
all_alike s t p b there stands is (Entry.Element o ∷ es) all elements =
    let one = All-head (EntryStands t.nodes) (Entry.Element o) es all in
    All-cons (AsAlike t s.forest p.id) (Entry.Element o) es
    (alike_is s t o p b (All-head (IsEntry s.forest) (Entry.Element o) es elements) one.0 one.1 there stands is)
    (all_alike s t p b there stands is es (All-tail (EntryStands t.nodes) (Entry.Element o) es all) (All-tail (IsEntry s.forest) (Entry.Element o) es elements))

-- ---- the current node is added

abbrev with_list : TreeState → List Entry → TreeState
with_list s entries = record s { formatting = entries }

none_listed : (s : TreeState) (t : GrowingTree) → Builds s t → t.stack ≡ [] → is_one_of t formatting_names (current t) ≡ false
none_listed s t b none = by t.stack none
  where
    by : (stack : List ℕ) → stack ≡ [] → is_one_of t formatting_names (current (record t { stack = stack })) ≡ false
    by [] e = ap (is_of_kind formatting_names) b.nodes.root
    by (n ∷ ns) e = cc

-- with room for it, the element is added
enlisted_built : (s : TreeState) (t : GrowingTree) (p : Open) → Builds s t → current t ≡ p.id → StandsFor t.nodes p → is_one formatting_names p ≡ true → IsElement s.forest p.id →
    All (IsEntry s.forest) s.formatting → Builds (with_list s (with_room s.forest p.id s.formatting ++ Entry.Element p ∷ [])) (enlisted t)
enlisted_built s t p b at stands is there elements =
    let room : List Entry = with_room s.forest p.id s.formatting in
    let left : without_third t p.id 0 t.listed ≡ map entry_of (reverse room) =
    ap (without_third t p.id 0) b.listed.list ∙ with_room_is t s.forest p.id s.formatting (all_alike s t p b there stands is s.formatting b.listed.elements elements) in
    built_listed s t (room ++ Entry.Element p ∷ []) (Formatting (current t) ∷ without_third t (current t) 0 t.listed) b (record {
      list = ap (λ n. Formatting n ∷ without_third t n 0 t.listed) at ∙ ap (λ (es : List StandardEntry). Formatting p.id ∷ es) left
          ∙ ap (λ (es : List Entry). map entry_of es) (sym (reverse-append room (Entry.Element p ∷ [])));
      elements = All-push (EntryStands t.nodes) room (Entry.Element p) (all_left (EntryStands t.nodes) s.formatting (third_alike s.forest p.id s.formatting) b.listed.elements) (stands, is);
    })

pub formatting_known : are_known formatting_names ≡ true
unfolding html_rows rare_rows
formatting_known = refl

-- what the call does is that
pub enlists : (old view : TreeState) (p : Open) (entries : List Entry) → view ≡ old → entries ≡ with_room view.forest p.id view.formatting ++ Entry.Element p ∷ [] →
    Some p ≡ slice_get view.stack (length view.stack - 1) → IsElement view.forest p.id → All (IsEntry view.forest) view.formatting →
    Enlists old (with_list view entries)
enlists old view p entries same made at there elements t named built =
    let b : Builds view t = subst (λ (s : TreeState). Builds s t) (sym same) built in
    let id : current t ≡ p.id = current_id view t p b at in
    let stands_current : IsOfKind p (kind_of t (current t)) = subst (λ r. IsCurrent r (kind_of t (current t))) (sym at) (current_node view t b) in
    let stands : StandsFor t.nodes p = subst (λ n. IsOfKind p (kind_of t n)) id stands_current in
    let is : is_one formatting_names p ≡ true = one_agrees formatting_names formatting_known t p stands ∙ ap (is_one_of t formatting_names) (sym id) ∙ named in
    subst (λ (es : List Entry). Builds (with_list view es) (enlisted t)) (sym made) (enlisted_built view t p b id stands is there elements)

-- where nothing is open the rules add nothing
pub none_enlisted : (old view new : TreeState) → view ≡ old → None ≡ slice_get view.stack (length view.stack - 1) → Enlists old new
none_enlisted old view new same none t named built =
    let b : Builds view t = subst (λ (s : TreeState). Builds s t) (sym same) built in
    absurd (true≢false (sym named ∙ none_listed view t b (nothing_current view t b none)))

pub open_there : (f : Forest) (os : List Open) (i : ℕ) (p : Open) → All (λ o. IsElement f o.id) os → Some p ≡ slice_get os i → IsElement f p.id
open_there f [] i p all e = cc
open_there f (o ∷ os) zero p all e = (let same : p ≡ o = cc in subst (λ (q : Open). IsElement f q.id) (sym same) (All-head (λ o. IsElement f o.id) o os all))
open_there f (o ∷ os) (suc i) p all e = open_there f os i p (All-tail (λ o. IsElement f o.id) o os all) e
