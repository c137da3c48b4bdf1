-- The entries behind the last marker and the last open element are those that the definition reconstructs.
use Rattle.std.proofs.Common.{◌≡◌, ℕ, suc, ◌<◌, ◌≤◌, ◌+◌, ◌&&◌, ◌||◌, Bool, true, false, List, [], ◌∷◌, ◌++◌, drop, map, reverse, refl, sym, ap, ◌∙◌, length, arith, inl, inr, subst, true≢false, eqb, if◌then◌else◌}
use denote.Enum.Declared.{tag_of}
use Rattle.std.specs.Prelude.{All, None, OnOk, Result, nat_eq, not}
use Rattle.std.specs.List.{list_any}
use Rattle.std.proofs.lemmas.Bool.{cases_Bool, eq-eqb, eqb-true, ne_eqb}
use Rattle.std.proofs.lemmas.List.{append-nil, append_assoc, length-append, length_push, map-append, reverse-append}
use Rattle.std.proofs.lemmas.List.Elements.{All-cons, All-head, All-nil, All-tail}
use Rattle.standard_trees.specs.Building.{Building, perform}
use Rattle.standard_trees.specs.Formatting.{attrs_of, closed_entries, local_of, reconstructed, reopened}
use Rattle.standard_trees.specs.GrowingTree.{Entry as StandardEntry, Formatting, GrowingTree, place}
use Rattle.standard_trees.specs.GrowingTree.{is_one as is_one_of}
use Rattle.standard_trees.specs.RuleWords.{FramesetNotOk, ListMarker, ReconstructFormatting}
use Rattle.standard_trees.specs.TreeStore.{Html, is_member}
use Rattle.page_tokens.specs.declared.token.Tag.{Tag}
use Rattle.page_trees.specs.Constructs.{Constructs, IsCurrentTag, Performs, first_fault}
use Rattle.page_trees.specs.Names.{html_rows, rare_rows, text_of}
use Rattle.page_trees.specs.Popping.{up_to_last}
use Rattle.page_trees.specs.Reopening.{Reopens, entries_for, is_closed, is_this, stays, with_entries}
use Rattle.page_trees.specs.Scopes.{is_name, is_named, last_place}
use Rattle.page_trees.specs.Sets.{is_in_html, is_one, is_one_in}
use Rattle.page_trees.specs.Stands.{AllStand, Builds, Does, DoesIn, EntryStands, StandsFor, entry_of, formatting_names, with_marker}
use Rattle.page_trees.specs.TreeState.{TreeState}
use Rattle.page_trees.specs.contracts.name.Name.{the_type}
use Rattle.page_trees.specs.declared.builder.TreeBuilder.{TreeBuilder}
use Rattle.page_trees.specs.declared.fault.PageFault.{PageFault}
use Rattle.page_trees.specs.declared.formatting.Entry.{Entry}
use Rattle.page_trees.specs.declared.growing.placing.Placing.{Placing}
use Rattle.page_trees.specs.declared.name.Name.{Name}
use Rattle.page_trees.specs.declared.stack.ElementNamespace.{ElementNamespace}
use Rattle.page_trees.specs.declared.stack.Open.{Open}
use Rattle.page_trees.proofs.BuilderSteps.{moved, was_ok}
use Rattle.page_trees.proofs.BuiltLists.{built_listed}
use Rattle.page_trees.proofs.BuiltNodes.{inserted_is}
use Rattle.page_trees.proofs.CopiedElements.{formatting_html}
use Rattle.page_trees.proofs.ElementSteps.{Noted}
use Rattle.page_trees.proofs.NamesAgree.{for_all}
use Rattle.page_trees.proofs.PoppingLemmas.{any_push, up_to_last_push}
use Rattle.page_trees.proofs.ReopenedElements.{entries_apart}
use Rattle.page_trees.proofs.ScopeLemmas.{by_ends}
use Rattle.page_trees.proofs.StandingNames.{named_agrees}

-- ---- an element is open

known_if : (a b : Bool) → (not a || not b) ≡ true → a ≡ true → b ≡ false
known_if true true h e = absurd (true≢false (sym h))
known_if true false h e = refl
known_if false b h e = absurd (true≢false (sym e))

formatting_known : (o : Open) → is_one formatting_names o ≡ true → is_name o.name Name.Other ≡ false
unfolding html_rows rare_rows
formatting_known o is =
    known_if (is_one_in formatting_names ElementNamespace.Html o.name) (is_name o.name Name.Other)
    (for_all (λ n. not (is_one_in formatting_names ElementNamespace.Html n) || not (is_name n Name.Other)) refl o.name)
    (ap (λ (ns : ElementNamespace). is_one_in formatting_names ns o.name) (sym (formatting_html o is)) ∙ is)

is_name_self : (name : Name) → is_name name name ≡ true
is_name_self name = eq-eqb (tag_of the_type name) (tag_of the_type name) refl

self_named : (o : Open) → is_one formatting_names o ≡ true → is_named o.name o ≡ true
self_named o is =
    ap (λ (ns : ElementNamespace). not (is_name o.name Name.Other) && (is_in_html ns && is_name o.name o.name)) (formatting_html o is)
    ∙ ap (λ b. not b && is_name o.name o.name) (formatting_known o is) ∙ is_name_self o.name

-- two open elements with one id have one name
one_name : (t : GrowingTree) (o x : Open) → is_one formatting_names o ≡ true → StandsFor t.nodes o → StandsFor t.nodes x → x.id ≡ o.id → is_named o.name x ≡ true
one_name t o x is so sx e =
    let known = formatting_known o is in
    named_agrees o.name known t x sx ∙ ap (is_one_of t (text_of o.name ∷ [])) e ∙ sym (named_agrees o.name known t o so) ∙ self_named o is

both_true : (a b : Bool) → (b ≡ true → a ≡ true) → (a && b) ≡ b
both_true true b f = refl
both_true false true f = absurd (true≢false (sym (f refl)))
both_true false false f = refl

turned_test : (n m : ℕ) → eqb m n ≡ nat_eq n m
turned_test n m = elim (cases_Bool (nat_eq n m)) [
  | inl t ↦ eq-eqb m n (sym (eqb-true n m t)) ∙ sym t
  | inr f ↦ ne_eqb m n (λ e. absurd (true≢false (sym (eq-eqb n m (sym e)) ∙ f))) ∙ sym f
]

open_is : (t : GrowingTree) (o : Open) → is_one formatting_names o ≡ true → StandsFor t.nodes o → (os : List Open) → AllStand t.nodes os →
    list_any (is_this o.name o.id) os ≡ is_member o.id (map (λ p. p.id) os)
open_is t o is so [] all = refl
open_is t o is so (x ∷ os) all =
    ap (λ b. b || list_any (is_this o.name o.id) os) (both_true (is_named o.name x) (eqb x.id o.id) (λ e. one_name t o x is so all.0 (eqb-true x.id o.id e)) ∙ turned_test o.id x.id)
    ∙ ap (λ b. nat_eq o.id x.id || b) (open_is t o is so os all.1)

or_turned : (a b : Bool) → (a || b) ≡ (b || a)
or_turned true true = refl
or_turned true false = refl
or_turned false true = refl
or_turned false false = refl

any_turned : (p : Open → Bool) (xs : List Open) → list_any p (reverse xs) ≡ list_any p xs
any_turned p = by_ends (λ xs. list_any p (reverse xs) ≡ list_any p xs) refl (λ ys y same.
    ap (list_any p) (reverse-append ys (y ∷ [])) ∙ ap (λ b. p y || b) same ∙ or_turned (p y) (list_any p ys) ∙ sym (any_push p ys y))

-- whether an entry is closed is what the definition says
abbrev pub Agrees : List Open → List ℕ → Entry → Type 0
Agrees stack ids Entry.Marker = Unit {0}
Agrees stack ids (Entry.Element o) = is_closed stack (Entry.Element o) ≡ not (is_member o.id ids)

agrees_one : (s : TreeState) (t : GrowingTree) → Builds s t → (e : Entry) → EntryStands t.nodes e → Agrees s.stack t.stack e
agrees_one s t b Entry.Marker stands = tt
agrees_one s t b (Entry.Element o) stands =
    ap not (sym (any_turned (is_this o.name o.id) s.stack) ∙ open_is t o stands.1 stands.0 (reverse s.stack) b.stack.nodes ∙ ap (is_member o.id) (sym b.stack.ids))

agrees_all : (s : TreeState) (t : GrowingTree) → Builds s t → (es : List Entry) → All (EntryStands t.nodes) es → All (Agrees s.stack t.stack) es
agrees_all s t b [] all = All-nil (Agrees s.stack t.stack)
agrees_all s t b (e ∷ es) all =
    All-cons (Agrees s.stack t.stack) e es (agrees_one s t b e (All-head (EntryStands t.nodes) e es all)) (agrees_all s t b es (All-tail (EntryStands t.nodes) e es all))

-- ---- the list falls into two parts

abbrev pub ids_of : List Open → List ℕ
ids_of os = map (λ o. o.id) os

pub record IsSplit (stack : List Open) (ids : List ℕ) (es : List Entry) : Type 0 where
  pub closed : List Open
  pub entries : es ≡ up_to_last (stays stack) es ++ entries_for closed
  pub listed : closed_entries ids (map entry_of (reverse es)) ≡ reverse (ids_of closed)
  pub rest : map entry_of (reverse es) ≡ map (λ n. Formatting n) (reverse (ids_of closed)) ++ map entry_of (reverse (up_to_last (stays stack) es))

-- the last entry stays
split_kept : (stack : List Open) (ids : List ℕ) (ys : List Entry) (y : Entry) → stays stack y ≡ true → closed_entries ids (entry_of y ∷ map entry_of (reverse ys)) ≡ [] → IsSplit stack ids (ys ++ y ∷ [])
split_kept stack ids ys y keeps none =
    let up : up_to_last (stays stack) (ys ++ y ∷ []) ≡ ys ++ y ∷ [] =
    up_to_last_push (stays stack) ys y ∙ ap (λ b. if b then ys ++ y ∷ [] else up_to_last (stays stack) ys) keeps in
    record {
      closed = [];
      entries = sym up ∙ sym (append-nil (up_to_last (stays stack) (ys ++ y ∷ [])));
      listed = ap (λ (es : List Entry). closed_entries ids (map entry_of es)) (reverse-append ys (y ∷ [])) ∙ none;
      rest = ap (λ (es : List Entry). map entry_of (reverse es)) (sym up);
    }

-- the last entry is closed
split_closed : (stack : List Open) (ids : List ℕ) (ys : List Entry) (o : Open) → stays stack (Entry.Element o) ≡ false → is_member o.id ids ≡ false → IsSplit stack ids ys →
    IsSplit stack ids (ys ++ Entry.Element o ∷ [])
split_closed stack ids ys o gone apart split =
    let kept : List Entry = up_to_last (stays stack) ys in
    let up : up_to_last (stays stack) (ys ++ Entry.Element o ∷ []) ≡ kept =
    up_to_last_push (stays stack) ys (Entry.Element o) ∙ ap (λ b. if b then ys ++ Entry.Element o ∷ [] else kept) gone in
    let turned : reverse (ids_of (split.closed ++ o ∷ [])) ≡ o.id ∷ reverse (ids_of split.closed) =
    ap (λ (ns : List ℕ). reverse ns) (map-append (λ (p : Open). p.id) split.closed (o ∷ [])) ∙ reverse-append (ids_of split.closed) (o.id ∷ []) in
    let outward : reverse (ys ++ Entry.Element o ∷ []) ≡ Entry.Element o ∷ reverse ys = reverse-append ys (Entry.Element o ∷ []) in
    record {
      closed = split.closed ++ o ∷ [];
      entries = ap (λ (es : List Entry). es ++ Entry.Element o ∷ []) split.entries ∙ append_assoc kept (entries_for split.closed) (Entry.Element o ∷ [])
          ∙ ap (λ (es : List Entry). kept ++ es) (sym (map-append (λ (p : Open). Entry.Element p) split.closed (o ∷ [])))
          ∙ ap (λ (es : List Entry). es ++ entries_for (split.closed ++ o ∷ [])) (sym up);
      listed = ap (λ (es : List Entry). closed_entries ids (map entry_of es)) outward
          ∙ ap (λ (b : Bool). (let ns : List ℕ = elim b [ true ↦ [] | false ↦ o.id ∷ closed_entries ids (map entry_of (reverse ys)) ] in ns)) apart
          ∙ ap (λ (ns : List ℕ). o.id ∷ ns) split.listed ∙ sym turned;
      rest = ap (λ (es : List Entry). map entry_of es) outward ∙ ap (λ (es : List StandardEntry). Formatting o.id ∷ es) split.rest
          ∙ ap (λ (ns : List ℕ). map (λ n. Formatting n) ns ++ map entry_of (reverse kept)) (sym turned)
          ∙ ap (λ (es : List Entry). map (λ n. Formatting n) (reverse (ids_of (split.closed ++ o ∷ []))) ++ map entry_of (reverse es)) (sym up);
    }

split_last : (stack : List Open) (ids : List ℕ) (ys : List Entry) (y : Entry) → Agrees stack ids y → IsSplit stack ids ys → IsSplit stack ids (ys ++ y ∷ [])
split_last stack ids ys Entry.Marker agrees split = split_kept stack ids ys Entry.Marker refl refl
split_last stack ids ys (Entry.Element o) agrees split = elim (cases_Bool (is_member o.id ids)) [
  | inl there ↦ split_kept stack ids ys (Entry.Element o) (ap not (agrees ∙ ap not there))
      (ap (λ (b : Bool). (let ns : List ℕ = elim b [ true ↦ [] | false ↦ o.id ∷ closed_entries ids (map entry_of (reverse ys)) ] in ns)) there)
  | inr gone ↦ split_closed stack ids ys o (ap not (agrees ∙ ap not gone)) gone split
]

split_list : (stack : List Open) (ids : List ℕ) (es : List Entry) → All (Agrees stack ids) es → IsSplit stack ids es
split_list stack ids = by_ends (λ es. All (Agrees stack ids) es → IsSplit stack ids es)
    (λ all. record { closed = []; entries = refl; listed = refl; rest = refl })
    (λ ys y ih all. (let parts = entries_apart (Agrees stack ids) ys (y ∷ []) all in
    split_last stack ids ys y (All-head (Agrees stack ids) y [] parts.1) (ih parts.0)))

pub split_built : (s : TreeState) (t : GrowingTree) → Builds s t → IsSplit s.stack t.stack s.formatting
split_built s t b = split_list s.stack t.stack s.formatting (agrees_all s t b s.formatting b.listed.elements)

-- ---- the definition's start

drop_front : {X : Type 0} (xs ys : List X) → drop (length xs) (xs ++ ys) ≡ ys
drop_front [] ys = refl
drop_front (x ∷ xs) ys = drop_front xs ys

length_mapped : (ns : List ℕ) → length (map (λ n. Formatting n) ns) ≡ length ns
length_mapped [] = refl
length_mapped (n ∷ ns) = ap suc (length_mapped ns)

reverse_twice : (ns : List ℕ) → reverse (reverse ns) ≡ ns
reverse_twice = by_ends (λ ns. reverse (reverse ns) ≡ ns) refl (λ ys y same. ap (λ (ns : List ℕ). reverse ns) (reverse-append ys (y ∷ [])) ∙ turned (reverse ys) y ∙ ap (λ (ns : List ℕ). ns ++ y ∷ []) same)
  where
    turned : (ns : List ℕ) (n : ℕ) → reverse (n ∷ ns) ≡ reverse ns ++ n ∷ []
    turned ns n = reverse-append (n ∷ []) ns

-- the state from which the closed elements are reopened
abbrev pub started : GrowingTree → GrowingTree
started t = record t { listed = drop (length (closed_entries t.stack t.listed)) t.listed }

pub record IsStarted (s : TreeState) (t : GrowingTree) (before : List Entry) (closed : List Open) : Type 0 where
  pub entries : s.formatting ≡ before ++ entries_for closed
  pub built : Builds (with_entries before s) (started t)
  pub stand : All (EntryStands t.nodes) (entries_for closed)
  pub result : reopened (ids_of closed) (started t) ≡ reconstructed t

pub starts : (s : TreeState) (t : GrowingTree) → Builds s t → (closed : List Open) × IsStarted s t (up_to_last (stays s.stack) s.formatting) closed
starts s t b =
    let split = split_built s t b in
    let before : List Entry = up_to_last (stays s.stack) s.formatting in
    let ids : closed_entries t.stack t.listed ≡ reverse (ids_of split.closed) = ap (closed_entries t.stack) b.listed.list ∙ split.listed in
    let cut : drop (length (closed_entries t.stack t.listed)) t.listed ≡ map entry_of (reverse before) =
    ap (λ (ns : List ℕ). drop (length ns) t.listed) ids ∙ ap (λ (es : List StandardEntry). drop (length (reverse (ids_of split.closed))) es) (b.listed.list ∙ split.rest)
    ∙ ap (λ (k : ℕ). drop k (map (λ n. Formatting n) (reverse (ids_of split.closed)) ++ map entry_of (reverse before))) (sym (length_mapped (reverse (ids_of split.closed))))
    ∙ drop_front (map (λ n. Formatting n) (reverse (ids_of split.closed))) (map entry_of (reverse before)) in
    let parts = entries_apart (EntryStands t.nodes) before (entries_for split.closed) (subst (All (EntryStands t.nodes)) split.entries b.listed.elements) in (
      split.closed,
      record {
        entries = split.entries;
        built = built_listed s t before (drop (length (closed_entries t.stack t.listed)) t.listed) b (record { list = cut; elements = parts.0 });
        stand = parts.1;
        result = ap (λ (ns : List ℕ). reopened ns (started t)) (sym (reverse_twice (ids_of split.closed)) ∙ ap (λ (ns : List ℕ). reverse ns) (sym ids));
      },
    )

-- ---- the loop

-- the entries up to an index are those of the definition, where the elements behind them are left
pub record IsHalfway (placing : Placing) (old new : TreeState) (index : ℕ) (t : GrowingTree) : Type 0 where
  pub before : List Entry
  pub closed : List Open
  pub tree : GrowingTree
  pub listed : new.formatting ≡ before ++ entries_for closed
  pub at : index ≡ length before
  pub fosters : tree.fostering ≡ placing.foster
  pub built : Builds (with_entries before new) tree
  pub stand : All (EntryStands tree.nodes) (entries_for closed)
  pub result : reopened (ids_of closed) tree ≡ reconstructed t
  pub long : length new.formatting ≡ length old.formatting

pub halfway_start : (placing : Placing) (s : TreeState) (index : ℕ) (t : GrowingTree) → index ≡ last_place (stays s.stack) s.formatting → t.fostering ≡ placing.foster → Builds s t →
    IsHalfway placing s s index t
halfway_start placing s index t e fosters b =
    let start = starts s t b in
    record {
      before = up_to_last (stays s.stack) s.formatting;
      closed = start.0;
      tree = started t;
      listed = start.1.entries;
      at = e;
      fosters = fosters;
      built = start.1.built;
      stand = start.1.stand;
      result = start.1.result;
      long = refl;
    }

one_fosters : (n : ℕ) (t : GrowingTree) → (reopened (n ∷ []) t).fostering ≡ t.fostering
one_fosters n t = ap (λ (u : GrowingTree). u.fostering) (inserted_is (place t) Html (local_of t n) (attrs_of t n) t)

all_fosters : (ns : List ℕ) (t : GrowingTree) → (reopened ns t).fostering ≡ t.fostering
all_fosters [] t = refl
all_fosters (n ∷ ns) t = all_fosters ns (reopened (n ∷ []) t) ∙ one_fosters n t

pub reconstructed_fosters : (t : GrowingTree) → (reconstructed t).fostering ≡ t.fostering
reconstructed_fosters t = all_fosters (reverse (closed_entries t.stack t.listed)) (started t)

same_long : (before : List Entry) (x y : Entry) (rest : List Entry) → length (before ++ x ∷ rest) ≡ length (before ++ y ∷ rest)
same_long [] x y rest = refl
same_long (e ∷ before) x y rest = ap suc (same_long before x y rest)

pub halfway_step : (placing : Placing) (old mid new : TreeState) (index next : ℕ) (t : GrowingTree) → IsHalfway placing old mid index t → Reopens placing index mid new → placing.in_head ≡ false →
    length new.stack ≤ placing.max_depth → index < length old.formatting → next ≡ index + 1 → IsHalfway placing old new next t
halfway_step placing old mid new index next t h step in_head within lt e = by h.closed refl
  where
    by : (closed : List Open) → h.closed ≡ closed → IsHalfway placing old new next t
    by [] none =
        let all : length mid.formatting ≡ length h.before =
        ap (λ (es : List Entry). length es) (h.listed ∙ ap (λ (os : List Open). h.before ++ entries_for os) none ∙ append-nil h.before) in
        absurd (omega (arith, all, h.at, h.long, lt))
    by (o ∷ closed) some =
        let listed : mid.formatting ≡ h.before ++ Entry.Element o ∷ entries_for closed = h.listed ∙ ap (λ (os : List Open). h.before ++ entries_for os) some in
        let done = step h.before o closed listed h.at in_head within h.tree h.fosters h.built (subst (λ (os : List Open). All (EntryStands h.tree.nodes) (entries_for os)) some h.stand) in
        record {
          before = h.before ++ Entry.Element done.copy ∷ [];
          closed = closed;
          tree = reopened (o.id ∷ []) h.tree;
          listed = done.listed ∙ sym (append_assoc h.before (Entry.Element done.copy ∷ []) (entries_for closed));
          at = (let more : length (h.before ++ Entry.Element done.copy ∷ []) ≡ length h.before + 1 = length_push h.before (Entry.Element done.copy) in omega (arith, more, h.at, e));
          fosters = one_fosters o.id h.tree ∙ h.fosters;
          built = done.built;
          stand = done.stand;
          result = ap (λ (os : List Open). reopened (ids_of os) h.tree) (sym some) ∙ h.result;
          long = ap (λ (es : List Entry). length es) done.listed ∙ same_long h.before (Entry.Element done.copy) (Entry.Element o) (entries_for closed)
              ∙ ap (λ (es : List Entry). length es) (sym listed) ∙ h.long;
        }

pub halfway_end : (placing : Placing) (old new : TreeState) (index : ℕ) (t : GrowingTree) → IsHalfway placing old new index t → length old.formatting ≤ index → Builds new (reconstructed t)
halfway_end placing old new index t h le = by h.closed refl
  where
    by : (closed : List Open) → h.closed ≡ closed → Builds new (reconstructed t)
    by [] none =
        let all : h.before ≡ new.formatting = sym (h.listed ∙ ap (λ (os : List Open). h.before ++ entries_for os) none ∙ append-nil h.before) in
        let end : h.tree ≡ reconstructed t = ap (λ (os : List Open). reopened (ids_of os) h.tree) (sym none) ∙ h.result in
        subst (Builds new) end (subst (λ (es : List Entry). Builds (with_entries es new) h.tree) all h.built)
    by (o ∷ closed) some =
        let more : length new.formatting ≡ length h.before + length (entries_for (o ∷ closed)) =
        ap (λ (es : List Entry). length es) (h.listed ∙ ap (λ (os : List Open). h.before ++ entries_for os) some) ∙ length-append h.before (entries_for (o ∷ closed)) in
        let one : length (entries_for (o ∷ closed)) ≡ length (entries_for closed) + 1 = omega arith in
        absurd (omega (arith, more, one, h.at, h.long, le))

-- ---- the whole step

pub reconstructed_as : (old kept new : TreeBuilder) (done : Result Unit PageFault) (tree : TreeState) → kept ≡ record old { tree = tree; fault = first_fault old.fault done } → Noted kept new →
    (old.placing.in_head ≡ false → OnOk done (DoesIn old.placing reconstructed old.tree tree)) → Performs (ReconstructFormatting ∷ []) old new
unfolding perform
reconstructed_as old kept new done tree e n does within b c =
    let no : first_fault old.fault done ≡ None = sym (ap (λ (s : TreeBuilder). s.fault) (n.0 ∙ ap (λ (s : TreeBuilder). record s { too_deep = new.too_deep }) e)) ∙ within.fault in
    let low : length tree.stack ≤ old.placing.max_depth = subst (λ (s : TreeBuilder). length s.tree.stack ≤ s.placing.max_depth) e (n.2 within.depth) in
    let built = was_ok old.fault done (DoesIn old.placing reconstructed old.tree tree) no (does c.in_head) low b.tree c.foster c.tree in
    moved old new tree (first_fault old.fault done) new.too_deep (n.0 ∙ ap (λ (s : TreeBuilder). record s { too_deep = new.too_deep }) e) b (reconstructed b.tree) c built (reconstructed_fosters b.tree)

pub marked_as : (old new : TreeBuilder) (done : Result Unit PageFault) (tree : TreeState) → new ≡ record old { tree = tree; fault = first_fault old.fault done } →
    OnOk done (Does with_marker old.tree tree) → Performs (ListMarker ∷ []) old new
unfolding perform
marked_as old new done tree e does within b c =
    let no : first_fault old.fault done ≡ None = sym (ap (λ (s : TreeBuilder). s.fault) e) ∙ within.fault in
    moved old new tree (first_fault old.fault done) old.too_deep e b (with_marker b.tree) c (was_ok old.fault done (Does with_marker old.tree tree) no does b.tree c.tree) refl

-- the current tag stays where the elements are reconstructed
pub still_current : (name : Name) (tag : Tag) (b : Building) → IsCurrentTag name tag b → IsCurrentTag name tag (perform ReconstructFormatting b)
unfolding perform
still_current name tag b c =
    record { standard = c.standard; is = c.is; written = c.written; plain = c.plain; named = c.named; token = c.token; attrs = c.attrs }

-- ---- the flag of framesets

pub no_frameset : (old : TreeBuilder) (b : Building) → Constructs old b → Constructs (record old { frameset_ok = false }) (perform FramesetNotOk b)
unfolding perform
no_frameset old b c = record {
  tree = c.tree;
  foster = c.foster;
  in_head = c.in_head;
  mode = c.mode;
  original = c.original;
  template_modes = c.template_modes;
  frameset_ok = refl;
  scripting = c.scripting;
  quirks = c.quirks;
  unread = c.unread;
  pending = c.pending;
  skip = c.skip;
  tokenizer = c.tokenizer;
}
