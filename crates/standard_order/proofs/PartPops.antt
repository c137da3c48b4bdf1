-- In the modes of the body: elements that are opened again, ordinary elements that are popped, and the adoption agency algorithm.
use Rattle.std.specs.Prelude.{◌≡◌, ◌&&◌, refl, ℕ, zero, suc, Bool, true, false, not, List, [], ◌∷◌, ◌++◌, Option, None, Some, codes, drop, length, nat_eq}
use Rattle.std.specs.Prelude.{reverse}
use Rattle.std.specs.List.{list_all}
use mathlib.Core.Path.{◌∙◌, sym, subst}
use Rattle.standard_trees.specs.NameLists.{button_scope, implied, list_item_scope, scope}
use Rattle.standard_trees.specs.RuleWords.{ButtonScope, ListItemScope, Scope, ScopeKind, TableScope}
use Rattle.standard_trees.specs.TreeStore.{Html, Node, NodeAttr, key_in, node_at, without}
use Rattle.standard_trees.specs.GrowingTree.{Entry, FormAt, FormOfContext, FormPointer, Formatting, GrowingTree, Marker, NoForm, beyond, created_element, current, ends_scope}
use Rattle.standard_trees.specs.GrowingTree.{fresh, has_in_scope, is_among, implied_of, in_scope, inserted, is_one, key, past, popped_until, put, unstacked, with_stack}
use Rattle.standard_trees.specs.Formatting.{attrs_of, closed_entries, closed_p, form_ended, local_of}
use Rattle.standard_trees.specs.Formatting.{reconstructed, reopened, unlisted, without_found, without_p}
use Rattle.standard_order.proofs.Labels.{labels}
use Rattle.standard_order.proofs.StandingStacks.{both, never, same_number}
use Rattle.standard_order.proofs.GoodTrees.{AllHeld, AllListed, closed_held, held_grown, held_reversed, in_scope_beyond, makes_inserted}
use Rattle.standard_order.proofs.NodeTags.{Cls, Keeps, Tag, class_at, class_kept, is_element, name_class, tags, tags_put}
use Rattle.standard_order.proofs.TreeTops.{elements_beyond, elements_past, elements_without, fresh_passes}
use Rattle.standard_order.proofs.Chains.{Scoping, Site, ends_it, is_plain, rest_beyond, rest_past, rest_without}
use Rattle.standard_order.proofs.PartTrees.{In, PlainForm, PlainFound, cls, in_rest, parts_for, plain_single, step_element}
use Rattle.standard_order.proofs.PartPlaces.{class_is_one, names_have, one_class, current_place, in_inserted}
use Rattle.standard_order.proofs.PartOps.{PlainAll, all_plain_kept, closed_plain, copy_plain, in_listed, in_unlisted, plain_dropped, plain_turned}

-- ---- elements that are opened again

inserted_keeps : (r : ℕ) (c : Site) (name : List ℕ) (attrs : List NodeAttr) (t : GrowingTree) → is_plain (name_class name) ≡ true → In r c t →
    Keeps (tags t.nodes) (tags (inserted Html name attrs t).nodes)
inserted_keeps r c name attrs t p i =
    (step_element r (parts_for (cls t)) (Rattle.standard_trees.specs.GrowingTree.place t) Html name attrs t (current_place r c t i) (λ contents. plain_single _ p)).keeps

inserted_plain : (name : List ℕ) (attrs : List NodeAttr) (t : GrowingTree) → is_plain (name_class name) ≡ true →
    is_plain (class_at (tags (inserted Html name attrs t).nodes) (fresh t)) ≡ true
inserted_plain name attrs t p =
    subst (λ ts. is_plain (class_at ts (fresh t)) ≡ true) (sym (tags_put (fresh t) (Rattle.standard_trees.specs.GrowingTree.place t) (created_element Html name attrs t).nodes))
    (fresh_passes is_plain refl Html name attrs (λ contents. p) t)

in_reopened : (r : ℕ) (c : Site) (ns : List ℕ) (t : GrowingTree) → AllHeld (labels t.nodes) ns → PlainAll (tags t.nodes) ns → In r c t → In r c (reopened ns t)
in_reopened r c [] t h p i = i
in_reopened r c (n ∷ ns) t h p i =
    in_reopened r c ns (record after { listed = Formatting (current after) ∷ after.listed })
    (held_grown t.nodes after.nodes (makes_inserted (Rattle.standard_trees.specs.GrowingTree.place t) Html name attrs t).grows ns h.1)
    (all_plain_kept (tags t.nodes) (tags after.nodes) (inserted_keeps r c name attrs t plain i) ns p.1)
    (in_listed r c after (Formatting (current after) ∷ after.listed) (inserted_plain name attrs t plain, now.listed) now)
  where
    name : List ℕ
    name = local_of t n

    attrs : List NodeAttr
    attrs = attrs_of t n

    plain : is_plain (name_class (local_of t n)) ≡ true
    plain = copy_plain t n h.0 p.0

    after : GrowingTree
    after = inserted Html (local_of t n) (attrs_of t n) t

    now : In r c (inserted Html (local_of t n) (attrs_of t n) t)
    now = in_inserted r c Html (local_of t n) (attrs_of t n) t (λ contents. copy_plain t n h.0 p.0) i

pub in_reconstructed : (r : ℕ) (c : Site) (t : GrowingTree) → AllListed (labels t.nodes) t.listed → In r c t → In r c (reconstructed t)
in_reconstructed r c t h i =
    in_reopened r c (reverse (closed_entries t.stack t.listed)) (record t { listed = drop (length (closed_entries t.stack t.listed)) t.listed })
    (held_reversed (labels t.nodes) (closed_entries t.stack t.listed) (closed_held (labels t.nodes) t.stack t.listed h))
    (plain_turned (tags t.nodes) (closed_entries t.stack t.listed) [] (closed_plain (tags t.nodes) t.stack t.listed i.listed) tt)
    (in_listed r c t (drop (length (closed_entries t.stack t.listed)) t.listed) (plain_dropped (tags t.nodes) (length (closed_entries t.stack t.listed)) t.listed i.listed) i)

-- ---- elements that are popped

-- of the open elements only these pass the test
abbrev pub OnlyPlain : GrowingTree → (ℕ → Bool) → Type 0
OnlyPlain t test = (n : ℕ) → test n ≡ true → is_plain (class_at (tags t.nodes) n) ≡ true

pub in_beyond : (r : ℕ) (c : Site) (t : GrowingTree) (test : ℕ → Bool) → OnlyPlain t test → In r c t → In r c (with_stack t (beyond test t.stack))
in_beyond r c t test only i =
    in_rest r c t (beyond test t.stack) (rest_beyond (class_at (tags t.nodes)) test only t.stack i.chained)
    (elements_beyond (tags t.nodes) test t.stack i.open_) i

pub in_past : (r : ℕ) (c : Site) (t : GrowingTree) (wanted ends : ℕ → Bool) → Scoping (class_at (tags t.nodes)) wanted ends →
    in_scope wanted ends t.stack ≡ true → In r c t → In r c (with_stack t (past wanted t.stack))
in_past r c t wanted ends scoping scoped i =
    in_rest r c t (past wanted t.stack) (rest_past (class_at (tags t.nodes)) wanted ends scoping t.stack i.chained scoped)
    (elements_past (tags t.nodes) wanted t.stack i.open_) i

pub in_unstacked : (r : ℕ) (c : Site) (t : GrowingTree) (n : ℕ) → is_plain (class_at (tags t.nodes) n) ≡ true → In r c t → In r c (unstacked n t)
in_unstacked r c t n p i =
    in_rest r c t (without n t.stack) (rest_without (class_at (tags t.nodes)) n p t.stack i.chained) (elements_without (tags t.nodes) n t.stack i.open_) i

pub in_without_found : (r : ℕ) (c : Site) (o : Option ℕ) (t : GrowingTree) → PlainFound (tags t.nodes) o → In r c t → In r c (without_found o t)
in_without_found r c None t p i = i
in_without_found r c (Some n) t p i = in_unstacked r c (unlisted n t) n p (in_unlisted r c n t i)

-- ---- elements of certain names

-- an element of these names, wherever it is
pub one_any : (test : Cls → Bool) (names : List (List ℕ)) → list_all (λ one. test (name_class one)) names ≡ true →
    ((name : List ℕ) → is_among (codes "svg " ++ name) names ≡ false) → ((name : List ℕ) → is_among (codes "math " ++ name) names ≡ false) →
    is_among [] names ≡ false → (nodes : List Node) (n : ℕ) → is_among (key_in (node_at nodes n).kind) names ≡ true → test (class_at (tags nodes) n) ≡ true
one_any test names all svg math none [] n h = never (sym none ∙ h)
one_any test names all svg math none (node ∷ nodes) zero h = one_class test names all svg math none node.kind h
one_any test names all svg math none (node ∷ nodes) (suc n) h = one_any test names all svg math none nodes n h

-- names of ordinary elements alone
pub record PlainNames (names : List (List ℕ)) : Type 0 where
  pub all : list_all (λ one. is_plain (name_class one)) names ≡ true
  pub svg : (name : List ℕ) → is_among (codes "svg " ++ name) names ≡ false
  pub math : (name : List ℕ) → is_among (codes "math " ++ name) names ≡ false
  pub none : is_among [] names ≡ false

pub implied_plain : PlainNames implied
implied_plain = record { all = refl; svg = λ name. refl; math = λ name. refl; none = refl }

pub only_named : (names : List (List ℕ)) → PlainNames names → (t : GrowingTree) → OnlyPlain t (is_one t names)
only_named names plain t n h = one_any is_plain names plain.all plain.svg plain.math plain.none t.nodes n h

pub in_implied : (r : ℕ) (c : Site) (t : GrowingTree) (but : List (List ℕ)) → In r c t → In r c (implied_of implied but t)
in_implied r c t but i =
    in_beyond r c t (λ n. is_one t implied n && not (is_one t but n))
    (λ n h. only_named implied implied_plain t n (both (is_one t implied n) (not (is_one t but n)) h).0) i

-- what ends each scope
ending_names : (names : List (List ℕ)) → names_have ends_it names Rattle.standard_order.proofs.NodeTags.classes ≡ true → (t : GrowingTree) (n : ℕ) →
    ends_it (class_at (tags t.nodes) n) ≡ true → is_one t names n ≡ true
ending_names names all t n e = class_is_one ends_it names all refl t n (element (class_at (tags t.nodes) n) e) e
  where
    element : (c : Cls) → ends_it c ≡ true → is_element c ≡ true
    element Rattle.standard_order.proofs.NodeTags.HtmlC h = refl
    element Rattle.standard_order.proofs.NodeTags.TemplateC h = refl
    element Rattle.standard_order.proofs.NodeTags.TableC h = refl
    element Rattle.standard_order.proofs.NodeTags.CellC h = refl
    element _ h = never h

abbrev pub is_wide : ScopeKind → Bool
is_wide TableScope = false
is_wide _ = true

pub scope_ends : (kind : ScopeKind) → is_wide kind ≡ true → (t : GrowingTree) (n : ℕ) → ends_it (class_at (tags t.nodes) n) ≡ true → ends_scope kind t n ≡ true
scope_ends Scope w t n e = ending_names scope refl t n e
scope_ends ListItemScope w t n e = ending_names list_item_scope refl t n e
scope_ends ButtonScope w t n e = ending_names button_scope refl t n e
scope_ends TableScope w t n e = never w

pub in_until : (r : ℕ) (c : Site) (t : GrowingTree) (kind : ScopeKind) (names : List (List ℕ)) → is_wide kind ≡ true → PlainNames names →
    in_scope (is_one t names) (ends_scope kind t) t.stack ≡ true → In r c t → In r c (popped_until names t)
in_until r c t kind names w plain scoped i =
    in_past r c t (is_one t names) (ends_scope kind t) (record { only = only_named names plain t; ending = scope_ends kind w t }) scoped i

pub in_without_p : (r : ℕ) (c : Site) (t : GrowingTree) → In r c t → In r c (without_p t)
in_without_p r c t i = by (has_in_scope ButtonScope (codes "p" ∷ []) t) refl
  where
    p_only : PlainNames (codes "p" ∷ [])
    p_only = record { all = refl; svg = λ name. refl; math = λ name. refl; none = refl }

    test : ℕ → Bool
    test n = is_one t implied n && not (is_one t (codes "p" ∷ []) n)

    apart : (n : ℕ) → test n ≡ true → is_one t (codes "p" ∷ []) n ≡ true → ⊥
    apart n h k = Rattle.standard_order.proofs.StandingStacks.opposite (is_one t (codes "p" ∷ []) n) (both (is_one t implied n) (not (is_one t (codes "p" ∷ []) n)) h).1 k

    by : (x : Bool) → has_in_scope ButtonScope (codes "p" ∷ []) t ≡ x → In r c (elim x as (λ _. GrowingTree) [ true ↦ closed_p t | false ↦ t ])
    by true e = in_until r c (implied_of implied (codes "p" ∷ []) t) ButtonScope (codes "p" ∷ []) refl p_only
        (in_scope_beyond (is_one t (codes "p" ∷ [])) (ends_scope ButtonScope t) test apart t.stack e) (in_implied r c t (codes "p" ∷ []) i)
    by false e = i

pub in_form_ended : (r : ℕ) (c : Site) (t : GrowingTree) (form : FormPointer) → PlainForm (tags t.nodes) form → In r c t → In r c (form_ended form t)
in_form_ended r c t NoForm p i = i
in_form_ended r c t FormOfContext p i = i
in_form_ended r c t (FormAt n) p i = by (in_scope (nat_eq n) (ends_scope Scope t) t.stack)
  where
    by : (x : Bool) → In r c (elim x as (λ _. GrowingTree) [ true ↦ unstacked n (implied_of implied [] t) | false ↦ t ])
    by true = in_unstacked r c (implied_of implied [] t) n p (in_implied r c t [] i)
    by false = i
