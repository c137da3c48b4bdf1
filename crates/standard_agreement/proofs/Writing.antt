-- Nodes that are inserted, and entries of the list of active formatting elements.
use Rattle.std.specs.Prelude.{◌≡◌, refl, ℕ, zero, suc, ◌<◌, ◌≤◌, Bool, true, false, nat_eq, List, [], ◌∷◌, ◌++◌, Option, None, Some}
use Rattle.std.specs.Prelude.{drop, length, reverse}
use Rattle.std.proofs.Common.{arith}
use Rattle.std.proofs.lemmas.List.{append-nil}
use mathlib.Core.Path.{◌∙◌, sym, ap, subst}
use Rattle.standard_tokens.specs.Tokens.{Attr}
use Rattle.standard_rules.specs.Building.{Entry as OldEntry, Listed, Marker as OldMarker, Open, enlisted as old_enlisted, needs_none}
use Rattle.standard_rules.specs.TreeTokens.{Trees, comment_node, joined, no_trees, text_node, with_char as old_with_char}
use Rattle.standard_rules.proofs.TreeLists.{ends_text, new_char}
use Rattle.standard_trees.specs.TreeStore.{CommentNode, ContentsNode, ElementNode, EndOf, Html, Kind, Node, TextNode, changed_at, is_document, last_of, leaf, node_at, node_before, put_at, removed, text_in}
use Rattle.standard_trees.specs.GrowingTree.{Entry, Formatting, GrowingTree, Marker, created, created_at, fresh, inserted, inserted_at, place}
use Rattle.standard_trees.specs.GrowingTree.{place_is_document, pushed, put, text_behind, top, with_char, with_comment, with_text}
use Rattle.standard_trees.specs.Formatting.{closed_entries, enlisted, reconstructed, reopened, without_third}
use Rattle.standard_agreement.proofs.Names.{IsKnown, no_template}
use Rattle.standard_agreement.proofs.Preorder.{At, NoTextEnd, TextEnd, after, after_joined, another, at_joined, element, grows, no_text_end, node_attrs, node_of, nothing, roots, roots_joined, text_end}
use Rattle.standard_agreement.proofs.Store.{Added, Held, added, at_changed, at_more, at_other, at_removed, free, held_kept, length_changed, length_more, length_removed, with_child}
use Rattle.standard_agreement.proofs.Stack.{IsRooted, kind_now, same_self}
use Rattle.standard_agreement.proofs.Listing.{AllBelow, Entries, below_third, Keeps, Linked, Matched, entries_kept, form_kept, none_closed, third_is}
use Rattle.standard_agreement.proofs.Parts.{AreBelow, Parts, below_less, place_is}

-- ---- elements stay what they are

kind_changed : (f : Node → Node) → ((node : Node) → (f node).kind ≡ node.kind) → (nodes : List Node) (n m : ℕ) → (node_at (changed_at f nodes n) m).kind ≡ (node_at nodes m).kind
kind_changed f same [] n m = refl
kind_changed f same (x ∷ nodes) zero zero = same x
kind_changed f same (x ∷ nodes) zero (suc m) = refl
kind_changed f same (x ∷ nodes) (suc n) zero = refl
kind_changed f same (x ∷ nodes) (suc n) (suc m) = kind_changed f same nodes n m

added_kind : (nodes : List Node) (p : ℕ) (x : Node) (m : ℕ) → m < length nodes → (node_at (put_at (length nodes) (EndOf p) (nodes ++ x ∷ [])) m).kind ≡ (node_at nodes m).kind
added_kind nodes p x m h =
    kind_changed (with_child (length nodes)) (λ node. refl) (removed (length nodes) (nodes ++ x ∷ [])) p m
    ∙ ap (λ (node : Node). node.kind) (at_removed (length nodes) (nodes ++ x ∷ []) m) ∙ ap (λ (node : Node). node.kind) (at_more nodes x m h)

abbrev pub open_of : ℕ → List ℕ → List Attr → Open
open_of number name attrs = record { number = number; name = name; attrs = attrs; children = no_trees }

-- ---- an element

abbrev pub grown_tree : GrowingTree → ℕ → Kind → GrowingTree
grown_tree t p kind = record t { nodes = put_at (length t.nodes) (EndOf p) (t.nodes ++ leaf kind ∷ []) }

pub inserted_is : (document : Trees) (o : Open) (os : List Open) (es : List OldEntry) (form : Option ℕ) (next : ℕ) (context : Option Kind) (t : GrowingTree) (name : List ℕ) (attrs : List Attr) →
    IsKnown name → Parts document (o ∷ os) es form next context t →
    inserted Html name (node_attrs attrs) t ≡ record (grown_tree t (free document os) (element name attrs)) { stack = length t.nodes ∷ t.stack }
inserted_is document o os es form next context t name attrs known p =
    ap (λ spot. inserted_at spot Html name (node_attrs attrs) t) (place_is document o os es form next context t p)
    ∙ ap (λ x. pushed (fresh t) (put (fresh t) (EndOf (free document os)) (elim x [
      | true ↦ created ContentsNode (created (ElementNode Html name (node_attrs attrs) (Some (suc (fresh t)))) t)
      | false ↦ created (ElementNode Html name (node_attrs attrs) None) t
    ]))) (no_template name known)

smaller : (k n : ℕ) → k < n → nat_eq n k ≡ false
smaller k n h = grind arith

grown_keeps : (document : Trees) (os : List Open) (next : ℕ) (t : GrowingTree) (p : ℕ) (kind : Kind) (name : List ℕ) (attrs : List Attr) → length t.nodes ≡ free document os →
    Keeps t.nodes (grown_tree t p kind).nodes next (suc next) document os (open_of next name attrs ∷ os)
grown_keeps document os next t p kind name attrs size = record {
  kinds = λ n other others l h. added_kind t.nodes p (leaf kind) n l ∙ h;
  old = omega arith;
  new = let e : length (grown_tree t p kind).nodes ≡ suc (length t.nodes) = grown_size t p kind in omega arith;
  matched = λ k n l u h. (smaller k next l ∙ sym (ap (λ m. nat_eq m n) (sym size) ∙ smaller n (length t.nodes) u), h);
}
  where
    grown_size : (t : GrowingTree) (p : ℕ) (kind : Kind) → length (grown_tree t p kind).nodes ≡ suc (length t.nodes)
    grown_size t p kind =
        length_changed (with_child (length t.nodes)) (removed (length t.nodes) (t.nodes ++ leaf kind ∷ [])) p
        ∙ length_removed (length t.nodes) (t.nodes ++ leaf kind ∷ []) ∙ length_more t.nodes (leaf kind)

pub insert_op : (document : Trees) (os : List Open) (es : List OldEntry) (form : Option ℕ) (next : ℕ) (context : Option Kind) (t : GrowingTree) (name : List ℕ) (attrs : List Attr) →
    IsKnown name → Parts document os es form next context t → Parts document (open_of next name attrs ∷ os) es form (suc next) context (inserted Html name (node_attrs attrs) t)
insert_op document [] es form next context t name attrs known p = absurd p.fits.3
insert_op document (o ∷ os) es form next context t name attrs known p =
    subst (Parts document (open_of next name attrs ∷ o ∷ os) es form (suc next) context) (sym (inserted_is document o os es form next context t name attrs known p)) parts
  where
    x : Node
    x = leaf (element name attrs)

    new : List Node
    new = put_at (length t.nodes) (EndOf (free document os)) (t.nodes ++ x ∷ [])

    a : Added t.nodes document o os x new
    a = added t.nodes document o os x refl p.fits.1 p.fits.0

    keeps : Keeps t.nodes new next (suc next) document (o ∷ os) (open_of next name attrs ∷ o ∷ os)
    keeps = grown_keeps document (o ∷ os) next t (free document os) (element name attrs) name attrs p.fits.1

    parts : Parts document (open_of next name attrs ∷ o ∷ os) es form (suc next) context (record (grown_tree t (free document os) (element name attrs)) { stack = length t.nodes ∷ t.stack })
    parts = record {
      fits = ((a.last, tt, a.held), a.size ∙ ap suc p.fits.1, (known, p.fits.2), p.fits.3);
      stack = ap (λ n. n ∷ t.stack) p.fits.1 ∙ ap (λ s. free document (o ∷ os) ∷ s) p.stack;
      listed = entries_kept t.nodes new next (suc next) document (o ∷ os) (open_of next name attrs ∷ o ∷ os) keeps es t.listed p.listed;
      pointer = form_kept t.nodes new next (suc next) document (o ∷ os) (open_of next name attrs ∷ o ∷ os) keeps form t.form p.pointer;
      below = (omega arith, p.below);
      fostering = p.fostering;
      around = p.around;
    }

-- the entries of the list come before the new element
all_below : (nodes : List Node) (next : ℕ) (document : Trees) (os : List Open) (es : List OldEntry) (fs : List Entry) → Entries nodes next document os es fs → AllBelow (length nodes) fs
all_below nodes next document os [] [] h = tt
all_below nodes next document os (OldMarker ∷ es) (Marker ∷ fs) h = all_below nodes next document os es fs h
all_below nodes next document os (Listed k name attrs ∷ es) (Formatting n ∷ fs) h = (h.0.new, all_below nodes next document os es fs h.2)
all_below nodes next document os [] (f ∷ fs) h = absurd h
all_below nodes next document os (OldMarker ∷ es) [] h = absurd h
all_below nodes next document os (Listed k name attrs ∷ es) [] h = absurd h
all_below nodes next document os (OldMarker ∷ es) (Formatting n ∷ fs) h = absurd h
all_below nodes next document os (Listed k name attrs ∷ es) (Marker ∷ fs) h = absurd h

-- the current node comes behind all that are listed
abbrev pub IsNewest : Trees → List Open → GrowingTree → Type 0
IsNewest document [] t = ⊥
IsNewest document (o ∷ os) t = AllBelow (free document os) t.listed

pub insert_newest : (document : Trees) (os : List Open) (es : List OldEntry) (form : Option ℕ) (next : ℕ) (context : Option Kind) (t : GrowingTree) (name : List ℕ) (attrs : List Attr) →
    IsKnown name → Parts document os es form next context t → IsNewest document (open_of next name attrs ∷ os) (inserted Html name (node_attrs attrs) t)
insert_newest document [] es form next context t name attrs known p = absurd p.fits.3
insert_newest document (o ∷ os) es form next context t name attrs known p =
    subst (λ (u : GrowingTree). AllBelow (free document (o ∷ os)) u.listed) (sym (inserted_is document o os es form next context t name attrs known p))
    (subst (λ n. AllBelow n t.listed) p.fits.1 (all_below t.nodes next document (o ∷ os) es t.listed p.listed))

-- ---- a text or a comment

-- a node without children is behind the last child
leaf_parts : (document : Trees) (o : Open) (os : List Open) (es : List OldEntry) (form : Option ℕ) (next : ℕ) (context : Option Kind) (t : GrowingTree) (kind : Kind) (one : Trees) →
    ((nodes : List Node) (n : ℕ) → node_at nodes n ≡ leaf kind → At nodes n one) → ((n : ℕ) → roots n one ≡ n ∷ []) → ((n : ℕ) → after n one ≡ suc n) →
    Parts document (o ∷ os) es form next context t → Parts document (record o { children = joined o.children one } ∷ os) es form next context (grown_tree t (free document os) kind)
leaf_parts document o os es form next context t kind one at begins ends p = record {
  fits = ((node, finished, a.held.2), size, p.fits.2, rooted os p.fits.3);
  stack = p.stack;
  listed = entries_kept t.nodes new next next document (o ∷ os) (q ∷ os) keeps es t.listed p.listed;
  pointer = form_kept t.nodes new next next document (o ∷ os) (q ∷ os) keeps form t.form p.pointer;
  below = p.below;
  fostering = p.fostering;
  around = p.around;
}
  where
    n : ℕ
    n = free document os

    q : Open
    q = record o { children = joined o.children one }

    new : List Node
    new = put_at (length t.nodes) (EndOf n) (t.nodes ++ leaf kind ∷ [])

    a : Added t.nodes document o os (leaf kind) new
    a = added t.nodes document o os (leaf kind) refl p.fits.1 p.fits.0

    node : node_at new n ≡ node_of (element o.name o.attrs) (roots (suc n) (joined o.children one) ++ [])
    node =
        a.held.0 ∙ ap (λ l. node_of (element o.name o.attrs) (roots (suc n) o.children ++ l)) (sym (begins (free document (o ∷ os))))
        ∙ ap (node_of (element o.name o.attrs)) (sym (roots_joined (suc n) o.children one) ∙ sym (append-nil (roots (suc n) (joined o.children one))))

    finished : At new (suc n) (joined o.children one)
    finished = at_joined new (suc n) o.children one a.held.1 (at new (free document (o ∷ os)) a.last)

    size : length new ≡ free document (q ∷ os)
    size = a.size ∙ ap suc p.fits.1 ∙ sym (ends (free document (o ∷ os))) ∙ sym (after_joined (suc n) o.children one)

    rooted : (ps : List Open) → IsRooted (o ∷ ps) → IsRooted (q ∷ ps)
    rooted [] h = h
    rooted (r ∷ ps) h = h

    keeps : Keeps t.nodes new next next document (o ∷ os) (q ∷ os)
    keeps = record {
      kinds = λ m other others l h. added_kind t.nodes n (leaf kind) m l ∙ h;
      old = omega arith;
      new = let e : length new ≡ suc (length t.nodes) = a.size in omega arith;
      matched = λ k m l u h. h;
    }

pub comment_op : (document : Trees) (o : Open) (os : List Open) (es : List OldEntry) (form : Option ℕ) (next : ℕ) (context : Option Kind) (t : GrowingTree) (text : List ℕ) →
    Parts document (o ∷ os) es form next context t →
    Parts document (record o { children = joined o.children (comment_node text no_trees) } ∷ os) es form next context (with_comment text (place t) t)
comment_op document o os es form next context t text p =
    subst (Parts document (record o { children = joined o.children (comment_node text no_trees) } ∷ os) es form next context)
    (ap (λ spot. created_at spot (CommentNode text) t) (sym (place_is document o os es form next context t p)))
    (leaf_parts document o os es form next context t (CommentNode text) (comment_node text no_trees) (λ nodes n h. (h, tt)) (λ n. refl) (λ n. refl) p)

-- a character that goes into a text
longer_parts : (document : Trees) (o : Open) (os : List Open) (es : List OldEntry) (form : Option ℕ) (next : ℕ) (context : Option Kind) (t : GrowingTree) (c : ℕ) →
    (e : TextEnd t.nodes (suc (free document os)) o.children) → Parts document (o ∷ os) es form next context t →
    Parts document (record o { children = old_with_char o.children c } ∷ os) es form next context (with_text t e.number (e.text ++ c ∷ []))
longer_parts document o os es form next context t c e p = record {
  fits = ((node, finished, below), size, p.fits.2, rooted os p.fits.3);
  stack = p.stack;
  listed = entries_kept t.nodes new next next document (o ∷ os) (q ∷ os) keeps es t.listed p.listed;
  pointer = form_kept t.nodes new next next document (o ∷ os) (q ∷ os) keeps form t.form p.pointer;
  below = p.below;
  fostering = p.fostering;
  around = p.around;
}
  where
    n : ℕ
    n = free document os

    m : ℕ
    m = e.number

    q : Open
    q = record o { children = old_with_char o.children c }

    f : Node → Node
    f node = record node { kind = TextNode (e.text ++ c ∷ []) }

    new : List Node
    new = changed_at f t.nodes m

    above : suc n ≤ m
    above = e.above

    inside : m < length t.nodes
    inside = let a : suc e.number ≡ after (suc (free document os)) o.children = e.is in let b : length t.nodes ≡ free document (o ∷ os) = p.fits.1 in omega arith

    node : node_at new n ≡ node_of (element o.name o.attrs) (roots (suc n) (old_with_char o.children c) ++ [])
    node = at_other f t.nodes m n (λ h. omega (arith, above)) ∙ p.fits.0.0 ∙ ap (λ l. node_of (element o.name o.attrs) (l ++ [])) (sym (e.roots c))

    finished : At new (suc n) (old_with_char o.children c)
    finished = e.grown c new (λ k l u. at_other f t.nodes m k (λ h. omega arith)) (at_changed f t.nodes m inside ∙ ap f e.node)

    below : Held new document os (n ∷ [])
    below = held_kept t.nodes new document os (n ∷ []) (λ k u. at_other f t.nodes m k (λ h. omega (arith, above))) p.fits.0.2

    size : length new ≡ free document (q ∷ os)
    size = length_changed f t.nodes m ∙ p.fits.1 ∙ sym (e.after c)

    rooted : (ps : List Open) → IsRooted (o ∷ ps) → IsRooted (q ∷ ps)
    rooted [] h = h
    rooted (r ∷ ps) h = h

    no_element : (k : ℕ) (name : List ℕ) (attrs : List Attr) → (node_at t.nodes k).kind ≡ element name attrs → k ≡ m → ⊥
    no_element k name attrs h same = differ (sym (ap (λ (x : Node). x.kind) e.node) ∙ ap (λ j. (node_at t.nodes j).kind) (sym same) ∙ h)
      where
        differ : TextNode e.text ≡ element name attrs → ⊥
        differ g = cc

    keeps : Keeps t.nodes new next next document (o ∷ os) (q ∷ os)
    keeps = record {
      kinds = λ k name attrs l h. ap (λ (x : Node). x.kind) (at_other f t.nodes m k (no_element k name attrs h)) ∙ h;
      old = omega arith;
      new = let s : length new ≡ length t.nodes = length_changed f t.nodes m in omega arith;
      matched = λ k j l u h. h;
    }

pub char_op : (document : Trees) (o : Open) (os : List Open) (es : List OldEntry) (form : Option ℕ) (next : ℕ) (context : Option Kind) (t : GrowingTree) (c : ℕ) →
    Parts document (o ∷ os) es form next context t → Parts document (record o { children = old_with_char o.children c } ∷ os) es form next context (with_char c t)
char_op document o os es form next context t c p =
    subst (Parts document q es form next context) (sym behind) (by_end (ends_text o.children) refl)
  where
    n : ℕ
    n = free document os

    q : List Open
    q = record o { children = old_with_char o.children c } ∷ os

    behind : with_char c t ≡ text_behind (last_of (roots (suc n) o.children)) (EndOf n) c t
    behind =
        ap (λ spot. elim (place_is_document t spot) [ true ↦ t | false ↦ text_behind (node_before t.nodes spot) spot c t ]) (place_is document o os es form next context t p)
        ∙ ap (λ kind. elim (is_document kind) [ true ↦ t | false ↦ text_behind (node_before t.nodes (EndOf n)) (EndOf n) c t ]) (kind_now t document o os [] p.fits.0)
        ∙ ap (λ (node : Node). text_behind (last_of node.children) (EndOf n) c t) p.fits.0.0
        ∙ ap (λ l. text_behind (last_of l) (EndOf n) c t) (append-nil (roots (suc n) o.children))

    new_text : ends_text o.children ≡ false → Parts document q es form next context (grown_tree t n (TextNode (c ∷ [])))
    new_text h =
        subst (λ l. Parts document (record o { children = l } ∷ os) es form next context (grown_tree t n (TextNode (c ∷ [])))) (sym (new_char o.children c h))
        (leaf_parts document o os es form next context t (TextNode (c ∷ [])) (text_node (c ∷ []) no_trees) (λ nodes k a. (a, tt)) (λ k. refl) (λ k. refl) p)

    by_last : ends_text o.children ≡ false → NoTextEnd t.nodes (roots (suc n) o.children) →
        Parts document q es form next context (text_behind (last_of (roots (suc n) o.children)) (EndOf n) c t)
    by_last h (nothing is) = subst (λ l. Parts document q es form next context (text_behind l (EndOf n) c t)) (sym is) (new_text h)
    by_last h (another m is other) =
        subst (λ l. Parts document q es form next context (text_behind l (EndOf n) c t)) (sym is)
        (subst (λ x. Parts document q es form next context (elim x [ Some text ↦ with_text t m (text ++ c ∷ []) | None ↦ created_at (EndOf n) (TextNode (c ∷ [])) t ])) (sym other) (new_text h))

    by_text : (e : TextEnd t.nodes (suc n) o.children) → Parts document q es form next context (text_behind (last_of (roots (suc n) o.children)) (EndOf n) c t)
    by_text e =
        subst (λ l. Parts document q es form next context (text_behind l (EndOf n) c t)) (sym e.last)
        (subst (λ x. Parts document q es form next context (elim x [ Some text ↦ with_text t e.number (text ++ c ∷ []) | None ↦ created_at (EndOf n) (TextNode (c ∷ [])) t ]))
        (sym (ap (λ (node : Node). text_in node.kind) e.node)) (longer_parts document o os es form next context t c e p))

    by_end : (x : Bool) → ends_text o.children ≡ x → Parts document q es form next context (text_behind (last_of (roots (suc n) o.children)) (EndOf n) c t)
    by_end true h = by_text (text_end t.nodes (suc n) o.children h p.fits.0.1)
    by_end false h = by_last h (no_text_end t.nodes (suc n) o.children h p.fits.0.1)

-- ---- the list of active formatting elements

other_number : (m k : ℕ) → m < k → nat_eq m k ≡ false
other_number m k h = grind arith

matched_lower : (document : Trees) (k n : ℕ) (os : List Open) → AreBelow k os → free document os ≤ n → Matched k n document os
matched_lower document k n [] h l = tt
matched_lower document k n (o ∷ os) h l =
    let g : suc (free document os) ≤ after (suc (free document os)) o.children = grows (suc (free document os)) o.children in
    (other_number o.number k h.0 ∙ sym (other_number (free document os) n (omega arith)), matched_lower document k n os (below_less o.number k os h.0 h.1) (omega arith))

pub current_linked : (document : Trees) (o : Open) (os : List Open) (es : List OldEntry) (form : Option ℕ) (next : ℕ) (context : Option Kind) (t : GrowingTree) →
    Parts document (o ∷ os) es form next context t → Linked t.nodes next document (o ∷ os) o.number o.name o.attrs (free document os)
current_linked document o os es form next context t p =
    let g : suc (free document os) ≤ after (suc (free document os)) o.children = grows (suc (free document os)) o.children in
    let s : length t.nodes ≡ free document (o ∷ os) = p.fits.1 in
    record {
      kind = kind_now t document o os [] p.fits.0;
      known = p.fits.2.0;
      old = p.below.0;
      new = omega arith;
      matched = (same_self o.number ∙ sym (same_self (free document os)), matched_lower document o.number (free document os) os p.below.1 (omega arith));
    }

pub list_op : (document : Trees) (os : List Open) (es : List OldEntry) (form : Option ℕ) (next : ℕ) (context : Option Kind) (t : GrowingTree) →
    Parts document os es form next context t → IsNewest document os t → Parts document os (old_enlisted os es) form next context (enlisted t)
list_op document [] es form next context t p newest = absurd newest
list_op document (o ∷ os) es form next context t p newest =
    subst (λ n. Parts document (o ∷ os) (old_enlisted (o ∷ os) es) form next context (record t { listed = Formatting n ∷ without_third t n 0 t.listed })) (sym (ap top p.stack)) (record {
      fits = p.fits;
      stack = p.stack;
      listed = (
        current_linked document o os es form next context t p,
        below_third t (free document os) (free document os) 0 t.listed newest,
        third_is t next document (o ∷ os) (free document os) o.name o.attrs (kind_now t document o os [] p.fits.0) 0 es t.listed p.listed,
      );
      pointer = p.pointer;
      below = p.below;
      fostering = p.fostering;
      around = p.around;
    })

pub nothing_reopened : (document : Trees) (os : List Open) (es : List OldEntry) (form : Option ℕ) (next : ℕ) (context : Option Kind) (t : GrowingTree) →
    Parts document os es form next context t → needs_none es os ≡ true → reconstructed t ≡ t
nothing_reopened document os es form next context t p need =
    ap (λ (entries : List ℕ). reopened (reverse entries) (record t { listed = drop (length entries) t.listed }))
    (ap (λ s. closed_entries s t.listed) p.stack ∙ none_closed t.nodes next document os es t.listed p.listed need)
