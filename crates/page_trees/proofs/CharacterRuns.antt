-- "Insert a character" for each character of a run is one text at the appropriate place.
use Rattle.std.proofs.Common.{◌≡◌, ℕ, suc, zero, ◌<◌, ◌≤◌, Bool, true, false, List, [], ◌∷◌, ◌++◌, refl, sym, ap, ◌∙◌, length, Option, Some, None, arith, inl, inr, subst}
use Rattle.std.specs.Prelude.{codes, cond, get_or, nat_eq, not, unwrap_or, ◌&&◌, ◌||◌}
use Rattle.std.proofs.lemmas.Bool.{cases_Bool, eqb-true, ne_eqb}
use Rattle.standard_trees.specs.GrowingTree.{GrowingTree, created_at, current, foster_place, in_contents, is_among, is_one, kind_of, place, place_is_document}
use Rattle.standard_trees.specs.GrowingTree.{text_behind, with_char, with_chars, with_text}
use Rattle.standard_trees.specs.NameLists.{fostering_names}
use Rattle.standard_trees.specs.TreeStore.{Before, ContentsNode, EndOf, Kind, Node, Place, TextNode, attrs_in, changed_at, contents_in, is_document, is_member, key_in, leaf}
use Rattle.standard_trees.specs.TreeStore.{node_at, node_before, parent_from, parent_of, placed_before, put_at, removed, space_in, text_in, without}
use Rattle.dom_links.specs.Contents.{changed_at as changed}
use Rattle.page_trees.specs.SameNodes.{text_after, with_kind_at, with_text_at}
use Rattle.page_trees.proofs.StoreLemmas.{kind_at, kinds, kinds_changed, kinds_more, kinds_put, length_nodes, old_node, with_children, with_kind_of}
use Rattle.page_trees.proofs.TextRuns.{IsThere, texts_join}

-- ---- kinds

-- what the place depends on in a kind
pub record Looks (old new : Kind) : Type 0 where
  pub key : key_in new ≡ key_in old
  pub contents : contents_in new ≡ contents_in old
  pub document : is_document new ≡ is_document old
  pub space : space_in new ≡ space_in old
  pub attrs : attrs_in new ≡ attrs_in old

looks_same : (kind : Kind) → Looks kind kind
looks_same kind = record { key = refl; contents = refl; document = refl; space = refl; attrs = refl }

looks_more : (ks : List Kind) (text : List ℕ) (n : ℕ) → Looks (get_or ks n ContentsNode) (get_or (ks ++ TextNode text ∷ []) n ContentsNode)
looks_more [] text zero = record { key = refl; contents = refl; document = refl; space = refl; attrs = refl }
looks_more [] text (suc n) = looks_same ContentsNode
looks_more (k ∷ ks) text zero = looks_same k
looks_more (k ∷ ks) text (suc n) = looks_more ks text n

looks_text : (kind : Kind) (old text : List ℕ) → text_in kind ≡ Some old → Looks kind (TextNode text)
looks_text (TextNode one) old text e = record { key = refl; contents = refl; document = refl; space = refl; attrs = refl }
looks_text _ old text e = cc

looks_changed : (ks : List Kind) (old text : List ℕ) (m n : ℕ) → text_in (get_or ks m ContentsNode) ≡ Some old → Looks (get_or ks n ContentsNode) (get_or (changed m (λ _. TextNode text) ks) n ContentsNode)
looks_changed [] old text m n e = looks_same ContentsNode
looks_changed (k ∷ ks) old text zero zero e = looks_text k old text e
looks_changed (k ∷ ks) old text zero (suc n) e = looks_same (get_or ks n ContentsNode)
looks_changed (k ∷ ks) old text (suc m) zero e = looks_same k
looks_changed (k ∷ ks) old text (suc m) (suc n) e = looks_changed ks old text m n e

-- the kinds of the nodes look as before, where a text was added
pub looks_kept : (nodes : List Node) (spot : Place) (text : List ℕ) (n : ℕ) → Looks (node_at nodes n).kind (node_at (with_text_at text spot nodes) n).kind
looks_kept nodes spot text n = by (node_before nodes spot)
  where
    at_kinds : (new : List Node) (ks : List Kind) → kinds new ≡ ks → Looks (get_or (kinds nodes) n ContentsNode) (get_or ks n ContentsNode) → Looks (node_at nodes n).kind (node_at new n).kind
    at_kinds new ks e looks =
        let is : (node_at new n).kind ≡ get_or ks n ContentsNode = kind_at new n ∙ ap (λ (all : List Kind). get_or all n ContentsNode) e in
        record {
          key = ap key_in is ∙ looks.key ∙ sym (ap key_in (kind_at nodes n));
          contents = ap contents_in is ∙ looks.contents ∙ sym (ap contents_in (kind_at nodes n));
          document = ap is_document is ∙ looks.document ∙ sym (ap is_document (kind_at nodes n));
          space = ap space_in is ∙ looks.space ∙ sym (ap space_in (kind_at nodes n));
          attrs = ap attrs_in is ∙ looks.attrs ∙ sym (ap attrs_in (kind_at nodes n));
        }

    made : Looks (node_at nodes n).kind (node_at (with_kind_at (TextNode text) spot nodes) n).kind
    made =
        at_kinds (with_kind_at (TextNode text) spot nodes) (kinds nodes ++ TextNode text ∷ []) (kinds_put (length nodes) spot (nodes ++ leaf (TextNode text) ∷ []) ∙ kinds_more nodes (TextNode text)) (looks_more (kinds nodes) text n)

    at_node : (m : ℕ) (o : Option (List ℕ)) → text_in (node_at nodes m).kind ≡ o → Looks (node_at nodes n).kind (node_at (text_after (Some m) text spot nodes) n).kind
    at_node m None e =
        subst (λ (new : List Node). Looks (node_at nodes n).kind (node_at new n).kind)
        (sym (ap (λ (p : Option (List ℕ)). elim p [ Some before ↦ changed_at (with_kind_of (TextNode (before ++ text))) nodes m | None ↦ with_kind_at (TextNode text) spot nodes ]) e)) made
    at_node m (Some old) e =
        subst (λ (new : List Node). Looks (node_at nodes n).kind (node_at new n).kind)
        (sym (ap (λ (p : Option (List ℕ)). elim p [ Some before ↦ changed_at (with_kind_of (TextNode (before ++ text))) nodes m | None ↦ with_kind_at (TextNode text) spot nodes ]) e))
        (at_kinds (changed_at (with_kind_of (TextNode (old ++ text))) nodes m) (changed m (λ _. TextNode (old ++ text)) (kinds nodes)) (kinds_changed (TextNode (old ++ text)) nodes m)
        (looks_changed (kinds nodes) old (old ++ text) m n (ap text_in (sym (kind_at nodes m)) ∙ e)))

    by : (o : Option ℕ) → Looks (node_at nodes n).kind (node_at (text_after o text spot nodes) n).kind
    by None = made
    by (Some m) = at_node m (text_in (node_at nodes m).kind) refl

-- ---- parents

-- lists in which a number stands where it stood
member_less : (x m : ℕ) (ns : List ℕ) → nat_eq m x ≡ false → is_member m (without x ns) ≡ is_member m ns
member_less x m [] other = refl
member_less x m (n ∷ ns) other = elim (cases_Bool (nat_eq n x)) [
  | inl gone ↦ (let apart : nat_eq m n ≡ false = ap (nat_eq m) (eqb-true n x gone) ∙ other in
      ap (λ b. is_member m (cond (not b) (n ∷ without x ns) (without x ns))) gone ∙ member_less x m ns other ∙ sym (ap (λ b. b || is_member m ns) apart))
  | inr stays ↦ ap (λ b. is_member m (cond (not b) (n ∷ without x ns) (without x ns))) stays ∙ ap (λ b. nat_eq m n || b) (member_less x m ns other)
]

member_last : (x m : ℕ) (ns : List ℕ) → nat_eq m x ≡ false → is_member m (ns ++ x ∷ []) ≡ is_member m ns
member_last x m [] other = ap (λ b. b || false) other
member_last x m (n ∷ ns) other = ap (λ b. nat_eq m n || b) (member_last x m ns other)

member_beside : (x k m : ℕ) (ns : List ℕ) → nat_eq m x ≡ false → is_member m (placed_before x k ns) ≡ is_member m ns
member_beside x k m [] other = ap (λ b. b || false) other
member_beside x k m (n ∷ ns) other = elim (cases_Bool (nat_eq n k)) [
  | inl t ↦ ap (λ b. is_member m (elim b [ true ↦ x ∷ n ∷ ns | false ↦ n ∷ placed_before x k ns ])) t ∙ ap (λ b. b || (nat_eq m n || is_member m ns)) other
  | inr f ↦ ap (λ b. is_member m (elim b [ true ↦ x ∷ n ∷ ns | false ↦ n ∷ placed_before x k ns ])) f ∙ ap (λ b. nat_eq m n || b) (member_beside x k m ns other)
]

abbrev found_or : ℕ → Option ℕ → Bool → Option ℕ
found_or i o true = Some i
found_or i o false = o

-- the same lists of children, as far as one number goes
abbrev AreAlike : ℕ → List Node → List Node → Type 0
AreAlike m [] [] = Unit {0}
AreAlike m [] (y ∷ ys) = ⊥
AreAlike m (x ∷ xs) [] = ⊥
AreAlike m (x ∷ xs) (y ∷ ys) = (is_member m x.children ≡ is_member m y.children) × AreAlike m xs ys

by_test : (i : ℕ) (o : Option ℕ) (b : Bool) → (elim b [ true ↦ Some i | false ↦ o ]) ≡ found_or i o b
by_test i o true = refl
by_test i o false = refl

parents_alike : (m i : ℕ) (xs ys : List Node) → AreAlike m xs ys → parent_from i m xs ≡ parent_from i m ys
parents_alike m i [] [] all = refl
parents_alike m i [] (y ∷ ys) all = absurd all
parents_alike m i (x ∷ xs) [] all = absurd all
parents_alike m i (x ∷ xs) (y ∷ ys) all =
    by_test i (parent_from (suc i) m xs) (is_member m x.children) ∙ ap (found_or i (parent_from (suc i) m xs)) all.0
    ∙ ap (λ (o : Option ℕ). found_or i o (is_member m y.children)) (parents_alike m (suc i) xs ys all.1) ∙ sym (by_test i (parent_from (suc i) m ys) (is_member m y.children))

alike_same : (m : ℕ) (xs : List Node) → AreAlike m xs xs
alike_same m [] = tt
alike_same m (x ∷ xs) = (refl, alike_same m xs)

alike_removed : (x m : ℕ) (nodes : List Node) → nat_eq m x ≡ false → AreAlike m (removed x nodes) nodes
alike_removed x m [] other = tt
alike_removed x m (node ∷ nodes) other = (member_less x m node.children other, alike_removed x m nodes other)

alike_changed : (g : List ℕ → List ℕ) (m : ℕ) (nodes : List Node) (p : ℕ) → ((ns : List ℕ) → is_member m (g ns) ≡ is_member m ns) → AreAlike m (changed_at (with_children g) nodes p) nodes
alike_changed g m [] p same = tt
alike_changed g m (node ∷ nodes) zero same = (same node.children, alike_same m nodes)
alike_changed g m (node ∷ nodes) (suc p) same = (refl, alike_changed g m nodes p same)

alike_kind : (kind : Kind) (m : ℕ) (nodes : List Node) (p : ℕ) → AreAlike m (changed_at (with_kind_of kind) nodes p) nodes
alike_kind kind m [] p = tt
alike_kind kind m (node ∷ nodes) zero = (refl, alike_same m nodes)
alike_kind kind m (node ∷ nodes) (suc p) = (refl, alike_kind kind m nodes p)

parent_more : (m i : ℕ) (nodes : List Node) (kind : Kind) → parent_from i m (nodes ++ leaf kind ∷ []) ≡ parent_from i m nodes
parent_more m i [] kind = refl
parent_more m i (node ∷ nodes) kind =
    by_test i (parent_from (suc i) m (nodes ++ leaf kind ∷ [])) (is_member m node.children)
    ∙ ap (λ (o : Option ℕ). found_or i o (is_member m node.children)) (parent_more m (suc i) nodes kind) ∙ sym (by_test i (parent_from (suc i) m nodes) (is_member m node.children))

parent_put : (x m : ℕ) (spot : Place) (nodes : List Node) → nat_eq m x ≡ false → parent_of (put_at x spot nodes) m ≡ parent_of nodes m
parent_put x m (EndOf p) nodes other =
    parents_alike m 0 (put_at x (EndOf p) nodes) (removed x nodes) (alike_changed (λ ns. ns ++ x ∷ []) m (removed x nodes) p (λ ns. member_last x m ns other))
    ∙ parents_alike m 0 (removed x nodes) nodes (alike_removed x m nodes other)
parent_put x m (Before p k) nodes other =
    parents_alike m 0 (put_at x (Before p k) nodes) (removed x nodes) (alike_changed (placed_before x k) m (removed x nodes) p (λ ns. member_beside x k m ns other))
    ∙ parents_alike m 0 (removed x nodes) nodes (alike_removed x m nodes other)

parent_kept : (nodes : List Node) (spot : Place) (text : List ℕ) (m : ℕ) → m < length nodes → parent_of (with_text_at text spot nodes) m ≡ parent_of nodes m
parent_kept nodes spot text m low = by (node_before nodes spot)
  where
    other : nat_eq m (length nodes) ≡ false
    other = ne_eqb m (length nodes) (λ e. absurd (omega (arith, low, e)))

    made : parent_of (with_kind_at (TextNode text) spot nodes) m ≡ parent_of nodes m
    made = parent_put (length nodes) m spot (nodes ++ leaf (TextNode text) ∷ []) other ∙ parent_more m 0 nodes (TextNode text)

    at_node : (n : ℕ) (o : Option (List ℕ)) → text_in (node_at nodes n).kind ≡ o → parent_of (text_after (Some n) text spot nodes) m ≡ parent_of nodes m
    at_node n None e =
        ap (λ (new : List Node). parent_of new m) (ap (λ (p : Option (List ℕ)). elim p [ Some before ↦ changed_at (with_kind_of (TextNode (before ++ text))) nodes n | None ↦ with_kind_at (TextNode text) spot nodes ]) e) ∙ made
    at_node n (Some old) e =
        ap (λ (new : List Node). parent_of new m) (ap (λ (p : Option (List ℕ)). elim p [ Some before ↦ changed_at (with_kind_of (TextNode (before ++ text))) nodes n | None ↦ with_kind_at (TextNode text) spot nodes ]) e)
        ∙ parents_alike m 0 (changed_at (with_kind_of (TextNode (old ++ text))) nodes n) nodes (alike_kind (TextNode (old ++ text)) m nodes n)

    by : (o : Option ℕ) → parent_of (text_after o text spot nodes) m ≡ parent_of nodes m
    by None = made
    by (Some n) = at_node n (text_in (node_at nodes n).kind) refl

-- ---- the place stays

-- numbers below another
abbrev pub AreLow : ℕ → List ℕ → Type 0
AreLow n [] = Unit {0}
AreLow n (m ∷ ms) = (m < n) × AreLow n ms

-- a text is added at a place
abbrev pub grown : List ℕ → Place → GrowingTree → GrowingTree
grown text spot t = record t { nodes = with_text_at text spot t.nodes }

one_kept : (t : GrowingTree) (spot : Place) (text : List ℕ) (names : List (List ℕ)) (n : ℕ) → is_one (grown text spot t) names n ≡ is_one t names n
one_kept t spot text names n = ap (λ (key : List ℕ). is_among key names) (looks_kept t.nodes spot text n).key

abbrev foster_step : (a b : Bool) (r : Option ℕ) (n m : ℕ) (rest : Place) → Place
foster_step true b r n m rest = EndOf n
foster_step false true (Some p) n m rest = Before p n
foster_step false true None n m rest = EndOf m
foster_step false false r n m rest = rest

as_step : (a b : Bool) (r : Option ℕ) (n m : ℕ) (rest : Place) →
    (elim a [ true ↦ EndOf n | false ↦ elim b [ true ↦ elim r [ Some p ↦ Before p n | None ↦ EndOf m ] | false ↦ rest ] ]) ≡ foster_step a b r n m rest
as_step true b r n m rest = refl
as_step false true (Some p) n m rest = refl
as_step false true None n m rest = refl
as_step false false r n m rest = refl

foster_kept : (t : GrowingTree) (spot : Place) (text : List ℕ) (ns : List ℕ) → AreLow (length t.nodes) ns → foster_place (grown text spot t) ns ≡ foster_place t ns
foster_kept t spot text [] low = refl
foster_kept t spot text (n ∷ []) low = refl
foster_kept t spot text (n ∷ m ∷ ns) low =
    let u : GrowingTree = grown text spot t in
    as_step (is_one u (codes "template" ∷ []) n) (is_one u (codes "table" ∷ []) n) (parent_of u.nodes n) n m (foster_place u (m ∷ ns))
    ∙ ap (λ (a : Bool). foster_step a (is_one u (codes "table" ∷ []) n) (parent_of u.nodes n) n m (foster_place u (m ∷ ns))) (one_kept t spot text (codes "template" ∷ []) n)
    ∙ ap (λ (b : Bool). foster_step (is_one t (codes "template" ∷ []) n) b (parent_of u.nodes n) n m (foster_place u (m ∷ ns))) (one_kept t spot text (codes "table" ∷ []) n)
    ∙ ap (λ (r : Option ℕ). foster_step (is_one t (codes "template" ∷ []) n) (is_one t (codes "table" ∷ []) n) r n m (foster_place u (m ∷ ns))) (parent_kept t.nodes spot text n low.0)
    ∙ ap (foster_step (is_one t (codes "template" ∷ []) n) (is_one t (codes "table" ∷ []) n) (parent_of t.nodes n) n m) (foster_kept t spot text (m ∷ ns) low.1)
    ∙ sym (as_step (is_one t (codes "template" ∷ []) n) (is_one t (codes "table" ∷ []) n) (parent_of t.nodes n) n m (foster_place t (m ∷ ns)))

contents_kept : (t : GrowingTree) (at : Place) (spot : Place) (text : List ℕ) → in_contents (grown text spot t) at ≡ in_contents t at
contents_kept t (EndOf p) spot text = ap (λ (o : Option ℕ). EndOf (unwrap_or o p)) (looks_kept t.nodes spot text p).contents
contents_kept t (Before p m) spot text = ap (λ (o : Option ℕ). elim o [ Some k ↦ EndOf k | None ↦ Before p m ]) (looks_kept t.nodes spot text p).contents

pub place_kept : (t : GrowingTree) (spot : Place) (text : List ℕ) → AreLow (length t.nodes) t.stack → place (grown text spot t) ≡ place t
place_kept t spot text low =
    let u : GrowingTree = grown text spot t in
    let test : Bool = is_one t fostering_names (current t) in
    contents_kept t (elim (t.fostering && is_one u fostering_names (current t)) [ true ↦ foster_place u t.stack | false ↦ EndOf (current t) ]) spot text
    ∙ ap (λ (b : Bool). in_contents t (elim (t.fostering && b) [ true ↦ foster_place u t.stack | false ↦ EndOf (current t) ])) (one_kept t spot text fostering_names (current t))
    ∙ ap (λ (at : Place). in_contents t (elim (t.fostering && test) [ true ↦ at | false ↦ EndOf (current t) ])) (foster_kept t spot text t.stack low)

-- ---- runs

-- a tree into which characters are inserted at this place: the open elements are nodes, and it is no place of the Document
pub record TakesTexts (t : GrowingTree) (spot : Place) : Type 0 where
  pub low : AreLow (length t.nodes) t.stack
  pub there : IsThere t.nodes spot
  pub at : place t ≡ spot
  pub inside : place_is_document t spot ≡ false

-- nothing gets fewer
length_kept : (nodes : List Node) (spot : Place) (text : List ℕ) → length nodes ≤ length (with_text_at text spot nodes)
length_kept nodes spot text = by (node_before nodes spot)
  where
    of_kinds : (xs : List Node) → length (kinds xs) ≡ length xs
    of_kinds [] = refl
    of_kinds (x ∷ xs) = ap suc (of_kinds xs)

    changed_long : (ks : List Kind) (n : ℕ) (kind : Kind) → length (changed n (λ _. kind) ks) ≡ length ks
    changed_long [] n kind = refl
    changed_long (k ∷ ks) zero kind = refl
    changed_long (k ∷ ks) (suc n) kind = ap suc (changed_long ks n kind)

    made : length nodes ≤ length (with_kind_at (TextNode text) spot nodes)
    made =
        let new : List Node = with_kind_at (TextNode text) spot nodes in
        let more : List Node = nodes ++ leaf (TextNode text) ∷ [] in
        let one = of_kinds new in
        let two = of_kinds more in
        let same = ap (λ (ks : List Kind). length ks) (kinds_put (length nodes) spot more) in
        let long = length_nodes nodes (leaf (TextNode text)) in
        omega (arith, one, two, same, long)

    at_node : (n : ℕ) (o : Option (List ℕ)) → text_in (node_at nodes n).kind ≡ o → length nodes ≤ length (text_after (Some n) text spot nodes)
    at_node n None e =
        subst (λ (new : List Node). length nodes ≤ length new)
        (sym (ap (λ (p : Option (List ℕ)). elim p [ Some before ↦ changed_at (with_kind_of (TextNode (before ++ text))) nodes n | None ↦ with_kind_at (TextNode text) spot nodes ]) e)) made
    at_node n (Some old) e =
        let new : List Node = changed_at (with_kind_of (TextNode (old ++ text))) nodes n in
        let one = of_kinds new in
        let two = of_kinds nodes in
        let same = ap (λ (ks : List Kind). length ks) (kinds_changed (TextNode (old ++ text)) nodes n) ∙ changed_long (kinds nodes) n (TextNode (old ++ text)) in
        subst (λ (all : List Node). length nodes ≤ length all)
        (sym (ap (λ (p : Option (List ℕ)). elim p [ Some before ↦ changed_at (with_kind_of (TextNode (before ++ text))) nodes n | None ↦ with_kind_at (TextNode text) spot nodes ]) e))
        (omega (arith, one, two, same))

    by : (o : Option ℕ) → length nodes ≤ length (text_after o text spot nodes)
    by None = made
    by (Some n) = at_node n (text_in (node_at nodes n).kind) refl

low_more : (n k : ℕ) (ms : List ℕ) → n ≤ k → AreLow n ms → AreLow k ms
low_more n k [] h low = tt
low_more n k (m ∷ ms) h low =
    let first = low.0 in
    (omega (arith, first, h), low_more n k ms h low.1)

alike_at : (m p : ℕ) (xs ys : List Node) → AreAlike m xs ys → is_member m (node_at xs p).children ≡ is_member m (node_at ys p).children
alike_at m p [] [] all = refl
alike_at m p [] (y ∷ ys) all = absurd all
alike_at m p (x ∷ xs) [] all = absurd all
alike_at m zero (x ∷ xs) (y ∷ ys) all = all.0
alike_at m (suc p) (x ∷ xs) (y ∷ ys) all = alike_at m p xs ys all.1

member_put : (x m q : ℕ) (spot : Place) (nodes : List Node) → nat_eq m x ≡ false → is_member m (node_at (put_at x spot nodes) q).children ≡ is_member m (node_at nodes q).children
member_put x m q (EndOf p) nodes other =
    alike_at m q (put_at x (EndOf p) nodes) (removed x nodes) (alike_changed (λ ns. ns ++ x ∷ []) m (removed x nodes) p (λ ns. member_last x m ns other))
    ∙ alike_at m q (removed x nodes) nodes (alike_removed x m nodes other)
member_put x m q (Before p k) nodes other =
    alike_at m q (put_at x (Before p k) nodes) (removed x nodes) (alike_changed (placed_before x k) m (removed x nodes) p (λ ns. member_beside x k m ns other))
    ∙ alike_at m q (removed x nodes) nodes (alike_removed x m nodes other)

member_kept : (nodes : List Node) (spot : Place) (text : List ℕ) (m q : ℕ) → m < length nodes → q < length nodes →
    is_member m (node_at (with_text_at text spot nodes) q).children ≡ is_member m (node_at nodes q).children
member_kept nodes spot text m q low inside = by (node_before nodes spot)
  where
    other : nat_eq m (length nodes) ≡ false
    other = ne_eqb m (length nodes) (λ e. absurd (omega (arith, low, e)))

    made : is_member m (node_at (with_kind_at (TextNode text) spot nodes) q).children ≡ is_member m (node_at nodes q).children
    made = member_put (length nodes) m q spot (nodes ++ leaf (TextNode text) ∷ []) other ∙ ap (λ (node : Node). is_member m node.children) (old_node nodes (leaf (TextNode text)) q inside)

    at_node : (n : ℕ) (o : Option (List ℕ)) → text_in (node_at nodes n).kind ≡ o → is_member m (node_at (text_after (Some n) text spot nodes) q).children ≡ is_member m (node_at nodes q).children
    at_node n None e =
        ap (λ (new : List Node). is_member m (node_at new q).children) (ap (λ (p : Option (List ℕ)). elim p [ Some before ↦ changed_at (with_kind_of (TextNode (before ++ text))) nodes n | None ↦ with_kind_at (TextNode text) spot nodes ]) e) ∙ made
    at_node n (Some old) e =
        ap (λ (new : List Node). is_member m (node_at new q).children) (ap (λ (p : Option (List ℕ)). elim p [ Some before ↦ changed_at (with_kind_of (TextNode (before ++ text))) nodes n | None ↦ with_kind_at (TextNode text) spot nodes ]) e)
        ∙ alike_at m q (changed_at (with_kind_of (TextNode (old ++ text))) nodes n) nodes (alike_kind (TextNode (old ++ text)) m nodes n)

    by : (o : Option ℕ) → is_member m (node_at (text_after o text spot nodes) q).children ≡ is_member m (node_at nodes q).children
    by None = made
    by (Some n) = at_node n (text_in (node_at nodes n).kind) refl

there_kept : (nodes : List Node) (spot at : Place) (text : List ℕ) → IsThere nodes at → IsThere (with_text_at text spot nodes) at
there_kept nodes spot (EndOf p) text h = (let long = length_kept nodes spot text in omega (arith, long, h))
there_kept nodes spot (Before p m) text h =
    let long = length_kept nodes spot text in
    let one = h.0 in
    let two = h.1 in
    (omega (arith, long, one), omega (arith, long, two), member_kept nodes spot text m p two one ∙ h.2)

inside_kept : (t : GrowingTree) (spot at : Place) (text : List ℕ) → place_is_document t at ≡ false → place_is_document (grown text spot t) at ≡ false
inside_kept t spot (EndOf p) text h = (looks_kept t.nodes spot text p).document ∙ h
inside_kept t spot (Before p m) text h = (looks_kept t.nodes spot text p).document ∙ h

pub takes_more : (t : GrowingTree) (spot : Place) (text : List ℕ) → TakesTexts t spot → TakesTexts (grown text spot t) spot
takes_more t spot text takes = record {
  low = low_more (length t.nodes) (length (with_text_at text spot t.nodes)) t.stack (length_kept t.nodes spot text) takes.low;
  there = there_kept t.nodes spot spot text takes.there;
  at = place_kept t spot text takes.low ∙ takes.at;
  inside = inside_kept t spot spot text takes.inside;
}

-- one character
behind_is : (t : GrowingTree) (spot : Place) (c : ℕ) (o : Option ℕ) → text_behind o spot c t ≡ record t { nodes = text_after o (c ∷ []) spot t.nodes }
behind_is t spot c None = refl
behind_is t spot c (Some n) = at_node (text_in (kind_of t n)) refl
  where
    at_node : (o : Option (List ℕ)) → text_in (kind_of t n) ≡ o → text_behind (Some n) spot c t ≡ record t { nodes = text_after (Some n) (c ∷ []) spot t.nodes }
    at_node (Some text) e =
        ap (λ (p : Option (List ℕ)). (let u : GrowingTree = elim p [ Some text ↦ with_text t n (text ++ c ∷ []) | None ↦ created_at spot (TextNode (c ∷ [])) t ] in u)) e
        ∙ sym (ap (λ (p : Option (List ℕ)). (let new : List Node = elim p [ Some before ↦ changed_at (with_kind_of (TextNode (before ++ c ∷ []))) t.nodes n | None ↦ with_kind_at (TextNode (c ∷ [])) spot t.nodes ] in record t { nodes = new })) e)
    at_node None e =
        ap (λ (p : Option (List ℕ)). (let u : GrowingTree = elim p [ Some text ↦ with_text t n (text ++ c ∷ []) | None ↦ created_at spot (TextNode (c ∷ [])) t ] in u)) e
        ∙ sym (ap (λ (p : Option (List ℕ)). (let new : List Node = elim p [ Some before ↦ changed_at (with_kind_of (TextNode (before ++ c ∷ []))) t.nodes n | None ↦ with_kind_at (TextNode (c ∷ [])) spot t.nodes ] in record t { nodes = new })) e)

char_step : (t : GrowingTree) (spot : Place) (c : ℕ) → TakesTexts t spot → with_char c t ≡ grown (c ∷ []) spot t
char_step t spot c takes =
    ap (λ (at : Place). (let u : GrowingTree = elim (place_is_document t at) [ true ↦ t | false ↦ text_behind (node_before t.nodes at) at c t ] in u)) takes.at
    ∙ ap (λ (b : Bool). (let u : GrowingTree = elim b [ true ↦ t | false ↦ text_behind (node_before t.nodes spot) spot c t ] in u)) takes.inside
    ∙ behind_is t spot c (node_before t.nodes spot)

-- characters that are inserted one after the other are one text
pub chars_are : (t : GrowingTree) (spot : Place) (c : ℕ) (cs : List ℕ) → TakesTexts t spot → with_chars (c ∷ cs) t ≡ grown (c ∷ cs) spot t
chars_are t spot c [] takes = char_step t spot c takes
chars_are t spot c (d ∷ cs) takes =
    ap (with_chars (d ∷ cs)) (char_step t spot c takes) ∙ chars_are (grown (c ∷ []) spot t) spot d cs (takes_more t spot (c ∷ []) takes)
    ∙ ap (λ (nodes : List Node). record t { nodes = nodes }) (texts_join t.nodes spot (c ∷ []) (d ∷ cs) takes.there)
