-- Characters that join a text at a place, one after the other, are one text that joins it.
use Rattle.std.proofs.Common.{◌≡◌, ℕ, suc, zero, ◌<◌, true, false, List, [], ◌∷◌, ◌++◌, map, refl, sym, ap, ◌∙◌, length, Option, Some, None, arith, inl, inr, append_assoc}
use Rattle.std.specs.Prelude.{cond, nat_eq, not, ◌||◌}
use Rattle.std.proofs.lemmas.Bool.{cases_Bool, eqb-true, ne_eqb}
use Rattle.standard_trees.specs.GrowingTree.{GrowingTree, created_at, kind_of, text_behind, with_text}
use Rattle.standard_trees.specs.TreeStore.{Before, ContentsNode, EndOf, Kind, Node, Place, TextNode, before_of, changed_at, is_member, last_of, leaf, node_at}
use Rattle.standard_trees.specs.TreeStore.{node_before, placed_before, put_at, removed, text_in, without, contents_in}
use Rattle.dom_links.specs.Contents.{changed_at as changed}
use Rattle.dom_links.specs.Lists.{without as drop_all}
use Rattle.page_trees.specs.SameNodes.{text_after, with_kind, with_kind_at, with_text_at}
use Rattle.page_trees.proofs.StoreLemmas.{children_from, kinds, kinds_changed, kinds_more, kinds_put, length_nodes, lists}
use Rattle.page_trees.proofs.StoreLemmas.{kind_from, same_test, lists_changed, lists_kept, lists_more, lists_removed, new_node, old_node, same_nodes, with_children, with_kind_of}

-- ---- kinds

changed_last : (ks : List Kind) (kind other : Kind) → changed (length ks) (λ _. other) (ks ++ kind ∷ []) ≡ ks ++ other ∷ []
changed_last [] kind other = refl
changed_last (k ∷ ks) kind other = ap (λ rest. k ∷ rest) (changed_last ks kind other)

changed_twice : (n : ℕ) (ks : List Kind) (kind other : Kind) → changed n (λ _. other) (changed n (λ _. kind) ks) ≡ changed n (λ _. other) ks
changed_twice n [] kind other = refl
changed_twice zero (k ∷ ks) kind other = refl
changed_twice (suc n) (k ∷ ks) kind other = ap (λ rest. k ∷ rest) (changed_twice n ks kind other)

length_kinds : (nodes : List Node) → length (kinds nodes) ≡ length nodes
length_kinds [] = refl
length_kinds (node ∷ nodes) = ap suc (length_kinds nodes)

text_kept : (kind : Kind) (nodes : List Node) (n : ℕ) (text : List ℕ) → text_in (node_at nodes n).kind ≡ Some text →
    (node_at (changed_at (with_kind_of kind) nodes n) n).kind ≡ kind
text_kept kind [] n text e = cc
text_kept kind (node ∷ nodes) zero text e = refl
text_kept kind (node ∷ nodes) (suc n) text e = text_kept kind nodes n text e

-- where a number is put depends on the children alone
put_lists : (x : ℕ) (spot : Place) (xs ys : List Node) → lists xs ≡ lists ys → lists (put_at x spot xs) ≡ lists (put_at x spot ys)
put_lists x (EndOf p) xs ys e =
    lists_changed (λ ns. ns ++ x ∷ []) (removed x xs) p
    ∙ ap (changed p (λ ns. ns ++ x ∷ [])) (lists_removed x xs ∙ ap (map (drop_all (x ∷ []))) e ∙ sym (lists_removed x ys))
    ∙ sym (lists_changed (λ ns. ns ++ x ∷ []) (removed x ys) p)
put_lists x (Before p m) xs ys e =
    lists_changed (placed_before x m) (removed x xs) p
    ∙ ap (changed p (placed_before x m)) (lists_removed x xs ∙ ap (map (drop_all (x ∷ []))) e ∙ sym (lists_removed x ys))
    ∙ sym (lists_changed (placed_before x m) (removed x ys) p)

-- a text that was put at a place, lengthened
lengthened : (nodes : List Node) (spot : Place) (bs cs : List ℕ) →
    changed_at (with_kind_of (TextNode (bs ++ cs))) (with_kind_at (TextNode bs) spot nodes) (length nodes) ≡ with_kind_at (TextNode (bs ++ cs)) spot nodes
lengthened nodes spot bs cs =
    let n : ℕ = length nodes in
    let old : List Node = nodes ++ leaf (TextNode bs) ∷ [] in
    let new : List Node = nodes ++ leaf (TextNode (bs ++ cs)) ∷ [] in
    same_nodes _ _ (
    kinds_changed (TextNode (bs ++ cs)) (put_at n spot old) n ∙ ap (changed n (λ _. TextNode (bs ++ cs))) (kinds_put n spot old ∙ kinds_more nodes (TextNode bs))
    ∙ ap (λ (k : ℕ). changed k (λ _. TextNode (bs ++ cs)) (kinds nodes ++ TextNode bs ∷ [])) (sym (length_kinds nodes)) ∙ changed_last (kinds nodes) (TextNode bs) (TextNode (bs ++ cs))
    ∙ sym (kinds_put n spot new ∙ kinds_more nodes (TextNode (bs ++ cs))))
    (lists_kept (TextNode (bs ++ cs)) (put_at n spot old) n ∙ put_lists n spot old new (lists_more nodes (TextNode bs) ∙ sym (lists_more nodes (TextNode (bs ++ cs)))))

-- ---- the node before a place

before_from : (xs ys : List Node) (spot : Place) → lists xs ≡ lists ys → node_before xs spot ≡ node_before ys spot
before_from xs ys (EndOf p) e = ap last_of (children_from xs ys p e)
before_from xs ys (Before p m) e = ap (before_of m None) (children_from xs ys p e)

last_put : (ns : List ℕ) (x : ℕ) → last_of (ns ++ x ∷ []) ≡ Some x
last_put [] x = refl
last_put (n ∷ []) x = refl
last_put (n ∷ m ∷ ns) x = last_put (m ∷ ns) x

before_put : (x m : ℕ) (seen : Option ℕ) (ns : List ℕ) → nat_eq x m ≡ false → is_member m ns ≡ true → before_of m seen (placed_before x m ns) ≡ Some x
before_put x m seen [] other at = cc
before_put x m seen (n ∷ ns) other at = elim (cases_Bool (nat_eq n m)) [
  | inl t ↦
      ap (λ b. before_of m seen (elim b [ true ↦ x ∷ n ∷ ns | false ↦ n ∷ placed_before x m ns ])) t
      ∙ ap (λ b. elim b [ true ↦ seen | false ↦ before_of m (Some x) (n ∷ ns) ]) other ∙ ap (λ b. elim b [ true ↦ Some x | false ↦ before_of m (Some n) ns ]) t
  | inr f ↦ (let rest : is_member m ns ≡ true = sym (ap (λ b. b || is_member m ns) (same_test m n ∙ f)) ∙ at in
      ap (λ b. before_of m seen (elim b [ true ↦ x ∷ n ∷ ns | false ↦ n ∷ placed_before x m ns ])) f
      ∙ ap (λ b. elim b [ true ↦ seen | false ↦ before_of m (Some n) (placed_before x m ns) ]) f ∙ before_put x m (Some n) ns other rest)
]

-- a place of the store: its node is there, and the child before which it is
abbrev pub IsThere : List Node → Place → Type 0
IsThere nodes (EndOf p) = p < length nodes
IsThere nodes (Before p m) = (p < length nodes) × (m < length nodes) × (is_member m (node_at nodes p).children ≡ true)

changed_here : (g : List ℕ → List ℕ) (nodes : List Node) (p : ℕ) → p < length nodes → (node_at (changed_at (with_children g) nodes p) p).children ≡ g (node_at nodes p).children
changed_here g [] p h = absurd (omega (arith, h))
changed_here g (node ∷ nodes) zero h = refl
changed_here g (node ∷ nodes) (suc p) h = changed_here g nodes p (omega (arith, h))

length_removed : (x : ℕ) (nodes : List Node) → length (removed x nodes) ≡ length nodes
length_removed x [] = refl
length_removed x (node ∷ nodes) = ap suc (length_removed x nodes)

removed_here : (x : ℕ) (nodes : List Node) (p : ℕ) → (node_at (removed x nodes) p).children ≡ without x (node_at nodes p).children
removed_here x [] p = refl
removed_here x (node ∷ nodes) zero = refl
removed_here x (node ∷ nodes) (suc p) = removed_here x nodes p

member_kept : (x m : ℕ) (ns : List ℕ) → nat_eq m x ≡ false → is_member m ns ≡ true → is_member m (without x ns) ≡ true
member_kept x m [] other at = cc
member_kept x m (n ∷ ns) other at = elim (cases_Bool (nat_eq m n)) [
  | inl t ↦ (let same : nat_eq n x ≡ false = ap (λ k. nat_eq k x) (sym (eqb-true m n t)) ∙ other in
      ap (λ b. is_member m (cond (not b) (n ∷ without x ns) (without x ns))) same ∙ ap (λ b. b || is_member m (without x ns)) t)
  | inr f ↦ (let rest : is_member m ns ≡ true = sym (ap (λ b. b || is_member m ns) f) ∙ at in
      elim (cases_Bool (nat_eq n x)) [
        | inl gone ↦ ap (λ b. is_member m (cond (not b) (n ∷ without x ns) (without x ns))) gone ∙ member_kept x m ns other rest
        | inr stays ↦ ap (λ b. is_member m (cond (not b) (n ∷ without x ns) (without x ns))) stays ∙ ap (λ b. b || is_member m (without x ns)) f ∙ member_kept x m ns other rest
      ])
]

plain_more : (kind : Kind) (nodes : List Node) → contents_in kind ≡ None → with_kind kind nodes ≡ nodes ++ leaf kind ∷ []
plain_more kind nodes plain = ap (λ (o : Option ℕ). elim o [ None ↦ nodes ++ leaf kind ∷ [] | Some contents ↦ (nodes ++ leaf kind ∷ []) ++ leaf ContentsNode ∷ [] ]) plain

-- the new node comes just before the place
new_before : (nodes : List Node) (spot : Place) (kind : Kind) → contents_in kind ≡ None → IsThere nodes spot → node_before (with_kind_at kind spot nodes) spot ≡ Some (length nodes)
new_before nodes (EndOf p) kind plain known =
    let n : ℕ = length nodes in
    let long = length_nodes nodes (leaf kind) in
    let more : List Node = nodes ++ leaf kind ∷ [] in
    ap (λ (ns : List Node). node_before (put_at n (EndOf p) ns) (EndOf p)) (plain_more kind nodes plain)
    ∙ ap last_of (changed_here (λ ns. ns ++ n ∷ []) (removed n more) p (omega (arith, known, long, length_removed n more)))
    ∙ last_put (node_at (removed n more) p).children n
new_before nodes (Before p m) kind plain known =
    let n : ℕ = length nodes in
    let long = length_nodes nodes (leaf kind) in
    let more : List Node = nodes ++ leaf kind ∷ [] in
    let high = known.1 in
    let other : nat_eq m n ≡ false = ne_eqb m n (λ e. absurd (omega (arith, high, e))) in
    let at : is_member m (node_at (removed n more) p).children ≡ true =
    ap (is_member m) (removed_here n more p) ∙ member_kept n m (node_at more p).children other (ap (λ (node : Node). is_member m node.children) (old_node nodes (leaf kind) p known.0) ∙ known.2) in
    ap (λ (ns : List Node). node_before (put_at n (Before p m) ns) (Before p m)) (plain_more kind nodes plain)
    ∙ ap (before_of m None) (changed_here (placed_before n m) (removed n more) p (omega (arith, known.0, long, length_removed n more)))
    ∙ before_put n m None (node_at (removed n more) p).children (same_test n m ∙ other) at

-- ---- runs

-- two texts, one after the other
pub texts_join : (nodes : List Node) (spot : Place) (bs cs : List ℕ) → IsThere nodes spot → with_text_at cs spot (with_text_at bs spot nodes) ≡ with_text_at (bs ++ cs) spot nodes
texts_join nodes spot bs cs known = joined (node_before nodes spot) refl
  where
    made : (o : Option ℕ) → node_before nodes spot ≡ o → text_after o bs spot nodes ≡ with_kind_at (TextNode bs) spot nodes → text_after o (bs ++ cs) spot nodes ≡ with_kind_at (TextNode (bs ++ cs)) spot nodes →
        with_text_at cs spot (text_after o bs spot nodes) ≡ text_after o (bs ++ cs) spot nodes
    made o e one all =
        ap (with_text_at cs spot) one
        ∙ ap (λ (p : Option ℕ). text_after p cs spot (with_kind_at (TextNode bs) spot nodes)) (new_before nodes spot (TextNode bs) refl known)
        ∙ ap (λ (kind : Kind). elim (text_in kind) [
          | Some before ↦ changed_at (with_kind_of (TextNode (before ++ cs))) (with_kind_at (TextNode bs) spot nodes) (length nodes)
          | None ↦ with_kind_at (TextNode cs) spot (with_kind_at (TextNode bs) spot nodes)
        ]) (kind_from (with_kind_at (TextNode bs) spot nodes) (nodes ++ leaf (TextNode bs) ∷ []) (length nodes) (kinds_put (length nodes) spot (nodes ++ leaf (TextNode bs) ∷ [])) ∙ ap (λ (node : Node). node.kind) (new_node nodes (leaf (TextNode bs))))
        ∙ lengthened nodes spot bs cs ∙ sym all

    grown : (n : ℕ) (o : Option (List ℕ)) → node_before nodes spot ≡ Some n → text_in (node_at nodes n).kind ≡ o → with_text_at cs spot (text_after (Some n) bs spot nodes) ≡ text_after (Some n) (bs ++ cs) spot nodes
    grown n None e kind =
        made (Some n) e
        (ap (λ (p : Option (List ℕ)). elim p [ Some before ↦ changed_at (with_kind_of (TextNode (before ++ bs))) nodes n | None ↦ with_kind_at (TextNode bs) spot nodes ]) kind)
        (ap (λ (p : Option (List ℕ)). elim p [ Some before ↦ changed_at (with_kind_of (TextNode (before ++ (bs ++ cs)))) nodes n | None ↦ with_kind_at (TextNode (bs ++ cs)) spot nodes ]) kind)
    grown n (Some text) e kind =
        let once : List Node = changed_at (with_kind_of (TextNode (text ++ bs))) nodes n in
        ap (with_text_at cs spot) (ap (λ (p : Option (List ℕ)). elim p [ Some before ↦ changed_at (with_kind_of (TextNode (before ++ bs))) nodes n | None ↦ with_kind_at (TextNode bs) spot nodes ]) kind)
        ∙ ap (λ (p : Option ℕ). text_after p cs spot once) (before_from once nodes spot (lists_kept (TextNode (text ++ bs)) nodes n) ∙ e)
        ∙ ap (λ (k : Kind). elim (text_in k) [ Some before ↦ changed_at (with_kind_of (TextNode (before ++ cs))) once n | None ↦ with_kind_at (TextNode cs) spot once ]) (text_kept (TextNode (text ++ bs)) nodes n text kind)
        ∙ same_nodes _ _ (
        kinds_changed (TextNode ((text ++ bs) ++ cs)) once n ∙ ap (changed n (λ _. TextNode ((text ++ bs) ++ cs))) (kinds_changed (TextNode (text ++ bs)) nodes n)
        ∙ changed_twice n (kinds nodes) (TextNode (text ++ bs)) (TextNode ((text ++ bs) ++ cs)) ∙ ap (λ (all : List ℕ). changed n (λ _. TextNode all) (kinds nodes)) (append_assoc text bs cs)
        ∙ sym (kinds_changed (TextNode (text ++ (bs ++ cs))) nodes n))
        (lists_kept (TextNode ((text ++ bs) ++ cs)) once n ∙ lists_kept (TextNode (text ++ bs)) nodes n ∙ sym (lists_kept (TextNode (text ++ (bs ++ cs))) nodes n))
        ∙ sym (ap (λ (p : Option (List ℕ)). elim p [ Some before ↦ changed_at (with_kind_of (TextNode (before ++ (bs ++ cs)))) nodes n | None ↦ with_kind_at (TextNode (bs ++ cs)) spot nodes ]) kind)

    joined : (o : Option ℕ) → node_before nodes spot ≡ o → with_text_at cs spot (text_after o bs spot nodes) ≡ text_after o (bs ++ cs) spot nodes
    joined None e = made None e refl refl
    joined (Some n) e = grown n (text_in (node_at nodes n).kind) e refl

-- a character of the definition is a text of one character
pub char_is : (t : GrowingTree) (spot : Place) (c : ℕ) → (text_behind (node_before t.nodes spot) spot c t).nodes ≡ with_text_at (c ∷ []) spot t.nodes
char_is t spot c = at (node_before t.nodes spot)
  where
    at_node : (n : ℕ) (o : Option (List ℕ)) → text_in (kind_of t n) ≡ o → (text_behind (Some n) spot c t).nodes ≡ text_after (Some n) (c ∷ []) spot t.nodes
    at_node n (Some text) e =
        ap (λ (p : Option (List ℕ)). (let u : GrowingTree = elim p [ Some text ↦ with_text t n (text ++ c ∷ []) | None ↦ created_at spot (TextNode (c ∷ [])) t ] in u.nodes)) e
        ∙ sym (ap (λ (p : Option (List ℕ)). elim p [ Some before ↦ changed_at (with_kind_of (TextNode (before ++ c ∷ []))) t.nodes n | None ↦ with_kind_at (TextNode (c ∷ [])) spot t.nodes ]) e)
    at_node n None e =
        ap (λ (p : Option (List ℕ)). (let u : GrowingTree = elim p [ Some text ↦ with_text t n (text ++ c ∷ []) | None ↦ created_at spot (TextNode (c ∷ [])) t ] in u.nodes)) e
        ∙ sym (ap (λ (p : Option (List ℕ)). elim p [ Some before ↦ changed_at (with_kind_of (TextNode (before ++ c ∷ []))) t.nodes n | None ↦ with_kind_at (TextNode (c ∷ [])) spot t.nodes ]) e)

    at : (o : Option ℕ) → (text_behind o spot c t).nodes ≡ text_after o (c ∷ []) spot t.nodes
    at None = refl
    at (Some n) = at_node n (text_in (kind_of t n)) refl
