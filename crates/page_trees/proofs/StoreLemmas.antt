-- The nodes of the definition's store: what changes of them leave as it is.
use Rattle.std.proofs.Common.{◌≡◌, ℕ, suc, zero, ◌<◌, Bool, true, false, List, [], ◌∷◌, ◌++◌, map, refl, sym, ap, ◌∙◌, length, arith, cond, inl, inr}
use Rattle.std.specs.Prelude.{get_or, not, nat_eq, ◌||◌}
use Rattle.std.proofs.lemmas.Bool.{eq-eqb, ne_eqb, cases_Bool, eqb-true, true≢false}
use Rattle.standard_trees.specs.TreeStore.{Before, ContentsNode, EndOf, Kind, Node, Place, changed_at, leaf, node_at, placed_before, put_at}
use Rattle.standard_trees.specs.TreeStore.{removed, without as drop_one}
use Rattle.dom_links.specs.Contents.{changed_at as changed}
use Rattle.dom_links.specs.Lists.{without}

abbrev pub lists : List Node → List (List ℕ)
lists nodes = map {A = Node} (λ node. node.children) nodes

abbrev pub kinds : List Node → List Kind
kinds nodes = map {A = Node} (λ node. node.kind) nodes

-- the children of a node are changed
abbrev pub with_children : (List ℕ → List ℕ) → Node → Node
with_children g node = record node { children = g node.children }

-- the kind of a node is changed
abbrev pub with_kind_of : Kind → Node → Node
with_kind_of kind node = record node { kind = kind }

-- ---- kinds and children

pub kinds_kept : (g : List ℕ → List ℕ) (nodes : List Node) (p : ℕ) → kinds (changed_at (with_children g) nodes p) ≡ kinds nodes
kinds_kept g [] p = refl
kinds_kept g (node ∷ nodes) zero = refl
kinds_kept g (node ∷ nodes) (suc p) = ap (λ ks. node.kind ∷ ks) (kinds_kept g nodes p)

pub kinds_removed : (x : ℕ) (nodes : List Node) → kinds (removed x nodes) ≡ kinds nodes
kinds_removed x [] = refl
kinds_removed x (node ∷ nodes) = ap (λ ks. node.kind ∷ ks) (kinds_removed x nodes)

pub kinds_put : (x : ℕ) (spot : Place) (nodes : List Node) → kinds (put_at x spot nodes) ≡ kinds nodes
kinds_put x (EndOf p) nodes = kinds_kept (λ ns. ns ++ x ∷ []) (removed x nodes) p ∙ kinds_removed x nodes
kinds_put x (Before p m) nodes = kinds_kept (placed_before x m) (removed x nodes) p ∙ kinds_removed x nodes

pub lists_changed : (g : List ℕ → List ℕ) (nodes : List Node) (p : ℕ) → lists (changed_at (with_children g) nodes p) ≡ changed p g (lists nodes)
lists_changed g [] p = refl
lists_changed g (node ∷ nodes) zero = refl
lists_changed g (node ∷ nodes) (suc p) = ap (λ ls. node.children ∷ ls) (lists_changed g nodes p)

pub lists_kept : (kind : Kind) (nodes : List Node) (p : ℕ) → lists (changed_at (with_kind_of kind) nodes p) ≡ lists nodes
lists_kept kind [] p = refl
lists_kept kind (node ∷ nodes) zero = refl
lists_kept kind (node ∷ nodes) (suc p) = ap (λ ls. node.children ∷ ls) (lists_kept kind nodes p)

pub kinds_changed : (kind : Kind) (nodes : List Node) (p : ℕ) → kinds (changed_at (with_kind_of kind) nodes p) ≡ changed p (λ _. kind) (kinds nodes)
kinds_changed kind [] p = refl
kinds_changed kind (node ∷ nodes) zero = refl
kinds_changed kind (node ∷ nodes) (suc p) = ap (λ ks. node.kind ∷ ks) (kinds_changed kind nodes p)

pub kinds_more : (nodes : List Node) (kind : Kind) → kinds (nodes ++ leaf kind ∷ []) ≡ kinds nodes ++ kind ∷ []
kinds_more [] kind = refl
kinds_more (node ∷ nodes) kind = ap (λ ks. node.kind ∷ ks) (kinds_more nodes kind)

pub lists_more : (nodes : List Node) (kind : Kind) → lists (nodes ++ leaf kind ∷ []) ≡ lists nodes ++ [] ∷ []
lists_more [] kind = refl
lists_more (node ∷ nodes) kind = ap (λ ls. node.children ∷ ls) (lists_more nodes kind)

-- a list of nodes is its kinds and its lists of children
same_node : (a b : Node) → a.kind ≡ b.kind → a.children ≡ b.children → a ≡ b
same_node a b k l =
    let of : Kind → List ℕ → Node = λ kind children. record { kind = kind; children = children } in
    ap (λ kind. of kind a.children) k ∙ ap (of b.kind) l

pub same_nodes : (xs ys : List Node) → kinds xs ≡ kinds ys → lists xs ≡ lists ys → xs ≡ ys
same_nodes [] [] k l = refl
same_nodes [] (y ∷ ys) k l = cc
same_nodes (x ∷ xs) [] k l = cc
same_nodes (x ∷ xs) (y ∷ ys) k l =
    let k_one : x.kind ≡ y.kind = cc in
    let l_one : x.children ≡ y.children = cc in
    let k_more : kinds xs ≡ kinds ys = cc in
    let l_more : lists xs ≡ lists ys = cc in
    let one : x ≡ y = same_node x y k_one l_one in
    let more : xs ≡ ys = same_nodes xs ys k_more l_more in
    ap (λ z. z ∷ xs) one ∙ ap (λ zs. y ∷ zs) more

-- ---- one node

pub kind_at : (nodes : List Node) (n : ℕ) → (node_at nodes n).kind ≡ get_or (kinds nodes) n ContentsNode
kind_at [] n = refl
kind_at (node ∷ nodes) zero = refl
kind_at (node ∷ nodes) (suc n) = kind_at nodes n

pub children_at : (nodes : List Node) (n : ℕ) → (node_at nodes n).children ≡ get_or (lists nodes) n []
children_at [] n = refl
children_at (node ∷ nodes) zero = refl
children_at (node ∷ nodes) (suc n) = children_at nodes n

pub kind_from : (xs ys : List Node) (n : ℕ) → kinds xs ≡ kinds ys → (node_at xs n).kind ≡ (node_at ys n).kind
kind_from xs ys n e = kind_at xs n ∙ ap (λ (ks : List Kind). get_or ks n ContentsNode) e ∙ sym (kind_at ys n)

pub children_from : (xs ys : List Node) (n : ℕ) → lists xs ≡ lists ys → (node_at xs n).children ≡ (node_at ys n).children
children_from xs ys n e = children_at xs n ∙ ap (λ (ls : List (List ℕ)). get_or ls n []) e ∙ sym (children_at ys n)

pub old_node : (nodes : List Node) (node : Node) (n : ℕ) → n < length nodes → node_at (nodes ++ node ∷ []) n ≡ node_at nodes n
old_node [] node n h = absurd (omega (arith, h))
old_node (one ∷ nodes) node zero h = refl
old_node (one ∷ nodes) node (suc n) h = old_node nodes node n (omega (arith, h))

pub new_node : (nodes : List Node) (node : Node) → node_at (nodes ++ node ∷ []) (length nodes) ≡ node
new_node [] node = refl
new_node (one ∷ nodes) node = new_node nodes node

pub length_nodes : (nodes : List Node) (node : Node) → length (nodes ++ node ∷ []) ≡ suc (length nodes)
length_nodes [] node = refl
length_nodes (one ∷ nodes) node = ap suc (length_nodes nodes node)

-- ---- lists without a number

one_step : (b c : Bool) (n : ℕ) (ks ls : List ℕ) → b ≡ c → ks ≡ ls → cond (not b) (n ∷ ks) ks ≡ cond (c || false) ls (n ∷ ls)
one_step true true n ks ls e same = same
one_step false false n ks ls e same = ap (λ ns. n ∷ ns) same
one_step true false n ks ls e same = cc
one_step false true n ks ls e same = cc

pub same_test : (n m : ℕ) → nat_eq n m ≡ nat_eq m n
same_test n m = elim (cases_Bool (nat_eq n m)) [
  | inl t ↦ t ∙ sym (eq-eqb m n (sym (eqb-true n m t)))
  | inr f ↦ f ∙ sym (ne_eqb m n (λ e. absurd (true≢false (sym (eq-eqb n m (sym e)) ∙ f))))
]

pub one_less : (x : ℕ) (ns : List ℕ) → drop_one x ns ≡ without (x ∷ []) ns
one_less x [] = refl
one_less x (n ∷ ns) = one_step (nat_eq n x) (nat_eq x n) n (drop_one x ns) (without (x ∷ []) ns) (same_test n x) (one_less x ns)

pub lists_removed : (x : ℕ) (nodes : List Node) → lists (removed x nodes) ≡ map (without (x ∷ [])) (lists nodes)
lists_removed x [] = refl
lists_removed x (node ∷ nodes) =
    ap (λ ns. ns ∷ lists (removed x nodes)) (one_less x node.children) ∙ ap (λ ls. without (x ∷ []) node.children ∷ ls) (lists_removed x nodes)
