-- What writing into the store changes.
use Rattle.std.specs.Prelude.{◌≡◌, refl, ℕ, zero, suc, ◌<◌, ◌≤◌, Bool, true, false, cond, not, nat_eq, List, [], ◌∷◌, ◌++◌, length}
use Rattle.std.proofs.Common.{arith}
use Rattle.std.proofs.lemmas.List.{append-nil}
use mathlib.Core.Path.{◌∙◌, sym, ap}
use Rattle.standard_rules.specs.Building.{Open}
use Rattle.standard_rules.specs.TreeTokens.{Trees, comment_node, doctype_node, element_node, no_trees, text_node}
use Rattle.standard_trees.specs.TreeStore.{DocumentNode, EndOf, Node, changed_at, node_at, put_at, removed, without}
use Rattle.standard_agreement.proofs.Preorder.{At, after, element, grows, kept, node_of, roots, without_roots}

-- ---- single nodes

pub length_more : (nodes : List Node) (x : Node) → length (nodes ++ x ∷ []) ≡ suc (length nodes)
length_more [] x = refl
length_more (y ∷ nodes) x = ap suc (length_more nodes x)

pub length_changed : (f : Node → Node) (nodes : List Node) (n : ℕ) → length (changed_at f nodes n) ≡ length nodes
length_changed f [] n = refl
length_changed f (y ∷ nodes) zero = refl
length_changed f (y ∷ nodes) (suc n) = ap suc (length_changed f nodes n)

pub length_removed : (k : ℕ) (nodes : List Node) → length (removed k nodes) ≡ length nodes
length_removed k [] = refl
length_removed k (y ∷ nodes) = ap suc (length_removed k nodes)

pub at_more : (nodes : List Node) (x : Node) (m : ℕ) → m < length nodes → node_at (nodes ++ x ∷ []) m ≡ node_at nodes m
at_more [] x m h = absurd (omega arith)
at_more (y ∷ nodes) x zero h = refl
at_more (y ∷ nodes) x (suc m) h = at_more nodes x m (omega arith)

pub at_last : (nodes : List Node) (x : Node) → node_at (nodes ++ x ∷ []) (length nodes) ≡ x
at_last [] x = refl
at_last (y ∷ nodes) x = at_last nodes x

pub at_changed : (f : Node → Node) (nodes : List Node) (n : ℕ) → n < length nodes → node_at (changed_at f nodes n) n ≡ f (node_at nodes n)
at_changed f [] n h = absurd (omega arith)
at_changed f (y ∷ nodes) zero h = refl
at_changed f (y ∷ nodes) (suc n) h = at_changed f nodes n (omega arith)

pub at_other : (f : Node → Node) (nodes : List Node) (n m : ℕ) → (m ≡ n → ⊥) → node_at (changed_at f nodes n) m ≡ node_at nodes m
at_other f [] n m h = refl
at_other f (y ∷ nodes) zero zero h = absurd (h refl)
at_other f (y ∷ nodes) zero (suc m) h = refl
at_other f (y ∷ nodes) (suc n) zero h = refl
at_other f (y ∷ nodes) (suc n) (suc m) h = at_other f nodes n m (λ e. h (ap suc e))

abbrev pub dropped : ℕ → Node → Node
dropped k node = record node { children = without k node.children }

pub at_removed : (k : ℕ) (nodes : List Node) (m : ℕ) → node_at (removed k nodes) m ≡ dropped k (node_at nodes m)
at_removed k [] m = refl
at_removed k (y ∷ nodes) zero = refl
at_removed k (y ∷ nodes) (suc m) = at_removed k nodes m

pub without_append : (k : ℕ) (ms ns : List ℕ) → without k (ms ++ ns) ≡ without k ms ++ without k ns
without_append k [] ns = refl
without_append k (m ∷ ms) ns = by_test (nat_eq m k) (without_append k ms ns)
  where
    by_test : (x : Bool) → without k (ms ++ ns) ≡ without k ms ++ without k ns →
        cond (not x) (m ∷ without k (ms ++ ns)) (without k (ms ++ ns)) ≡ cond (not x) (m ∷ without k ms) (without k ms) ++ without k ns
    by_test true e = e
    by_test false e = ap (λ l. m ∷ l) e

-- ---- the stack of open elements

-- the number of the next node
abbrev pub free : Trees → List Open → ℕ
free document [] = after 1 document
free document (o ∷ os) = after (suc (free document os)) o.children

-- the numbers of the open elements
abbrev pub numbers : Trees → List Open → List ℕ
numbers document [] = []
numbers document (o ∷ os) = free document os ∷ numbers document os

-- the store holds the document's first children, and each open element with its finished children; `kids` come behind those of the current node
abbrev pub Held : List Node → Trees → List Open → List ℕ → Type 0
Held nodes document [] kids = (node_at nodes 0 ≡ node_of DocumentNode (roots 1 document ++ kids)) × At nodes 1 document
Held nodes document (o ∷ os) kids =
    (node_at nodes (free document os) ≡ node_of (element o.name o.attrs) (roots (suc (free document os)) o.children ++ kids)) ×
    At nodes (suc (free document os)) o.children × Held nodes document os (free document os ∷ [])

pub positive : (document : Trees) (os : List Open) → 0 < free document os
positive document [] = let h : 1 ≤ after 1 document = grows 1 document in omega arith
positive document (o ∷ os) = let h : suc (free document os) ≤ after (suc (free document os)) o.children = grows (suc (free document os)) o.children in omega arith

pub held_kept : (nodes more : List Node) (document : Trees) (os : List Open) (kids : List ℕ) → ((m : ℕ) → m < free document os → node_at more m ≡ node_at nodes m) →
    Held nodes document os kids → Held more document os kids
held_kept nodes more document [] kids same h =
    let g : 1 ≤ after 1 document = grows 1 document in (same 0 (omega arith) ∙ h.0, kept nodes more 1 document (λ m l u. same m u) h.1)
held_kept nodes more document (o ∷ os) kids same h =
    let g : suc (free document os) ≤ after (suc (free document os)) o.children = grows (suc (free document os)) o.children in (
      same (free document os) (omega arith) ∙ h.0,
      kept nodes more (suc (free document os)) o.children (λ m l u. same m u) h.1,
      held_kept nodes more document os (free document os ∷ []) (λ m u. same m (omega arith)) h.2,
    )

pub at_without : (k : ℕ) (nodes : List Node) (n : ℕ) (t : Trees) → after n t ≤ k → At nodes n t → At (removed k nodes) n t
at_without k nodes n no_trees h a = tt
at_without k nodes n (text_node text later) h a = (at_removed k nodes n ∙ ap (dropped k) a.0, at_without k nodes (suc n) later h a.1)
at_without k nodes n (comment_node text later) h a = (at_removed k nodes n ∙ ap (dropped k) a.0, at_without k nodes (suc n) later h a.1)
at_without k nodes n (doctype_node name later) h a = (at_removed k nodes n ∙ ap (dropped k) a.0, at_without k nodes (suc n) later h a.1)
at_without k nodes n (element_node name attrs children later) h a =
    let g : after (suc n) children ≤ after (after (suc n) children) later = grows (after (suc n) children) later in (
      at_removed k nodes n ∙ ap (dropped k) a.0 ∙ ap (node_of (element name attrs)) (without_roots k (suc n) children (omega arith)),
      at_without k nodes (suc n) children (omega arith) a.1,
      at_without k nodes (after (suc n) children) later h a.2,
    )

without_one : (m k : ℕ) → m < k → without k (m ∷ []) ≡ m ∷ []
without_one m k h = by_test (nat_eq m k) (less m k h)
  where
    less : (m k : ℕ) → m < k → nat_eq m k ≡ false
    less m k h = grind arith

    by_test : (x : Bool) → x ≡ false → cond (not x) (m ∷ []) [] ≡ m ∷ []
    by_test true e = cc
    by_test false e = refl

pub held_without : (k : ℕ) (nodes : List Node) (document : Trees) (os : List Open) (kids : List ℕ) → free document os ≤ k → without k kids ≡ kids → Held nodes document os kids →
    Held (removed k nodes) document os kids
held_without k nodes document [] kids less same h = (
  at_removed k nodes 0 ∙ ap (dropped k) h.0
      ∙ ap (node_of DocumentNode) (without_append k (roots 1 document) kids ∙ ap (λ l. l ++ without k kids) (without_roots k 1 document less) ∙ ap (λ l. roots 1 document ++ l) same),
  at_without k nodes 1 document less h.1,
)
held_without k nodes document (o ∷ os) kids less same h =
    let n : ℕ = free document os in
    let g : suc (free document os) ≤ after (suc (free document os)) o.children = grows (suc (free document os)) o.children in (
      at_removed k nodes n ∙ ap (dropped k) h.0
          ∙ ap (node_of (element o.name o.attrs))
          (without_append k (roots (suc n) o.children) kids ∙ ap (λ l. l ++ without k kids) (without_roots k (suc n) o.children less) ∙ ap (λ l. roots (suc n) o.children ++ l) same),
      at_without k nodes (suc n) o.children less h.1,
      held_without k nodes document os (n ∷ []) (omega arith) (without_one n k (omega arith)) h.2,
    )

-- ---- a node at the end of the current node

abbrev pub with_child : ℕ → Node → Node
with_child n node = record node { children = node.children ++ n ∷ [] }

pub record Added (nodes : List Node) (document : Trees) (o : Open) (os : List Open) (x : Node) (new : List Node) : Type 0 where
  pub size : length new ≡ suc (length nodes)
  pub held : Held new document (o ∷ os) (free document (o ∷ os) ∷ [])
  pub last : node_at new (free document (o ∷ os)) ≡ x

pub added : (nodes : List Node) (document : Trees) (o : Open) (os : List Open) (x : Node) → x.children ≡ [] → length nodes ≡ free document (o ∷ os) → Held nodes document (o ∷ os) [] →
    Added nodes document o os x (put_at (length nodes) (EndOf (free document os)) (nodes ++ x ∷ []))
added nodes document o os x bare size h = record { size = sizes; held = (current, finished, below); last = last }
  where
    k : ℕ
    k = length nodes

    p : ℕ
    p = free document os

    one : List Node
    one = nodes ++ x ∷ []

    two : List Node
    two = removed k one

    three : List Node
    three = changed_at (with_child k) two p

    less : p < k
    less = let g : suc (free document os) ≤ after (suc (free document os)) o.children = grows (suc (free document os)) o.children in omega arith

    sizes : length three ≡ suc (length nodes)
    sizes = length_changed (with_child k) two p ∙ length_removed k one ∙ length_more nodes x

    first : Held one document (o ∷ os) []
    first = held_kept nodes one document (o ∷ os) [] (λ m u. at_more nodes x m (omega arith)) h

    second : Held two document (o ∷ os) []
    second = held_without k one document (o ∷ os) [] (omega arith) refl first

    current : node_at three p ≡ node_of (element o.name o.attrs) (roots (suc p) o.children ++ free document (o ∷ os) ∷ [])
    current =
        at_changed (with_child k) two p (let e : length two ≡ suc k = length_removed k one ∙ length_more nodes x in omega (arith, less)) ∙ ap (with_child k) second.0
        ∙ ap (λ l. node_of (element o.name o.attrs) (l ++ k ∷ [])) (append-nil (roots (suc p) o.children))
        ∙ ap (λ n. node_of (element o.name o.attrs) (roots (suc p) o.children ++ n ∷ [])) size

    finished : At three (suc p) o.children
    finished = kept two three (suc p) o.children (λ m l u. at_other (with_child k) two p m (λ e. omega arith)) second.1

    below : Held three document os (p ∷ [])
    below = held_kept two three document os (p ∷ []) (λ m u. at_other (with_child k) two p m (λ e. omega arith)) second.2

    no_children : dropped k x ≡ x
    no_children = ap (λ l. node_of x.kind (without k l)) bare ∙ sym (ap (node_of x.kind) bare)

    last : node_at three (free document (o ∷ os)) ≡ x
    last =
        ap (node_at three) (sym size) ∙ at_other (with_child k) two p k (λ e. omega (arith, less)) ∙ at_removed k one k ∙ ap (dropped k) (at_last nodes x) ∙ no_children
