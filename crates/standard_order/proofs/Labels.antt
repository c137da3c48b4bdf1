-- What names and namespaces nodes have, and that they keep them.
use Rattle.std.specs.Prelude.{◌≡◌, refl, ℕ, zero, suc, Bool, true, false, not, ◌&&◌, List, [], ◌∷◌, ◌++◌, Option, None, Some, length}
use mathlib.Core.Path.{◌∙◌, sym, ap, subst}
use Rattle.standard_trees.specs.TreeStore.{Before, CommentNode, ContentsNode, DoctypeNode, DocumentNode, ElementNode, EndOf, Kind, Node}
use Rattle.standard_trees.specs.TreeStore.{NodeAttr, Place}
use Rattle.standard_trees.specs.TreeStore.{Space, TextNode, changed_at, is_html, key_in, key_of, leaf, node_at, node_before, placed_before}
use Rattle.standard_trees.specs.TreeStore.{put_at, removed, space_in, text_in}
use Rattle.standard_trees.specs.GrowingTree.{GrowingTree, created, created_at, created_element, fresh, is_among, is_template}
use Rattle.standard_trees.specs.GrowingTree.{kind_of, merged_into, place, place_is_document, put, text_behind, with_attrs, with_char}
use Rattle.standard_trees.specs.GrowingTree.{with_chars, with_text}

pub record Label : Type 0 where
  pub name : List ℕ
  pub html : Bool  -- in the HTML namespace

abbrev pub label_of : Kind → Label
label_of kind = record { name = key_in kind; html = is_html (space_in kind) }

abbrev pub labels : List Node → List Label
labels [] = []
labels (node ∷ nodes) = label_of node.kind ∷ labels nodes

-- node n is there, and passes
abbrev pub is_at : (Label → Bool) → List Label → ℕ → Bool
is_at test [] n = false
is_at test (l ∷ ls) zero = test l
is_at test (l ∷ ls) (suc n) = is_at test ls n

abbrev pub Is : (Label → Bool) → List Label → ℕ → Type 0
Is test ls n = is_at test ls n ≡ true

-- ---- tests

abbrev pub named : List (List ℕ) → Label → Bool
named names l = is_among l.name names

abbrev pub other_than : List (List ℕ) → Label → Bool
other_than names l = not (is_among l.name names)

abbrev pub holder : List (List ℕ) → Label → Bool
holder names l = l.html && not (is_among l.name names)

pub more_at : (test : Label → Bool) (ls more : List Label) (n : ℕ) → Is test ls n → Is test (ls ++ more) n
more_at test [] more n h = cc
more_at test (l ∷ ls) more zero h = h
more_at test (l ∷ ls) more (suc n) h = more_at test ls more n h

pub weaker_at : (test other : Label → Bool) → ((l : Label) → test l ≡ true → other l ≡ true) → (ls : List Label) (n : ℕ) → Is test ls n →
    Is other ls n
weaker_at test other weaker [] n h = cc
weaker_at test other weaker (l ∷ ls) zero h = weaker l h
weaker_at test other weaker (l ∷ ls) (suc n) h = weaker_at test other weaker ls n h

pub never_at : (test other : Label → Bool) → ((l : Label) → test l ≡ true → other l ≡ true → ⊥) → (ls : List Label) (n : ℕ) → Is test ls n →
    Is other ls n → ⊥
never_at test other never [] n h k = cc
never_at test other never (l ∷ ls) zero h k = never l h k
never_at test other never (l ∷ ls) (suc n) h k = never_at test other never ls n h k

-- of the node in the store
pub kind_at : (test : Label → Bool) (nodes : List Node) (n : ℕ) → Is test (labels nodes) n → test (label_of (node_at nodes n).kind) ≡ true
kind_at test [] n h = cc
kind_at test (node ∷ nodes) zero h = h
kind_at test (node ∷ nodes) (suc n) h = kind_at test nodes n h

-- a test of the node says so of its label
pub at_kind : (test other : Label → Bool) (nodes : List Node) (n : ℕ) → Is test (labels nodes) n →
    other (label_of (node_at nodes n).kind) ≡ true → Is other (labels nodes) n
at_kind test other [] n h k = cc
at_kind test other (node ∷ nodes) zero h k = k
at_kind test other (node ∷ nodes) (suc n) h k = at_kind test other nodes n h k

pub last_at : (test : Label → Bool) (ls : List Label) (l : Label) (nodes : List Node) → ls ≡ labels nodes → test l ≡ true →
    Is test (ls ++ l ∷ []) (length nodes)
last_at test [] l [] e h = h
last_at test (m ∷ ms) l (node ∷ nodes) e h = last_at test ms l nodes (ap rest e) h
  where
    rest : List Label → List Label
    rest [] = []
    rest (x ∷ xs) = xs
last_at test [] l (node ∷ nodes) e h = cc
last_at test (m ∷ ms) l [] e h = cc

-- ---- nodes keep their labels

pub labels_more : (nodes more : List Node) → labels (nodes ++ more) ≡ labels nodes ++ labels more
labels_more [] more = refl
labels_more (node ∷ nodes) more = ap (λ ls. label_of node.kind ∷ ls) (labels_more nodes more)

pub labels_removed : (n : ℕ) (nodes : List Node) → labels (removed n nodes) ≡ labels nodes
labels_removed n [] = refl
labels_removed n (node ∷ nodes) = ap (λ ls. label_of node.kind ∷ ls) (labels_removed n nodes)

pub labels_changed : (f : Node → Node) → ((node : Node) → label_of (f node).kind ≡ label_of node.kind) → (nodes : List Node) (n : ℕ) →
    labels (changed_at f nodes n) ≡ labels nodes
labels_changed f same [] n = refl
labels_changed f same (node ∷ nodes) zero = ap (λ l. l ∷ labels nodes) (same node)
labels_changed f same (node ∷ nodes) (suc n) = ap (λ ls. label_of node.kind ∷ ls) (labels_changed f same nodes n)

pub labels_put : (n : ℕ) (spot : Place) (nodes : List Node) → labels (put_at n spot nodes) ≡ labels nodes
labels_put n (EndOf p) nodes = labels_changed (λ node. record node { children = node.children ++ n ∷ [] }) (λ node. refl) (removed n nodes)
    p ∙ labels_removed n nodes
labels_put n (Before p m) nodes = labels_changed (λ node. record node { children = placed_before n m node.children }) (λ node. refl)
    (removed n nodes) p ∙ labels_removed n nodes

pub labels_text : (text new : List ℕ) (nodes : List Node) (n : ℕ) → text_in (node_at nodes n).kind ≡ Some text →
    labels (changed_at (λ node. record node { kind = TextNode new }) nodes n) ≡ labels nodes
labels_text text new [] n e = refl
labels_text text new (node ∷ nodes) zero e = ap (λ l. l ∷ labels nodes) (by node.kind e)
  where
    by : (kind : Kind) → text_in kind ≡ Some text → label_of (TextNode new) ≡ label_of kind
    by (TextNode old) h = refl
    by (CommentNode old) h = cc
    by (DoctypeNode d) h = cc
    by (ElementNode space name attrs contents) h = cc
    by DocumentNode h = cc
    by ContentsNode h = cc
labels_text text new (node ∷ nodes) (suc n) e = ap (λ ls. label_of node.kind ∷ ls) (labels_text text new nodes n e)

pub labels_attrs : (new : List NodeAttr) (nodes : List Node) (n : ℕ) →
    labels (changed_at (λ node. record node { kind = with_attrs new node.kind }) nodes n) ≡ labels nodes
labels_attrs new nodes n = labels_changed (λ node. record node { kind = with_attrs new node.kind }) (λ node. by node.kind) nodes n
  where
    by : (kind : Kind) → label_of (with_attrs new kind) ≡ label_of kind
    by (TextNode old) = refl
    by (CommentNode old) = refl
    by (DoctypeNode d) = refl
    by (ElementNode space name attrs contents) = refl
    by DocumentNode = refl
    by ContentsNode = refl

-- ---- stores that grow

abbrev pub Grows : List Node → List Node → Type 0
Grows old new = (more : List Label) × (labels new ≡ labels old ++ more)

no_more : (ls : List Label) → ls ≡ ls ++ []
no_more [] = refl
no_more (l ∷ ls) = ap (λ x. l ∷ x) (no_more ls)

joined : (xs ys zs : List Label) → (xs ++ ys) ++ zs ≡ xs ++ (ys ++ zs)
joined [] ys zs = refl
joined (x ∷ xs) ys zs = ap (λ l. x ∷ l) (joined xs ys zs)

pub grows_same : (old new : List Node) → labels new ≡ labels old → Grows old new
grows_same old new e = ([], e ∙ no_more (labels old))

pub grows_both : (a b c : List Node) → Grows a b → Grows b c → Grows a c
grows_both a b c one two = (one.0 ++ two.0, two.1 ∙ ap (λ ls. ls ++ two.0) one.1 ∙ joined (labels a) one.0 two.0)

pub grows_at : (test : Label → Bool) (old new : List Node) → Grows old new → (n : ℕ) → Is test (labels old) n → Is test (labels new) n
grows_at test old new grows n h = subst (λ ls. Is test ls n) (sym grows.1) (more_at test (labels old) grows.0 n h)

pub grows_leaf : (kind : Kind) (nodes : List Node) → Grows nodes (nodes ++ leaf kind ∷ [])
grows_leaf kind nodes = (label_of kind ∷ [], labels_more nodes (leaf kind ∷ []))

pub grows_put : (n : ℕ) (spot : Place) (nodes : List Node) → Grows nodes (put_at n spot nodes)
grows_put n spot nodes = grows_same nodes (put_at n spot nodes) (labels_put n spot nodes)

pub grows_created_at : (spot : Place) (kind : Kind) (t : GrowingTree) → Grows t.nodes (created_at spot kind t).nodes
grows_created_at spot kind t = grows_both t.nodes (t.nodes ++ leaf kind ∷ []) (put_at (length t.nodes) spot (t.nodes ++ leaf kind ∷ []))
    (grows_leaf kind t.nodes)
    (grows_put (length t.nodes) spot (t.nodes ++ leaf kind ∷ []))

-- ---- characters

abbrev pub in_text : Option (List ℕ) → ℕ → Place → ℕ → GrowingTree → GrowingTree
in_text (Some text) n spot c t = with_text t n (text ++ c ∷ [])
in_text None n spot c t = created_at spot (TextNode (c ∷ [])) t

grows_in_text : (o : Option (List ℕ)) (n : ℕ) (spot : Place) (c : ℕ) (t : GrowingTree) → text_in (kind_of t n) ≡ o →
    Grows t.nodes (in_text o n spot c t).nodes
grows_in_text (Some text) n spot c t e = grows_same t.nodes (with_text t n (text ++ c ∷ [])).nodes
    (labels_text text (text ++ c ∷ []) t.nodes n e)
grows_in_text None n spot c t e = grows_created_at spot (TextNode (c ∷ [])) t

in_text_is : (o : Option (List ℕ)) (n : ℕ) (spot : Place) (c : ℕ) (t : GrowingTree) →
    in_text o n spot c t ≡ elim o [ Some text ↦ with_text t n (text ++ c ∷ []) | None ↦ created_at spot (TextNode (c ∷ [])) t ]
in_text_is (Some text) n spot c t = refl
in_text_is None n spot c t = refl

-- a tree whose store grows, and in which nothing else changes
pub record OnlyNodes (old new : GrowingTree) : Type 0 where
  pub grows : Grows old.nodes new.nodes
  pub only : new ≡ record old { nodes = new.nodes }

pub only_both : (a b c : GrowingTree) → OnlyNodes a b → OnlyNodes b c → OnlyNodes a c
only_both a b c one two = record {
  grows = grows_both a.nodes b.nodes c.nodes one.grows two.grows;
  only = two.only ∙ ap (λ (t : GrowingTree). record t { nodes = c.nodes }) one.only;
}

pub only_same : (t : GrowingTree) → OnlyNodes t t
only_same t = record { grows = grows_same t.nodes t.nodes refl; only = refl }

pub only_created_at : (spot : Place) (kind : Kind) (t : GrowingTree) → OnlyNodes t (created_at spot kind t)
only_created_at spot kind t = record { grows = grows_created_at spot kind t; only = refl }

only_behind : (o : Option ℕ) (spot : Place) (c : ℕ) (t : GrowingTree) → OnlyNodes t (text_behind o spot c t)
only_behind None spot c t = only_created_at spot (TextNode (c ∷ [])) t
only_behind (Some n) spot c t =
    subst (OnlyNodes t) (in_text_is (text_in (kind_of t n)) n spot c t) (record {
      grows = grows_in_text (text_in (kind_of t n)) n spot c t
          refl;
      only = by (text_in (kind_of t n));
    })
  where
    by : (o : Option (List ℕ)) → in_text o n spot c t ≡ record t { nodes = (in_text o n spot c t).nodes }
    by (Some text) = refl
    by None = refl

pub only_char : (c : ℕ) (t : GrowingTree) → OnlyNodes t (with_char c t)
only_char c t = by (place_is_document t (place t))
  where
    by : (x : Bool) → OnlyNodes t (elim x as (λ _. GrowingTree) [
      | true ↦ t
      | false ↦ text_behind (node_before t.nodes (place t))
          (place t) c t
    ])
    by true = only_same t
    by false = only_behind (node_before t.nodes (place t)) (place t) c t

pub only_chars : (cs : List ℕ) (t : GrowingTree) → OnlyNodes t (with_chars cs t)
only_chars [] t = only_same t
only_chars (c ∷ cs) t = only_both t (with_char c t) (with_chars cs (with_char c t)) (only_char c t) (only_chars cs (with_char c t))

pub only_merged : (o : Option ℕ) (new : List NodeAttr) (t : GrowingTree) → OnlyNodes t (merged_into o new t)
only_merged None new t = only_same t
only_merged (Some n) new t = record {
  grows = grows_same t.nodes (merged_into (Some n) new t).nodes (labels_attrs new t.nodes n);
  only = refl;
}

-- ---- elements that are made

pub length_put : (n : ℕ) (spot : Place) (nodes : List Node) → length (put_at n spot nodes) ≡ length nodes
length_put n (EndOf p) nodes = length_changed (λ node. record node { children = node.children ++ n ∷ [] }) (removed n nodes) p ∙
    length_removed nodes
  where
    length_changed : (f : Node → Node) (ns : List Node) (m : ℕ) → length (changed_at f ns m) ≡ length ns
    length_changed f [] m = refl
    length_changed f (node ∷ ns) zero = refl
    length_changed f (node ∷ ns) (suc m) = ap suc (length_changed f ns m)

    length_removed : (ns : List Node) → length (removed n ns) ≡ length ns
    length_removed [] = refl
    length_removed (node ∷ ns) = ap suc (length_removed ns)
length_put n (Before p m) nodes = length_changed (λ node. record node { children = placed_before n m node.children }) (removed n nodes) p ∙
    length_removed nodes
  where
    length_changed : (f : Node → Node) (ns : List Node) (k : ℕ) → length (changed_at f ns k) ≡ length ns
    length_changed f [] k = refl
    length_changed f (node ∷ ns) zero = refl
    length_changed f (node ∷ ns) (suc k) = ap suc (length_changed f ns k)

    length_removed : (ns : List Node) → length (removed n ns) ≡ length ns
    length_removed [] = refl
    length_removed (node ∷ ns) = ap suc (length_removed ns)

-- the store grows, and the next number is that of an element with this label
pub record Makes (label : Label) (old new : GrowingTree) : Type 0 where
  pub grows : Grows old.nodes new.nodes
  pub made : (test : Label → Bool) → test label ≡ true → Is test (labels new.nodes) (length old.nodes)
  pub only : new ≡ record old { nodes = new.nodes }

made_leaf : (kind : Kind) (nodes : List Node) (test : Label → Bool) → test (label_of kind) ≡ true →
    Is test (labels (nodes ++ leaf kind ∷ [])) (length nodes)
made_leaf kind nodes test h = subst (λ ls. Is test ls (length nodes)) (sym (labels_more nodes (leaf kind ∷ [])))
    (last_at test (labels nodes) (label_of kind) nodes refl h)

pub makes_element : (space : Space) (name : List ℕ) (attrs : List NodeAttr) (t : GrowingTree) →
    Makes (record { name = key_of space name; html = is_html space }) t (created_element space name attrs t)
makes_element space name attrs t = by (is_template space name)
  where
    with_contents : Kind
    with_contents = ElementNode space name attrs (Some (suc (fresh t)))

    first : List Node
    first = t.nodes ++ leaf with_contents ∷ []

    by : (x : Bool) → Makes (record { name = key_of space name; html = is_html space }) t
        (elim x as (λ _. GrowingTree) [
          | true ↦ created ContentsNode (created (ElementNode space name attrs (Some (suc (fresh t)))) t)
          | false ↦ created (ElementNode space name attrs None) t
        ])
    by true = record {
      grows = grows_both t.nodes first (first ++ leaf ContentsNode ∷ []) (grows_leaf with_contents t.nodes) (grows_leaf ContentsNode first);
      made = λ test h. grows_at test first (first ++ leaf ContentsNode ∷ []) (grows_leaf ContentsNode first) (length t.nodes)
          (made_leaf with_contents t.nodes test h);
      only = refl;
    }
    by false = record {
      grows = grows_leaf (ElementNode space name attrs None) t.nodes;
      made = λ test h. made_leaf (ElementNode space name attrs None) t.nodes test h;
      only = refl;
    }

pub makes_put : (l : Label) (old new : GrowingTree) (n : ℕ) (spot : Place) → Makes l old new → Makes l old (put n spot new)
makes_put l old new n spot makes = record {
  grows = grows_both old.nodes new.nodes (put_at n spot new.nodes) makes.grows (grows_put n spot new.nodes);
  made = λ test h. grows_at test new.nodes (put_at n spot new.nodes) (grows_put n spot new.nodes) (length old.nodes) (makes.made test h);
  only = ap (λ (t : GrowingTree). record t { nodes = put_at n spot new.nodes }) makes.only;
}

pub at_both : (one other third : Label → Bool) → ((l : Label) → one l ≡ true → other l ≡ true → third l ≡ true) →
    (ls : List Label) (n : ℕ) → Is one ls n → Is other ls n → Is third ls n
at_both one other third so [] n h k = cc
at_both one other third so (l ∷ ls) zero h k = so l h k
at_both one other third so (l ∷ ls) (suc n) h k = at_both one other third so ls n h k
