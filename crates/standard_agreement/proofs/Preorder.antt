-- Finished trees in the store: their nodes have the numbers from one on, in document order.
use Rattle.std.specs.Prelude.{◌≡◌, refl, ℕ, zero, suc, ◌+◌, ◌<◌, ◌≤◌, Bool, true, false, cond, not, nat_eq, List, [], ◌∷◌, ◌++◌, None, Some}
use Rattle.std.proofs.Common.{arith}
use Rattle.std.proofs.lemmas.Bool.{true≢false}
use mathlib.Core.Path.{◌∙◌, sym, ap, subst}
use Rattle.standard_tokens.specs.Tokens.{Attr}
pub use Rattle.standard_agreement.specs.PlainPages.{node_attrs, whole}
use Rattle.standard_rules.specs.TreeTokens.{Trees, comment_node, doctype_named, doctype_node, element_node, joined, no_trees, text_node, with_char}
use Rattle.standard_rules.proofs.TreeLists.{ends_text}
use Rattle.standard_trees.specs.TreeStore.{CommentNode, DoctypeNode, ElementNode, Html, Kind, Node, TextNode, Trees as WholeTrees}
use Rattle.standard_trees.specs.TreeStore.{comment_tree, doctype_tree, element_tree, last_of, leaf, no_trees as no_whole, node_at, text_in, text_tree}
use Rattle.standard_trees.specs.TreeStore.{trees_of, without}

-- ---- numbers

-- the number behind the last of the trees, if the first has the number n
abbrev pub after : ℕ → Trees → ℕ
after n no_trees = n
after n (text_node text later) = after (suc n) later
after n (comment_node text later) = after (suc n) later
after n (doctype_node name later) = after (suc n) later
after n (element_node name attrs children later) = after (after (suc n) children) later

-- the numbers of the siblings
abbrev pub roots : ℕ → Trees → List ℕ
roots n no_trees = []
roots n (text_node text later) = n ∷ roots (suc n) later
roots n (comment_node text later) = n ∷ roots (suc n) later
roots n (doctype_node name later) = n ∷ roots (suc n) later
roots n (element_node name attrs children later) = n ∷ roots (after (suc n) children) later

abbrev pub element : List ℕ → List Attr → Kind
element name attrs = ElementNode Html name (node_attrs attrs) None

abbrev pub node_of : Kind → List ℕ → Node
node_of kind children = record { kind = kind; children = children }

-- the nodes of the trees are in the store
abbrev pub At : List Node → ℕ → Trees → Type 0
At nodes n no_trees = Unit {0}
At nodes n (text_node text later) = (node_at nodes n ≡ leaf (TextNode text)) × At nodes (suc n) later
At nodes n (comment_node text later) = (node_at nodes n ≡ leaf (CommentNode text)) × At nodes (suc n) later
At nodes n (doctype_node name later) = (node_at nodes n ≡ leaf (DoctypeNode (doctype_named name))) × At nodes (suc n) later
At nodes n (element_node name attrs children later) =
    (node_at nodes n ≡ node_of (element name attrs) (roots (suc n) children)) × At nodes (suc n) children × At nodes (after (suc n) children) later

pub grows : (n : ℕ) (t : Trees) → n ≤ after n t
grows n no_trees = omega arith
grows n (text_node text later) = let h : suc n ≤ after (suc n) later = grows (suc n) later in omega arith
grows n (comment_node text later) = let h : suc n ≤ after (suc n) later = grows (suc n) later in omega arith
grows n (doctype_node name later) = let h : suc n ≤ after (suc n) later = grows (suc n) later in omega arith
grows n (element_node name attrs children later) =
    let h : suc n ≤ after (suc n) children = grows (suc n) children in
    let k : after (suc n) children ≤ after (after (suc n) children) later = grows (after (suc n) children) later in
    omega arith

-- where the nodes with these numbers are the same, so are the trees
pub kept : (nodes more : List Node) (n : ℕ) (t : Trees) → ((m : ℕ) → n ≤ m → m < after n t → node_at more m ≡ node_at nodes m) → At nodes n t → At more n t
kept nodes more n no_trees same a = tt
kept nodes more n (text_node text later) same a =
    let g : suc n ≤ after (suc n) later = grows (suc n) later in
    (same n (omega arith) (omega arith) ∙ a.0, kept nodes more (suc n) later (λ m l u. same m (omega arith) u) a.1)
kept nodes more n (comment_node text later) same a =
    let g : suc n ≤ after (suc n) later = grows (suc n) later in
    (same n (omega arith) (omega arith) ∙ a.0, kept nodes more (suc n) later (λ m l u. same m (omega arith) u) a.1)
kept nodes more n (doctype_node name later) same a =
    let g : suc n ≤ after (suc n) later = grows (suc n) later in
    (same n (omega arith) (omega arith) ∙ a.0, kept nodes more (suc n) later (λ m l u. same m (omega arith) u) a.1)
kept nodes more n (element_node name attrs children later) same a =
    let g : suc n ≤ after (suc n) children = grows (suc n) children in
    let h : after (suc n) children ≤ after (after (suc n) children) later = grows (after (suc n) children) later in (
      same n (omega arith) (omega arith) ∙ a.0,
      kept nodes more (suc n) children (λ m l u. same m (omega arith) (omega arith)) a.1,
      kept nodes more (after (suc n) children) later (λ m l u. same m (omega arith) u) a.2,
    )

-- ---- siblings behind siblings

pub after_joined : (n : ℕ) (s t : Trees) → after n (joined s t) ≡ after (after n s) t
after_joined n no_trees t = refl
after_joined n (text_node text later) t = after_joined (suc n) later t
after_joined n (comment_node text later) t = after_joined (suc n) later t
after_joined n (doctype_node name later) t = after_joined (suc n) later t
after_joined n (element_node name attrs children later) t = after_joined (after (suc n) children) later t

pub roots_joined : (n : ℕ) (s t : Trees) → roots n (joined s t) ≡ roots n s ++ roots (after n s) t
roots_joined n no_trees t = refl
roots_joined n (text_node text later) t = ap (λ ns. n ∷ ns) (roots_joined (suc n) later t)
roots_joined n (comment_node text later) t = ap (λ ns. n ∷ ns) (roots_joined (suc n) later t)
roots_joined n (doctype_node name later) t = ap (λ ns. n ∷ ns) (roots_joined (suc n) later t)
roots_joined n (element_node name attrs children later) t = ap (λ ns. n ∷ ns) (roots_joined (after (suc n) children) later t)

pub at_joined : (nodes : List Node) (n : ℕ) (s t : Trees) → At nodes n s → At nodes (after n s) t → At nodes n (joined s t)
at_joined nodes n no_trees t a b = b
at_joined nodes n (text_node text later) t a b = (a.0, at_joined nodes (suc n) later t a.1 b)
at_joined nodes n (comment_node text later) t a b = (a.0, at_joined nodes (suc n) later t a.1 b)
at_joined nodes n (doctype_node name later) t a b = (a.0, at_joined nodes (suc n) later t a.1 b)
at_joined nodes n (element_node name attrs children later) t a b = (a.0, a.1, at_joined nodes (after (suc n) children) later t a.2 b)

-- ---- a number that none of them has

pub smaller : (m k : ℕ) → m < k → nat_eq m k ≡ false
smaller m k h = grind arith

filter_first : (m k : ℕ) (ms : List ℕ) → m < k → without k ms ≡ ms → without k (m ∷ ms) ≡ m ∷ ms
filter_first m k ms h same = by_test (nat_eq m k) (smaller m k h)
  where
    by_test : (x : Bool) → x ≡ false → cond (not x) (m ∷ without k ms) (without k ms) ≡ m ∷ ms
    by_test true e = absurd (true≢false e)
    by_test false e = ap (λ ns. m ∷ ns) same

pub without_roots : (k n : ℕ) (t : Trees) → after n t ≤ k → without k (roots n t) ≡ roots n t
without_roots k n no_trees h = refl
without_roots k n (text_node text later) h =
    let g : suc n ≤ after (suc n) later = grows (suc n) later in filter_first n k (roots (suc n) later) (omega arith) (without_roots k (suc n) later h)
without_roots k n (comment_node text later) h =
    let g : suc n ≤ after (suc n) later = grows (suc n) later in filter_first n k (roots (suc n) later) (omega arith) (without_roots k (suc n) later h)
without_roots k n (doctype_node name later) h =
    let g : suc n ≤ after (suc n) later = grows (suc n) later in filter_first n k (roots (suc n) later) (omega arith) (without_roots k (suc n) later h)
without_roots k n (element_node name attrs children later) h =
    let g : suc n ≤ after (suc n) children = grows (suc n) children in
    let l : after (suc n) children ≤ after (after (suc n) children) later = grows (after (suc n) children) later in
    filter_first n k (roots (after (suc n) children) later) (omega arith) (without_roots k (after (suc n) children) later h)

-- ---- as a value

pub trees_are : (depth : ℕ) (nodes : List Node) (n : ℕ) (t : Trees) → after n t ≤ n + depth → At nodes n t → trees_of depth nodes (roots n t) ≡ whole t
trees_are zero nodes n no_trees h a = refl
trees_are zero nodes n (text_node text later) h a = let g : suc n ≤ after (suc n) later = grows (suc n) later in absurd (omega arith)
trees_are zero nodes n (comment_node text later) h a = let g : suc n ≤ after (suc n) later = grows (suc n) later in absurd (omega arith)
trees_are zero nodes n (doctype_node name later) h a = let g : suc n ≤ after (suc n) later = grows (suc n) later in absurd (omega arith)
trees_are zero nodes n (element_node name attrs children later) h a =
    let g : suc n ≤ after (suc n) children = grows (suc n) children in
    let l : after (suc n) children ≤ after (after (suc n) children) later = grows (after (suc n) children) later in absurd (omega arith)
trees_are (suc depth) nodes n no_trees h a = refl
trees_are (suc depth) nodes n (text_node text later) h a = rw a.0 (ap (text_tree text) (trees_are (suc depth) nodes (suc n) later (omega arith) a.1))
trees_are (suc depth) nodes n (comment_node text later) h a = rw a.0 (ap (comment_tree text) (trees_are (suc depth) nodes (suc n) later (omega arith) a.1))
trees_are (suc depth) nodes n (doctype_node name later) h a =
    rw a.0 (ap (doctype_tree (doctype_named name)) (trees_are (suc depth) nodes (suc n) later (omega arith) a.1))
trees_are (suc depth) nodes n (element_node name attrs children later) h a =
    let g : suc n ≤ after (suc n) children = grows (suc n) children in
    let l : after (suc n) children ≤ after (after (suc n) children) later = grows (after (suc n) children) later in
    rw a.0
    (ap (λ (c : WholeTrees). element_tree Html name (node_attrs attrs) no_whole c (trees_of (suc depth) nodes (roots (after (suc n) children) later)))
    (trees_are depth nodes (suc n) children (omega arith) a.1)
    ∙ ap (λ (c : WholeTrees). element_tree Html name (node_attrs attrs) no_whole (whole children) c)
    (trees_are (suc depth) nodes (after (suc n) children) later (omega arith) a.2))

-- ---- a text at the end

pub last_more : (m n : ℕ) (ns : List ℕ) → last_of ns ≡ Some m → last_of (n ∷ ns) ≡ Some m
last_more m n [] h = cc
last_more m n (k ∷ ks) h = h

pub record TextEnd (nodes : List Node) (n : ℕ) (t : Trees) : Type 0 where
  pub number : ℕ
  pub text : List ℕ
  pub is : suc number ≡ after n t
  pub above : n ≤ number
  pub last : last_of (roots n t) ≡ Some number
  pub node : node_at nodes number ≡ leaf (TextNode text)
  pub grown : (c : ℕ) (more : List Node) → ((k : ℕ) → n ≤ k → k < number → node_at more k ≡ node_at nodes k) → node_at more number ≡ leaf (TextNode (text ++ c ∷ [])) → At more n (with_char t c)
  pub roots : (c : ℕ) → roots n (with_char t c) ≡ roots n t
  pub after : (c : ℕ) → after n (with_char t c) ≡ after n t

-- the same of trees with one more at their front, which takes the numbers from n to k
later_end : (nodes : List Node) (n k : ℕ) (t : Trees) → n < k → TextEnd nodes k t → (of : Trees → Trees) →
    ((u : Trees) → after n (of u) ≡ after k u) → ((u : Trees) → roots n (of u) ≡ n ∷ roots k u) → ((c : ℕ) → with_char (of t) c ≡ of (with_char t c)) →
    ((more : List Node) (u : Trees) → ((m : ℕ) → n ≤ m → m < k → node_at more m ≡ node_at nodes m) → At more k u → At more n (of u)) → TextEnd nodes n (of t)
later_end nodes n k t less e of ends begins chars at =
    let above : k ≤ e.number = e.above in
    record {
      number = e.number;
      text = e.text;
      is = e.is ∙ sym (ends t);
      above = omega arith;
      last = rw (begins t) (last_more e.number n (roots k t) e.last);
      node = e.node;
      grown = λ c more same new. subst (At more n) (sym (chars c))
          (at more (with_char t c) (λ m l u. same m l (omega arith)) (e.grown c more (λ m l u. same m (omega arith) u) new));
      roots = λ c. ap (roots n) (chars c) ∙ begins (with_char t c) ∙ ap (λ ns. n ∷ ns) (e.roots c) ∙ sym (begins t);
      after = λ c. ap (after n) (chars c) ∙ ends (with_char t c) ∙ e.after c ∙ sym (ends t);
    }

pub text_end : (nodes : List Node) (n : ℕ) (t : Trees) → ends_text t ≡ true → At nodes n t → TextEnd nodes n t
text_end nodes n no_trees h a = absurd (true≢false (sym h))
text_end nodes n (text_node text no_trees) h a =
    record { number = n; text = text; is = refl; above = omega arith; last = refl; node = a.0; grown = λ c more same new. (new, tt); roots = λ c. refl; after = λ c. refl }
text_end nodes n (text_node text (text_node other later)) h a =
    later_end nodes n (suc n) (text_node other later) (omega arith) (text_end nodes (suc n) (text_node other later) h a.1) (text_node text) (λ u. refl) (λ u. refl) (λ c. refl)
    (λ more u same b. (same n (omega arith) (omega arith) ∙ a.0, b))
text_end nodes n (text_node text (comment_node other later)) h a =
    later_end nodes n (suc n) (comment_node other later) (omega arith) (text_end nodes (suc n) (comment_node other later) h a.1) (text_node text) (λ u. refl) (λ u. refl) (λ c. refl)
    (λ more u same b. (same n (omega arith) (omega arith) ∙ a.0, b))
text_end nodes n (text_node text (doctype_node other later)) h a =
    later_end nodes n (suc n) (doctype_node other later) (omega arith) (text_end nodes (suc n) (doctype_node other later) h a.1) (text_node text) (λ u. refl) (λ u. refl) (λ c. refl)
    (λ more u same b. (same n (omega arith) (omega arith) ∙ a.0, b))
text_end nodes n (text_node text (element_node name attrs children later)) h a =
    later_end nodes n (suc n) (element_node name attrs children later) (omega arith) (text_end nodes (suc n) (element_node name attrs children later) h a.1) (text_node text) (λ u. refl)
    (λ u. refl) (λ c. refl) (λ more u same b. (same n (omega arith) (omega arith) ∙ a.0, b))
text_end nodes n (comment_node text later) h a =
    later_end nodes n (suc n) later (omega arith) (text_end nodes (suc n) later h a.1) (comment_node text) (λ u. refl) (λ u. refl) (λ c. refl)
    (λ more u same b. (same n (omega arith) (omega arith) ∙ a.0, b))
text_end nodes n (doctype_node name later) h a =
    later_end nodes n (suc n) later (omega arith) (text_end nodes (suc n) later h a.1) (doctype_node name) (λ u. refl) (λ u. refl) (λ c. refl)
    (λ more u same b. (same n (omega arith) (omega arith) ∙ a.0, b))
text_end nodes n (element_node name attrs children later) h a =
    let g : suc n ≤ after (suc n) children = grows (suc n) children in
    later_end nodes n (after (suc n) children) later (omega arith) (text_end nodes (after (suc n) children) later h a.2) (element_node name attrs children) (λ u. refl) (λ u. refl)
    (λ c. refl) (λ more u same b. (same n (omega arith) (omega arith) ∙ a.0, kept nodes more (suc n) children (λ m l u. same m (omega arith) u) a.1, b))

-- no text at the end
pub data NoTextEnd (nodes : List Node) (ns : List ℕ) : Type 0 where
  nothing : last_of ns ≡ None → NoTextEnd nodes ns
  another : (m : ℕ) → last_of ns ≡ Some m → text_in (node_at nodes m).kind ≡ None → NoTextEnd nodes ns

none_one : (nodes : List Node) (n : ℕ) (ns : List ℕ) → text_in (node_at nodes n).kind ≡ None → NoTextEnd nodes ns → NoTextEnd nodes (n ∷ ns)
none_one nodes n [] h e = another n refl h
none_one nodes n (k ∷ ks) h (nothing is) = nothing is
none_one nodes n (k ∷ ks) h (another m is other) = another m is other

-- behind one more tree the last is the same
none_more : (nodes : List Node) (n k : ℕ) (ns : List ℕ) → NoTextEnd nodes (k ∷ ns) → NoTextEnd nodes (n ∷ k ∷ ns)
none_more nodes n k ns (nothing is) = nothing is
none_more nodes n k ns (another m is other) = another m is other

pub no_text_end : (nodes : List Node) (n : ℕ) (t : Trees) → ends_text t ≡ false → At nodes n t → NoTextEnd nodes (roots n t)
no_text_end nodes n no_trees h a = nothing refl
no_text_end nodes n (text_node text no_trees) h a = absurd (true≢false h)
no_text_end nodes n (text_node text (text_node other later)) h a = none_more nodes n (suc n) (roots (suc (suc n)) later) (no_text_end nodes (suc n) (text_node other later) h a.1)
no_text_end nodes n (text_node text (comment_node other later)) h a = none_more nodes n (suc n) (roots (suc (suc n)) later) (no_text_end nodes (suc n) (comment_node other later) h a.1)
no_text_end nodes n (text_node text (doctype_node other later)) h a = none_more nodes n (suc n) (roots (suc (suc n)) later) (no_text_end nodes (suc n) (doctype_node other later) h a.1)
no_text_end nodes n (text_node text (element_node name attrs children later)) h a =
    none_more nodes n (suc n) (roots (after (suc (suc n)) children) later) (no_text_end nodes (suc n) (element_node name attrs children later) h a.1)
no_text_end nodes n (comment_node text later) h a = none_one nodes n (roots (suc n) later) (ap (λ (node : Node). text_in node.kind) a.0) (no_text_end nodes (suc n) later h a.1)
no_text_end nodes n (doctype_node name later) h a = none_one nodes n (roots (suc n) later) (ap (λ (node : Node). text_in node.kind) a.0) (no_text_end nodes (suc n) later h a.1)
no_text_end nodes n (element_node name attrs children later) h a =
    none_one nodes n (roots (after (suc n) children) later) (ap (λ (node : Node). text_in node.kind) a.0) (no_text_end nodes (after (suc n) children) later h a.2)
