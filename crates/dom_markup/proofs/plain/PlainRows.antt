-- The nodes of a read document stand for its trees.
use Rattle.std.proofs.Common.{◌≡◌, ℕ, zero, suc, ◌+◌, ◌<◌, ◌≤◌, Bool, true, false, cond, List, [], ◌∷◌, ◌++◌, length, get_or, Option, Some, None, refl, sym, ap, ◌∙◌, subst, arith, append-nil, add-zero, slice_get, inl, inr, map, length-append}
use Rattle.std.specs.Prelude.{◌==◌, ◌⊎◌, MatchBool, MatchOption}
use Rattle.std.proofs.lemmas.Bool.{eq-eqb, ne_eqb}
use Rattle.dom_nodes.specs.declared.node_data.NodeData.{NodeData}
use Rattle.dom_nodes.specs.declared.node_data.NodeData.TheVariants.{Document, Fragment, Doctype, Text, Comment}
use Rattle.dom_links.specs.Lists.{map_from, names}
use Rattle.dom_links.specs.Forest.{Forest, children_of}
use Rattle.dom_markup.specs.Names.{is_template}
use Rattle.dom_markup.specs.Numbered.{Row, read_attr, read_element, size, rows_from, rows_of, children_among, document_of}
use Rattle.dom_markup.specs.ValueTrees.{Attribute, ValueTrees}
use Rattle.dom_markup.specs.ValueTrees.ValueTrees.{no_trees, text_node, comment_node, doctype_node, element_node}
use Rattle.dom_markup.specs.Plain.{IsElement, Represents, StandForAttributes}

-- ---- children among rows

cond_append : (b : Bool) (i : ℕ) (xs ys : List ℕ) → cond b (i ∷ (xs ++ ys)) (xs ++ ys) ≡ cond b (i ∷ xs) xs ++ ys
cond_append true i xs ys = refl
cond_append false i xs ys = refl

children_among-append : (i q : ℕ) (xs ys : List Row) → children_among i (xs ++ ys) q ≡ children_among i xs q ++ children_among (i + length xs) ys q
children_among-append i q [] ys = rw add-zero refl
children_among-append i q (row ∷ xs) ys =
    let sum : (i + 1) + length xs ≡ i + length (row ∷ xs) = omega arith in
    ap (λ (ks : List ℕ). cond (names row.parent q) (i ∷ ks) ks) (children_among-append (i + 1) q xs ys ∙ ap (λ (k : ℕ). children_among (i + 1) xs q ++ children_among k ys q) sum)
    ∙ cond_append (names row.parent q) i (children_among (i + 1) xs q) (children_among (i + length (row ∷ xs)) ys q)

pub rows-size : (p n : ℕ) (trees : ValueTrees) → length (rows_from p n trees) ≡ size trees
rows-size p n no_trees = refl
rows-size p n (text_node contents later) = omega (arith, rows-size p (n + 1) later)
rows-size p n (comment_node contents later) = omega (arith, rows-size p (n + 1) later)
rows-size p n (doctype_node name public system later) = omega (arith, rows-size p (n + 1) later)
rows-size p n (element_node name attributes children later) = by_name (is_template name) refl (rows-size (n + 1) (n + 2) children) (rows-size p (n + 2 + size children) later) (rows-size n (n + 1) children) (rows-size p (n + 1 + size children) later)
  where
    by_name : (t : Bool) → is_template name ≡ t → length (rows_from (n + 1) (n + 2) children) ≡ size children → length (rows_from p (n + 2 + size children) later) ≡ size later →
        length (rows_from n (n + 1) children) ≡ size children → length (rows_from p (n + 1 + size children) later) ≡ size later →
        length (rows_from p n (element_node name attributes children later)) ≡ size (element_node name attributes children later)
    by_name true t a b c d = rw t (omega (arith, length-append (rows_from (n + 1) (n + 2) children) (rows_from p (n + 2 + size children) later), a, b))
    by_name false t a b c d = rw t (omega (arith, length-append (rows_from n (n + 1) children) (rows_from p (n + 1 + size children) later), c, d))

-- a number that no node of some trees has
abbrev pub Outside : ℕ → ℕ → ℕ → Type 0
Outside n many q = (q < n) ⊎ (n + many ≤ q)

outside_part : (n many m few q : ℕ) → Outside n many q → n ≤ m → m + few ≤ n + many → Outside m few q
outside_part n many m few q (inl h) low high = inl (omega arith)
outside_part n many m few q (inr h) low high = inr (omega arith)

outside_other : (n many m q : ℕ) → Outside n many q → n ≤ m → m < n + many → (m == q) ≡ false
outside_other n many m q (inl h) low high = ne_eqb m q (λ e. omega (arith, e))
outside_other n many m q (inr h) low high = ne_eqb m q (λ e. omega (arith, e))

both_none : (i q : ℕ) (xs ys : List Row) → children_among i xs q ≡ [] → children_among (i + length xs) ys q ≡ [] → children_among i (xs ++ ys) q ≡ []
both_none i q xs ys a b = children_among-append i q xs ys ∙ (ap (λ ks. ks ++ children_among (i + length xs) ys q) a ∙ b)

-- no other node has children among the nodes of trees
rows-none : (p n : ℕ) (trees : ValueTrees) (i q : ℕ) → (p == q) ≡ false → Outside n (size trees) q → children_among i (rows_from p n trees) q ≡ []
rows-none p n no_trees i q other out = refl
rows-none p n (text_node contents later) i q other out = rw other (rows-none p (n + 1) later (i + 1) q other (outside_part n _ (n + 1) (size later) q out (omega arith) (omega arith)))
rows-none p n (comment_node contents later) i q other out = rw other (rows-none p (n + 1) later (i + 1) q other (outside_part n _ (n + 1) (size later) q out (omega arith) (omega arith)))
rows-none p n (doctype_node name public system later) i q other out = rw other (rows-none p (n + 1) later (i + 1) q other (outside_part n _ (n + 1) (size later) q out (omega arith) (omega arith)))
rows-none p n (element_node name attributes children later) i q other out = by_name (is_template name) refl
    (λ i m. rows-none (n + 1) (n + 2) children i q m) (λ i. rows-none p (n + 2 + size children) later i q other) (λ i m. rows-none n (n + 1) children i q m) (λ i. rows-none p (n + 1 + size children) later i q other)
  where
    by_name : (t : Bool) → is_template name ≡ t →
        ((i : ℕ) → ((n + 1) == q) ≡ false → Outside (n + 2) (size children) q → children_among i (rows_from (n + 1) (n + 2) children) q ≡ []) →
        ((i : ℕ) → Outside (n + 2 + size children) (size later) q → children_among i (rows_from p (n + 2 + size children) later) q ≡ []) →
        ((i : ℕ) → (n == q) ≡ false → Outside (n + 1) (size children) q → children_among i (rows_from n (n + 1) children) q ≡ []) →
        ((i : ℕ) → Outside (n + 1 + size children) (size later) q → children_among i (rows_from p (n + 1 + size children) later) q ≡ []) →
        children_among i (rows_from p n (element_node name attributes children later)) q ≡ []
    by_name true t a b c d =
        let o : Outside n (2 + size children + size later) q = rw t at out in
        rw (t, other) (both_none (i + 1 + 1) q (rows_from (n + 1) (n + 2) children) (rows_from p (n + 2 + size children) later)
        (a (i + 1 + 1) (outside_other n _ (n + 1) q o (omega arith) (omega arith)) (outside_part n _ (n + 2) (size children) q o (omega arith) (omega arith)))
        (b _ (outside_part n _ (n + 2 + size children) (size later) q o (omega arith) (omega arith))))
    by_name false t a b c d =
        let o : Outside n (1 + size children + size later) q = rw t at out in
        rw (t, other) (both_none (i + 1) q (rows_from n (n + 1) children) (rows_from p (n + 1 + size children) later)
        (c (i + 1) (outside_other n _ n q o (omega arith) (omega arith)) (outside_part n _ (n + 1) (size children) q o (omega arith) (omega arith)))
        (d _ (outside_part n _ (n + 1 + size children) (size later) q o (omega arith) (omega arith))))

-- ---- a part of a forest's nodes

abbrev pub contents_in : List Row → List NodeData
contents_in rows = map (λ row. row.content) rows

-- the forest's nodes from the number n on are these, and the children of each are among them
pub record HasRows (forest : Forest) (n : ℕ) (rows : List Row) : Type 0 where
  pub content : (k : ℕ) → k < length rows → slice_get forest.content (n + k) ≡ slice_get (contents_in rows) k
  pub children : (q : ℕ) → n ≤ q → q < n + length rows → children_of forest q ≡ children_among n rows q

pub contents_front : (xs ys : List Row) (k : ℕ) → k < length xs → slice_get (contents_in (xs ++ ys)) k ≡ slice_get (contents_in xs) k
contents_front [] ys k h = absurd (omega arith)
contents_front (x ∷ xs) ys zero h = refl
contents_front (x ∷ xs) ys (suc k) h = contents_front xs ys k (omega arith)

pub contents_back : (xs ys : List Row) (k : ℕ) → slice_get (contents_in (xs ++ ys)) (length xs + k) ≡ slice_get (contents_in ys) k
contents_back [] ys k = let plain : 0 + k ≡ k = omega arith in ap (slice_get (contents_in ys)) plain
contents_back (x ∷ xs) ys k = let more : length (x ∷ xs) + k ≡ suc (length xs + k) = omega arith in ap (slice_get (contents_in ((x ∷ xs) ++ ys))) more ∙ contents_back xs ys k

rows_front : (forest : Forest) (n : ℕ) (xs ys : List Row) → HasRows forest n (xs ++ ys) → ((q : ℕ) → n ≤ q → q < n + length xs → children_among (n + length xs) ys q ≡ []) → HasRows forest n xs
rows_front forest n xs ys has none = record {
  content = λ k h. has.content k (omega (arith, length-append xs ys)) ∙ contents_front xs ys k h;
  children = λ q low high. has.children q low (omega (arith, length-append xs ys)) ∙ (children_among-append n q xs ys ∙ (ap (λ ks. children_among n xs q ++ ks) (none q low high) ∙ append-nil (children_among n xs q)));
}

pub rows_back : (forest : Forest) (n m : ℕ) (xs ys : List Row) → n + length xs ≡ m → HasRows forest n (xs ++ ys) → ((q : ℕ) → m ≤ q → children_among n xs q ≡ []) → HasRows forest m ys
rows_back forest n m xs ys sum has none = record {
  content = λ k h.
      (let at : m + k ≡ n + (length xs + k) = omega arith in
      ap (slice_get forest.content) at ∙ (has.content (length xs + k) (omega (arith, length-append xs ys)) ∙ contents_back xs ys k));
  children = λ q low high. has.children q (omega arith) (omega (arith, length-append xs ys)) ∙ (children_among-append n q xs ys ∙ (ap (λ ks. ks ++ children_among (n + length xs) ys q) (none q low) ∙ ap (λ k. children_among k ys q) sum));
}

pub first_content : (forest : Forest) (n : ℕ) (row : Row) (rows : List Row) → HasRows forest n (row ∷ rows) → slice_get forest.content n ≡ Some row.content
first_content forest n row rows has = ap (slice_get forest.content) (sym (add-zero n)) ∙ has.content 0 (omega arith)

first_among : (p n : ℕ) (content : NodeData) (rows : List Row) → children_among n (record { parent = Some p; content = content } ∷ rows) p ≡ n ∷ children_among (n + 1) rows p
first_among p n content rows = rw (eq-eqb p p refl) refl

-- the nodes after a first one, whose parent has a smaller number
pub rows_after : (forest : Forest) (p n : ℕ) (content : NodeData) (rows : List Row) → p < n → HasRows forest n (record { parent = Some p; content = content } ∷ rows) → HasRows forest (n + 1) rows
rows_after forest p n content rows below has = rows_back forest n (n + 1) (record { parent = Some p; content = content } ∷ []) rows (omega arith) has
    (λ q low. let other : (p == q) ≡ false = ne_eqb p q (λ e. omega (arith, e)) in rw other refl)

-- the children of a first node and the nodes after them
pub record Parts (forest : Forest) (p m n : ℕ) (children later : ValueTrees) : Type 0 where
  pub inner : HasRows forest n (rows_from m n children)
  pub outer : HasRows forest (n + size children) (rows_from p (n + size children) later)

pub parts_of : (forest : Forest) (p m n : ℕ) (children later : ValueTrees) → p < m → m < n → HasRows forest n (rows_from m n children ++ rows_from p (n + size children) later) → Parts forest p m n children later
parts_of forest p m n children later below under has =
    let long = rows-size m n children in
    record {
      inner = rows_front forest n (rows_from m n children) (rows_from p (n + size children) later) has
          (λ q low high. rows-none p (n + size children) later (n + length (rows_from m n children)) q (ne_eqb p q (λ e. omega (arith, e))) (inl (omega (arith, long, high))));
      outer = rows_back forest n (n + size children) (rows_from m n children) (rows_from p (n + size children) later) (omega (arith, long)) has
          (λ q low. rows-none m n children n q (ne_eqb m q (λ e. omega (arith, e, low))) (inr low));
    }

-- the first node's children are its own
own_children : (forest : Forest) (p m n : ℕ) (children later : ValueTrees) → p < m → m < n → children_of forest m ≡ children_among n (rows_from m n children ++ rows_from p (n + size children) later) m → children_of forest m ≡ children_among n (rows_from m n children) m
own_children forest p m n children later below under is =
    let first = rows_from m n children in
    let rest = rows_from p (n + size children) later in
    is ∙ (children_among-append n m first rest ∙ (ap (λ ks. children_among n first m ++ ks) (rows-none p (n + size children) later (n + length first) m (ne_eqb p m (λ e. omega (arith, e))) (inl (omega arith)))
    ∙ append-nil (children_among n first m)))

-- and the nodes beside it come after them
beside : (p m n : ℕ) (children later : ValueTrees) → p < m → m < n → children_among n (rows_from m n children ++ rows_from p (n + size children) later) p ≡ children_among (n + size children) (rows_from p (n + size children) later) p
beside p m n children later below under =
    let first = rows_from m n children in
    let rest = rows_from p (n + size children) later in
    children_among-append n p first rest
    ∙ (ap (λ ks. ks ++ children_among (n + length first) rest p) (rows-none m n children n p (ne_eqb m p (λ e. omega (arith, e))) (inl (omega arith)))
    ∙ ap (λ k. children_among k rest p) (omega (arith, rows-size m n children)))

abbrev pub child_row : ℕ → NodeData → Row
child_row p content = record { parent = Some p; content = content }

abbrev pub fragment_row : Row
fragment_row = record { parent = None; content = Fragment }

skip_one : (p n q : ℕ) (content : NodeData) (rows : List Row) → p < q → children_among n (child_row p content ∷ rows) q ≡ children_among (n + 1) rows q
skip_one p n q content rows below = let other : (p == q) ≡ false = ne_eqb p q (λ e. omega (arith, e)) in rw other refl

pub skip_two : (p n q : ℕ) (content : NodeData) (rows : List Row) → p < q → children_among n (child_row p content ∷ (fragment_row ∷ rows)) q ≡ children_among (n + 2) rows q
skip_two p n q content rows below = skip_one p n q content (fragment_row ∷ rows) below ∙ ap (λ i. children_among i rows q) (omega arith)

read_attrs : (attributes : List Attribute) → StandForAttributes (map read_attr attributes) attributes
read_attrs [] = tt
read_attrs (attribute ∷ attributes) = (refl, refl, refl, read_attrs attributes)

-- an element as it was read is one of this name and with these attributes
element_read : (forest : Forest) (n : ℕ) (name : List ℕ) (attributes : List Attribute) (contents : Option ℕ) (below : List ℕ) → slice_get forest.content n ≡ Some (read_element name attributes contents) →
    MatchBool (is_template name) (MatchOption contents ⊥ (λ inner. (children_of forest n ≡ []) × (below ≡ children_of forest inner))) ((contents ≡ None) × (below ≡ children_of forest n)) →
    IsElement forest n name attributes below
element_read forest n name attributes contents below read holds =
    record { attrs = map read_attr attributes; contents = contents; flag = false; read = read; named = read_attrs attributes; holds = holds }

-- an element that is no template
element_represents : (forest : Forest) (p n : ℕ) (name : List ℕ) (attributes : List Attribute) (children later : ValueTrees) → p < n → is_template name ≡ false →
    HasRows forest n (child_row p (read_element name attributes None) ∷ (rows_from n (n + 1) children ++ rows_from p (n + 1 + size children) later)) →
    (HasRows forest (n + 1) (rows_from n (n + 1) children) → Represents forest (children_among (n + 1) (rows_from n (n + 1) children) n) children) →
    (HasRows forest (n + 1 + size children) (rows_from p (n + 1 + size children) later) → Represents forest (children_among (n + 1 + size children) (rows_from p (n + 1 + size children) later) p) later) →
    Represents forest (children_among n (child_row p (read_element name attributes None) ∷ (rows_from n (n + 1) children ++ rows_from p (n + 1 + size children) later)) p) (element_node name attributes children later)
element_represents forest p n name attributes children later below t has inner outer =
    let content = read_element name attributes None in
    let first = rows_from n (n + 1) children in
    let rest = rows_from p (n + 1 + size children) later in
    let after = rows_after forest p n content (first ++ rest) below has in
    let parts = parts_of forest p n (n + 1) children later below (omega arith) after in
    let own = own_children forest p n (n + 1) children later below (omega arith) (has.children n (omega arith) (omega arith) ∙ skip_one p n n content (first ++ rest) below) in (
      n,
      children_among (n + 1 + size children) rest p,
      children_among (n + 1) first n,
      first_among p n content (first ++ rest) ∙ ap (λ ks. n ∷ ks) (beside p n (n + 1) children later below (omega arith)),
      element_read forest n name attributes None (children_among (n + 1) first n) (first_content forest n _ _ has) (rw t (refl, sym own)),
      inner parts.inner,
      outer parts.outer,
    )

-- a template, whose fragment comes right after it
template_represents : (forest : Forest) (p n : ℕ) (name : List ℕ) (attributes : List Attribute) (children later : ValueTrees) → p < n → is_template name ≡ true →
    HasRows forest n (child_row p (read_element name attributes (Some (n + 1))) ∷ (fragment_row ∷ (rows_from (n + 1) (n + 2) children ++ rows_from p (n + 2 + size children) later))) →
    (HasRows forest (n + 2) (rows_from (n + 1) (n + 2) children) → Represents forest (children_among (n + 2) (rows_from (n + 1) (n + 2) children) (n + 1)) children) →
    (HasRows forest (n + 2 + size children) (rows_from p (n + 2 + size children) later) → Represents forest (children_among (n + 2 + size children) (rows_from p (n + 2 + size children) later) p) later) →
    Represents forest (children_among n (child_row p (read_element name attributes (Some (n + 1))) ∷ (fragment_row ∷ (rows_from (n + 1) (n + 2) children ++ rows_from p (n + 2 + size children) later))) p) (element_node name attributes children later)
template_represents forest p n name attributes children later below t has inner outer =
    let content = read_element name attributes (Some (n + 1)) in
    let first = rows_from (n + 1) (n + 2) children in
    let rest = rows_from p (n + 2 + size children) later in
    let after : HasRows forest (n + 2) (first ++ rest) = rows_back forest n (n + 2) (child_row p content ∷ fragment_row ∷ []) (first ++ rest) (omega arith) has (λ q low. skip_two p n q content [] (omega (arith, low))) in
    let parts = parts_of forest p (n + 1) (n + 2) children later (omega arith) (omega arith) after in
    let own = own_children forest p (n + 1) (n + 2) children later (omega arith) (omega arith) (has.children (n + 1) (omega arith) (omega arith) ∙ skip_two p n (n + 1) content (first ++ rest) (omega arith)) in
    let none : children_of forest n ≡ [] = has.children n (omega arith) (omega arith) ∙ (skip_two p n n content (first ++ rest) below
    ∙ both_none (n + 2) n first rest (rows-none (n + 1) (n + 2) children (n + 2) n (ne_eqb (n + 1) n (λ e. omega (arith, e))) (inl (omega arith))) (rows-none p (n + 2 + size children) later (n + 2 + length first) n (ne_eqb p n (λ e. omega (arith, e))) (inl (omega arith)))) in
    let many : n + 1 + 1 ≡ n + 2 = omega arith in (
      n,
      children_among (n + 2 + size children) rest p,
      children_among (n + 2) first (n + 1),
      first_among p n content (fragment_row ∷ (first ++ rest)) ∙ ap (λ ks. n ∷ ks) (ap (λ i. children_among i (first ++ rest) p) many ∙ beside p (n + 1) (n + 2) children later (omega arith) (omega arith)),
      element_read forest n name attributes (Some (n + 1)) (children_among (n + 2) first (n + 1)) (first_content forest n _ _ has) (rw t (none, sym own)),
      inner parts.inner,
      outer parts.outer,
    )

-- where the nodes of trees are those of a forest, the ones at the top stand for the trees
represents-rows : (forest : Forest) (p n : ℕ) (trees : ValueTrees) → p < n → HasRows forest n (rows_from p n trees) → Represents forest (children_among n (rows_from p n trees) p) trees
represents-rows forest p n no_trees below has = refl
represents-rows forest p n (text_node contents later) below has = (
  n,
  children_among (n + 1) (rows_from p (n + 1) later) p,
  first_among p n (Text contents) (rows_from p (n + 1) later),
  first_content forest n _ _ has,
  represents-rows forest p (n + 1) later (omega arith) (rows_after forest p n _ _ below has),
)
represents-rows forest p n (comment_node contents later) below has = (
  n,
  children_among (n + 1) (rows_from p (n + 1) later) p,
  first_among p n (Comment contents) (rows_from p (n + 1) later),
  first_content forest n _ _ has,
  represents-rows forest p (n + 1) later (omega arith) (rows_after forest p n _ _ below has),
)
represents-rows forest p n (doctype_node name public system later) below has = (
  n,
  children_among (n + 1) (rows_from p (n + 1) later) p,
  first_among p n (Doctype name public system) (rows_from p (n + 1) later),
  first_content forest n _ _ has,
  represents-rows forest p (n + 1) later (omega arith) (rows_after forest p n _ _ below has),
)
represents-rows forest p n (element_node name attributes children later) below has =
    by_name (is_template name) refl (represents-rows forest (n + 1) (n + 2) children (omega arith)) (represents-rows forest p (n + 2 + size children) later (omega arith))
    (represents-rows forest n (n + 1) children (omega arith)) (represents-rows forest p (n + 1 + size children) later (omega arith))
  where
    by_name : (t : Bool) → is_template name ≡ t →
        (HasRows forest (n + 2) (rows_from (n + 1) (n + 2) children) → Represents forest (children_among (n + 2) (rows_from (n + 1) (n + 2) children) (n + 1)) children) →
        (HasRows forest (n + 2 + size children) (rows_from p (n + 2 + size children) later) → Represents forest (children_among (n + 2 + size children) (rows_from p (n + 2 + size children) later) p) later) →
        (HasRows forest (n + 1) (rows_from n (n + 1) children) → Represents forest (children_among (n + 1) (rows_from n (n + 1) children) n) children) →
        (HasRows forest (n + 1 + size children) (rows_from p (n + 1 + size children) later) → Represents forest (children_among (n + 1 + size children) (rows_from p (n + 1 + size children) later) p) later) →
        Represents forest (children_among n (rows_from p n (element_node name attributes children later)) p) (element_node name attributes children later)
    by_name true t a b c d = rw t (template_represents forest p n name attributes children later below t (rw t at has) a b)
    by_name false t a b c d = rw t (element_represents forest p n name attributes children later below t (rw t at has) c d)

-- ---- the document

pub children-map_from : (g : ℕ → List ℕ) (i k : ℕ) (rows : List Row) → k < length rows → get_or (map_from i (λ p row. g p) rows) k [] ≡ g (i + k)
children-map_from g i k [] h = absurd (omega arith)
children-map_from g i zero (row ∷ rows) h = ap g (sym (add-zero i))
children-map_from g i (suc k) (row ∷ rows) h = children-map_from g (i + 1) k rows (omega arith) ∙ ap g (omega arith)

pub document_rows : (trees : ValueTrees) → HasRows (document_of trees) 0 (rows_of trees)
unfolding document_of
document_rows trees = record {
  content = λ k h. (let plain : 0 + k ≡ k = omega arith in ap (slice_get (contents_in (rows_of trees))) plain);
  children = λ q low high. children-map_from (λ p. children_among 0 (rows_of trees) p) 0 q (rows_of trees) (omega (arith, high)) ∙ (let plain : 0 + q ≡ q = omega arith in ap (λ p. children_among 0 (rows_of trees) p) plain);
}

pub document-root : (trees : ValueTrees) → slice_get (document_of trees).content 0 ≡ Some Document
unfolding document_of
document-root trees = refl

-- the nodes below the root stand for the trees
pub document-represents : (trees : ValueTrees) → Represents (document_of trees) (children_of (document_of trees) 0) trees
document-represents trees =
    let forest = document_of trees in
    let root : Row = record { parent = None; content = Document } in
    let has = document_rows trees in
    let after : HasRows forest 1 (rows_from 0 1 trees) = rows_back forest 0 1 (root ∷ []) (rows_from 0 1 trees) refl has (λ q low. refl) in
    let children : children_of forest 0 ≡ children_among 1 (rows_from 0 1 trees) 0 = has.children 0 (omega arith) (omega arith) in
    subst (λ (ns : List ℕ). Represents forest ns trees) (sym children) (represents-rows forest 0 1 trees (omega arith) after)
