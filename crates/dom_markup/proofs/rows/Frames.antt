-- How a tag or a text changes what has been read.
use Rattle.std.proofs.Common.{◌≡◌, ◌≢◌, ◌<◌, ◌≤◌, ◌+◌, ◌-◌, ◌&&◌, ℕ, map, suc, List, [], ◌∷◌, ◌++◌, length, add-zero, length-append, append-nil, Bool, true, false, inl, inr, refl, sym, ap, ◌∙◌, subst, arith, append_assoc}
use Rattle.std.proofs.lemmas.Bool.{true≢false, cases_Bool}
use Rattle.std.proofs.lemmas.List.{length-map}
use Rattle.std.specs.Prelude.{slice_get, Option, Some, None, codes, if◌then◌else◌}
use Rattle.std.specs.Option.{option_map_or}
use Rattle.std.specs.Str.{bytes_eq}
use Rattle.std.proofs.lemmas.Slice.Eq.{bytes_eq-Decides}
use Rattle.dom_nodes.specs.Words.{is_among}
use Rattle.dom_markup.specs.Names.{is_template, void_names}
use Rattle.dom_markup.specs.ValueTrees.{Attribute, ValueTrees}
use Rattle.dom_markup.specs.ValueTrees.ValueTrees.{no_trees, text_node, comment_node, doctype_node, element_node}
use Rattle.dom_markup.specs.Markup.{Item, AreInPlace, items_of}
use Rattle.dom_markup.specs.Markup.Item.{start_tag, end_tag, characters, comment, doctype}
use Rattle.dom_nodes.specs.Kinds.{children_allowed}
use Rattle.dom_nodes.specs.declared.node_data.NodeData.{NodeData}
use Rattle.dom_nodes.specs.declared.node_data.NodeData.TheVariants.{Document, Fragment, Doctype, Comment, Text}
use Rattle.dom_links.specs.Forest.{Forest}
use Rattle.dom_links.specs.Growth.{lone, with_node, with_child, with_template}
use Rattle.dom_links.specs.Sound.{children_allowed_at}
use Rattle.dom_markup.specs.Numbered.{Row, read_element, rows_of, rows_from, size, forest_of_rows, document_of}
use Rattle.dom_markup.specs.Refusals.{nodes_begun, LeavesOpen, LeavesSomeOpen, EndsAnother, EndsNothing, IsInside}
use Rattle.dom_markup.proofs.rows.NumberedLemmas.{child_row, lone_row, IsSmaller, ParentsBelow, forest_of_rows-child, forest_of_rows-lone}
use Rattle.dom_markup.specs.Frames.{Frame, ◌then◌, opened_items, closed, opened_size, Opened, opened, HasRead, FramesInPlace, is_top, with_element, children_place}
use Rattle.dom_markup.proofs.grammar.Nesting.{nests, is_none, nests-items_of, nests-element, void_items, element_items, bytes_eq-differs}

items_of-then : (a b : ValueTrees) → items_of (a then b) ≡ items_of a ++ items_of b
items_of-then no_trees b = refl
items_of-then (text_node c t) b = ap (λ (x : List Item). characters c ∷ x) (items_of-then t b)
items_of-then (comment_node c t) b = ap (λ (x : List Item). comment c ∷ x) (items_of-then t b)
items_of-then (doctype_node n p s t) b = ap (λ (x : List Item). doctype n p s ∷ x) (items_of-then t b)
items_of-then (element_node n s k t) b = elim (cases_Bool (is_among n void_names)) [
  | inl v ↦ void_items n s k (t then b) v ∙ ap (λ (x : List Item). start_tag n s ∷ x) (items_of-then t b) ∙ ap (λ (x : List Item). x ++ items_of b) (sym (void_items n s k t v))
  | inr v ↦ element_items n s k (t then b) v
      ∙ ap (λ (x : List Item). start_tag n s ∷ (items_of k ++ end_tag n ∷ x)) (items_of-then t b)
      ∙ ap (λ (x : List Item). start_tag n s ∷ x) (sym (append_assoc (items_of k) (end_tag n ∷ items_of t) (items_of b)))
      ∙ ap (λ (x : List Item). x ++ items_of b) (sym (element_items n s k t v))
]

in_place-then : (top : Bool) (a b : ValueTrees) → AreInPlace top a → AreInPlace top b → AreInPlace top (a then b)
in_place-then top no_trees b h k = k
in_place-then top (text_node c t) b h k = in_place-then top t b h k
in_place-then top (comment_node c t) b h k = in_place-then top t b h k
in_place-then top (doctype_node n p s t) b h k = (h.0, in_place-then top t b h.1 k)
in_place-then top (element_node n s children t) b h k = (h.0, h.1, in_place-then top t b h.2 k)

-- ---- rows

-- how many nodes a start tag begins
abbrev start_size : List ℕ → ℕ
start_size name = if is_template name then 2 else 1

-- the number of the node below which the children stand of an element whose number is n
abbrev place_below : ℕ → List ℕ → ℕ
place_below n name = if is_template name then n + 1 else n

abbrev start_rows : ℕ → ℕ → List ℕ → List Attribute → List Row
start_rows p n name attributes =
    if is_template name then child_row p (read_element name attributes (Some (n + 1))) ∷ (lone_row Fragment ∷ [])
    else child_row p (read_element name attributes None) ∷ []

length-start_rows : (p n : ℕ) (m : List ℕ) (s : List Attribute) → length (start_rows p n m s) ≡ start_size m
length-start_rows p n m s = elim (cases_Bool (is_template m)) [ inl t ↦ rw t refl | inr f ↦ rw f refl ]

start_size-some : (m : List ℕ) → 1 ≤ start_size m
start_size-some m = elim (cases_Bool (is_template m)) [ inl t ↦ rw t (omega arith) | inr f ↦ rw f (omega arith) ]

place_below-is : (n : ℕ) (m : List ℕ) → place_below n m + 1 ≡ n + start_size m
place_below-is n m = elim (cases_Bool (is_template m)) [ inl t ↦ rw t (omega arith) | inr f ↦ rw f refl ]

rows_element : (p n : ℕ) (m : List ℕ) (s : List Attribute) (k t : ValueTrees) →
    rows_from p n (element_node m s k t) ≡ start_rows p n m s ++ (rows_from (place_below n m) (n + start_size m) k ++ rows_from p (n + start_size m + size k) t)
rows_element p n m s k t = elim (cases_Bool (is_template m)) [ inl e ↦ rw e refl | inr e ↦ rw e refl ]

rows_from-then : (p n : ℕ) (a b : ValueTrees) → rows_from p n (a then b) ≡ rows_from p n a ++ rows_from p (n + size a) b
rows_from-then p n no_trees b = rw add-zero refl
rows_from-then p n (text_node c t) b =
    let sum : (n + 1) + size t ≡ n + (1 + size t) = omega arith in
    ap (λ (x : List Row). child_row p (Text c) ∷ x) (rows_from-then p (n + 1) t b ∙ ap (λ (m : ℕ). rows_from p (n + 1) t ++ rows_from p m b) sum)
rows_from-then p n (comment_node c t) b =
    let sum : (n + 1) + size t ≡ n + (1 + size t) = omega arith in
    ap (λ (x : List Row). child_row p (Comment c) ∷ x) (rows_from-then p (n + 1) t b ∙ ap (λ (m : ℕ). rows_from p (n + 1) t ++ rows_from p m b) sum)
rows_from-then p n (doctype_node d q s t) b =
    let sum : (n + 1) + size t ≡ n + (1 + size t) = omega arith in
    ap (λ (x : List Row). child_row p (Doctype d q s) ∷ x) (rows_from-then p (n + 1) t b ∙ ap (λ (m : ℕ). rows_from p (n + 1) t ++ rows_from p m b) sum)
rows_from-then p n (element_node m s k t) b =
    let first = start_rows p n m s in
    let inner = rows_from (place_below n m) (n + start_size m) k in
    let after = rows_from p (n + start_size m + size k) t in
    let sum : (n + start_size m + size k) + size t ≡ n + (start_size m + size k + size t) = omega arith in
    rows_element p n m s k (t then b)
    ∙ ap (λ (x : List Row). first ++ (inner ++ x)) (rows_from-then p (n + start_size m + size k) t b ∙ ap (λ (i : ℕ). after ++ rows_from p i b) sum)
    ∙ ap (λ (x : List Row). first ++ x) (sym (append_assoc inner after _))
    ∙ sym (append_assoc first (inner ++ after) _)
    ∙ ap (λ (x : List Row). x ++ rows_from p (n + (start_size m + size k + size t)) b) (sym (rows_element p n m s k t))

length-rows_from : (p n : ℕ) (a : ValueTrees) → length (rows_from p n a) ≡ size a
length-rows_from p n no_trees = refl
length-rows_from p n (text_node c t) = omega (arith, length-rows_from p (n + 1) t)
length-rows_from p n (comment_node c t) = omega (arith, length-rows_from p (n + 1) t)
length-rows_from p n (doctype_node d q s t) = omega (arith, length-rows_from p (n + 1) t)
length-rows_from p n (element_node m s k t) =
    let first = start_rows p n m s in
    let inner = rows_from (place_below n m) (n + start_size m) k in
    let after = rows_from p (n + start_size m + size k) t in
    ap length (rows_element p n m s k t)
    ∙ (omega (arith, length-append first (inner ++ after), length-append inner after, length-start_rows p n m s, length-rows_from (place_below n m) (n + start_size m) k, length-rows_from p (n + start_size m + size k) t))

-- the document, and the nodes up to and with the innermost open element
abbrev open_rows : List Frame → List Row
open_rows [] = record { parent = None; content = Document } ∷ []
open_rows (f ∷ fs) =
    open_rows fs ++ (rows_from (opened_size fs) (opened_size fs + 1) f.before ++ start_rows (opened_size fs) (opened_size fs + 1 + size f.before) f.name f.attributes)

length-open_rows : (fs : List Frame) → length (open_rows fs) ≡ opened_size fs + 1
length-open_rows [] = refl
length-open_rows (f ∷ fs) =
    let inner = rows_from (opened_size fs) (opened_size fs + 1) f.before in
    let last : List Row = start_rows (opened_size fs) (opened_size fs + 1 + size f.before) f.name f.attributes in
    omega (arith, length-append (open_rows fs) (inner ++ last), length-append inner last, length-open_rows fs, length-rows_from (opened_size fs) (opened_size fs + 1) f.before, length-start_rows (opened_size fs) (opened_size fs + 1 + size f.before) f.name f.attributes)

rows_of-closed : (fs : List Frame) (done : ValueTrees) → rows_of (closed fs done) ≡ open_rows fs ++ rows_from (opened_size fs) (opened_size fs + 1) done
rows_of-closed [] done = refl
rows_of-closed (f ∷ fs) done =
    let p = opened_size fs in
    let n = p + 1 + size f.before in
    let one : ValueTrees = element_node f.name f.attributes done no_trees in
    let inner = rows_from p (p + 1) f.before in
    let first = start_rows p n f.name f.attributes in
    let below = place_below-is n f.name in
    let number : place_below n f.name ≡ opened_size (f ∷ fs) = omega arith in
    let next : n + start_size f.name ≡ opened_size (f ∷ fs) + 1 = omega arith in
    rows_of-closed fs (f.before then one)
    ∙ ap (λ (x : List Row). open_rows fs ++ x) (rows_from-then p (p + 1) f.before one)
    ∙ ap (λ (x : List Row). open_rows fs ++ (inner ++ x)) (rows_element p n f.name f.attributes done no_trees)
    ∙ ap (λ (x : List Row). open_rows fs ++ (inner ++ (first ++ x))) (append-nil (rows_from (place_below n f.name) (n + start_size f.name) done))
    ∙ ap (λ (i : ℕ). open_rows fs ++ (inner ++ (first ++ rows_from i (n + start_size f.name) done))) number
    ∙ ap (λ (i : ℕ). open_rows fs ++ (inner ++ (first ++ rows_from (opened_size (f ∷ fs)) i done))) next
    ∙ ap (λ (x : List Row). open_rows fs ++ x) (sym (append_assoc inner first _))
    ∙ sym (append_assoc (open_rows fs) (inner ++ first) _)

nonempty : (stack : List Opened) (last : Opened) → stack ++ last ∷ [] ≡ [] → ⊥
nonempty [] last e = cc
nonempty (o ∷ os) last e = cc

pub last_same : (xs ys : List Opened) (x y : Opened) → xs ++ x ∷ [] ≡ ys ++ y ∷ [] → (xs ≡ ys) × (x ≡ y)
last_same [] [] x y e = (refl, cc)
last_same [] (b ∷ ys) x y e =
    let rest : ys ++ y ∷ [] ≡ [] = cc in
    absurd (nonempty ys y rest)
last_same (a ∷ xs) [] x y e =
    let rest : xs ++ x ∷ [] ≡ [] = cc in
    absurd (nonempty xs x rest)
last_same (a ∷ xs) (b ∷ ys) x y e =
    let rest : xs ++ x ∷ [] ≡ ys ++ y ∷ [] = cc in
    let more = last_same xs ys x y rest in
    (cc (more.0), more.1)

-- ---- the forest so far

below-append : (n : ℕ) (xs ys : List Row) → ParentsBelow n xs → ParentsBelow n ys → ParentsBelow n (xs ++ ys)
below-append n [] ys h k = k
below-append n (x ∷ xs) ys h k = (h.0, below-append n xs ys h.1 k)

start_below : (limit p n : ℕ) (m : List ℕ) (s : List Attribute) → p < limit → ParentsBelow limit (start_rows p n m s)
start_below limit p n m s h = elim (cases_Bool (is_template m)) [ inl t ↦ rw t (h, (tt, tt)) | inr f ↦ rw f (h, tt) ]

rows_from-below : (limit p n : ℕ) (a : ValueTrees) → p < limit → n + size a ≤ limit → ParentsBelow limit (rows_from p n a)
rows_from-below limit p n no_trees h k = tt
rows_from-below limit p n (text_node c t) h k = (h, rows_from-below limit p (n + 1) t h (omega arith))
rows_from-below limit p n (comment_node c t) h k = (h, rows_from-below limit p (n + 1) t h (omega arith))
rows_from-below limit p n (doctype_node d q s t) h k = (h, rows_from-below limit p (n + 1) t h (omega arith))
rows_from-below limit p n (element_node m s a t) h k =
    let below = place_below-is n m in
    let some = start_size-some m in
    subst (ParentsBelow limit) (sym (rows_element p n m s a t))
    (below-append limit (start_rows p n m s) _ (start_below limit p n m s h)
    (below-append limit (rows_from (place_below n m) (n + start_size m) a) (rows_from p (n + start_size m + size a) t) (rows_from-below limit (place_below n m) (n + start_size m) a (omega arith) (omega arith)) (rows_from-below limit p (n + start_size m + size a) t h (omega arith))))

length-rows_of : (a : ValueTrees) → length (rows_of a) ≡ size a + 1
length-rows_of a = omega (arith, length-rows_from 0 1 a)

rows_of-below : (a : ValueTrees) → ParentsBelow (length (rows_of a)) (rows_of a)
rows_of-below a =
    let below : ParentsBelow (size a + 1) (rows_of a) = (tt, rows_from-below (size a + 1) 0 1 a (omega arith) (omega arith)) in
    subst (λ (n : ℕ). ParentsBelow n (rows_of a)) (sym (length-rows_of a)) below

length-document_of : (a : ValueTrees) → length (document_of a).content ≡ size a + 1
unfolding document_of
length-document_of a = length-map (rows_of a) (λ (r : Row). r.content) ∙ length-rows_of a

-- one row more is one child more
document_of-child : (a b : ValueTrees) (p : ℕ) (content : NodeData) → rows_of b ≡ rows_of a ++ child_row p content ∷ [] → document_of b ≡ with_child p content (document_of a)
unfolding document_of
document_of-child a b p content e = ap forest_of_rows e ∙ forest_of_rows-child p content (rows_of a) (rows_of-below a)

below-more : (n : ℕ) (rows : List Row) → ParentsBelow n rows → ParentsBelow (n + 1) rows
below-more n [] h = tt
below-more n (row ∷ rows) h = (smaller row.parent h.0, below-more n rows h.1)
  where
    smaller : (parent : Option ℕ) → IsSmaller n parent → IsSmaller (n + 1) parent
    smaller None l = tt
    smaller (Some p) l = omega arith

-- two rows more, one of which is a child, are a template more
document_of-template : (a b : ValueTrees) (p : ℕ) (content : NodeData) → p < length (rows_of a) → rows_of b ≡ rows_of a ++ (child_row p content ∷ (lone_row Fragment ∷ [])) → document_of b ≡ with_template p content (document_of a)
unfolding document_of
document_of-template a b p content h e =
    let rows = rows_of a in
    let more : List Row = rows ++ child_row p content ∷ [] in
    let long : length more ≡ length rows + 1 = length-append rows (child_row p content ∷ []) in
    let below : ParentsBelow (length rows + 1) more = below-append (length rows + 1) rows (child_row p content ∷ []) (below-more (length rows) rows (rows_of-below a)) (omega arith, tt) in
    ap forest_of_rows (e ∙ sym (append_assoc rows (child_row p content ∷ []) (lone_row Fragment ∷ [])))
    ∙ forest_of_rows-lone Fragment more (subst (λ (n : ℕ). ParentsBelow n more) (sym long) below)
    ∙ ap (with_node Fragment) (forest_of_rows-child p content rows (rows_of-below a))

pub document_of-none : document_of no_trees ≡ lone Document
unfolding document_of
document_of-none = refl

size-closed : (fs : List Frame) (done : ValueTrees) → size (closed fs done) ≡ opened_size fs + size done
size-closed fs done =
    omega (arith, length-rows_of (closed fs done), ap length (rows_of-closed fs done), length-append (open_rows fs) (rows_from (opened_size fs) (opened_size fs + 1) done), length-open_rows fs, length-rows_from (opened_size fs) (opened_size fs + 1) done)

pub nodes_begun-append : (xs ys : List Item) → nodes_begun (xs ++ ys) ≡ nodes_begun xs + nodes_begun ys
nodes_begun-append [] ys = omega arith
nodes_begun-append (start_tag n a ∷ xs) ys = omega (arith, nodes_begun-append xs ys)
nodes_begun-append (end_tag n ∷ xs) ys = nodes_begun-append xs ys
nodes_begun-append (characters c ∷ xs) ys = omega (arith, nodes_begun-append xs ys)
nodes_begun-append (comment c ∷ xs) ys = omega (arith, nodes_begun-append xs ys)
nodes_begun-append (doctype n p s ∷ xs) ys = omega (arith, nodes_begun-append xs ys)

nodes_begun-items_of : (top : Bool) (a : ValueTrees) → AreInPlace top a → nodes_begun (items_of a) ≡ size a
nodes_begun-items_of top no_trees h = refl
nodes_begun-items_of top (text_node c t) h = omega (arith, nodes_begun-items_of top t h)
nodes_begun-items_of top (comment_node c t) h = omega (arith, nodes_begun-items_of top t h)
nodes_begun-items_of top (doctype_node n p s t) h = omega (arith, nodes_begun-items_of top t h.1)
nodes_begun-items_of top (element_node n s k t) h = elim (cases_Bool (is_among n void_names)) [
  | inl v ↦ omega (arith, ap nodes_begun (void_items n s k t v), ap size (h.0 v), nodes_begun-items_of top t h.2)
  | inr v ↦ omega (arith, ap nodes_begun (element_items n s k t v), nodes_begun-append (items_of k) (end_tag n ∷ items_of t), nodes_begun-items_of false k h.1, nodes_begun-items_of top t h.2)
]

nodes_begun-opened : (fs : List Frame) → FramesInPlace fs → nodes_begun (opened_items fs) ≡ opened_size fs
nodes_begun-opened [] h = refl
nodes_begun-opened (f ∷ fs) h =
    let start : Item = start_tag f.name f.attributes in
    omega (arith, nodes_begun-append (opened_items fs) (items_of f.before ++ start ∷ []), nodes_begun-append (items_of f.before) (start ∷ []), nodes_begun-opened fs h.2, nodes_begun-items_of (is_top fs) f.before h.0)

-- the nodes are a root and those that begin with the items
pub nodes_read : (items : List Item) (forest : Forest) (stack : List Opened) → HasRead items forest stack → length forest.content ≡ nodes_begun items + 1
nodes_read items forest stack h =
    omega (
      arith,
      ap (λ (f : Forest). length f.content) h.forest_is,
      length-document_of (closed h.frames h.done),
      size-closed h.frames h.done,
      ap nodes_begun h.items_are,
      nodes_begun-append (opened_items h.frames) (items_of h.done),
      nodes_begun-opened h.frames h.open_in_place,
      nodes_begun-items_of (is_top h.frames) h.done h.in_place,
    )

-- the row of the innermost element, or of the document
pub record Innermost (fs : List Frame) : Type 0 where
  pub front : List Row
  pub row : Row
  pub is : open_rows fs ≡ front ++ row ∷ []
  pub place : length front ≡ opened_size fs
  pub parents_allow : children_allowed row.content ≡ true

innermost : (fs : List Frame) → Innermost fs
innermost [] = record { front = []; row = record { parent = None; content = Document }; is = refl; place = refl; parents_allow = refl }
innermost (f ∷ fs) =
    let p = opened_size fs in
    let n = p + 1 + size f.before in
    let inner = rows_from p (p + 1) f.before in
    let long = length-append (open_rows fs) inner in
    let outer = length-open_rows fs in
    let within = length-rows_from p (p + 1) f.before in
    elim (cases_Bool (is_template f.name)) [
      | inl t ↦
          (let first : Row = child_row p (read_element f.name f.attributes (Some (n + 1))) in
          let rows : start_rows p n f.name f.attributes ≡ first ∷ (lone_row Fragment ∷ []) = rw t refl in
          let two : start_size f.name ≡ 2 = rw t refl in
          record {
            front = (open_rows fs ++ inner) ++ first ∷ [];
            row = lone_row Fragment;
            is = ap (λ (x : List Row). open_rows fs ++ (inner ++ x)) rows ∙ sym (append_assoc (open_rows fs) inner _) ∙ sym (append_assoc (open_rows fs ++ inner) (first ∷ []) (lone_row Fragment ∷ []));
            place = omega (arith, length-append (open_rows fs ++ inner) (first ∷ []), long, outer, within, two);
            parents_allow = refl;
          })
      | inr e ↦
          (let first : Row = child_row p (read_element f.name f.attributes None) in
          let rows : start_rows p n f.name f.attributes ≡ first ∷ [] = rw e refl in
          let one : start_size f.name ≡ 1 = rw e refl in
          record {
            front = open_rows fs ++ inner;
            row = first;
            is = ap (λ (x : List Row). open_rows fs ++ (inner ++ x)) rows ∙ sym (append_assoc (open_rows fs) inner _);
            place = omega (arith, long, outer, within, one);
            parents_allow = refl;
          })
    ]

children_allowed_at-there : (front : List Row) (row : Row) (more : List Row) → children_allowed row.content ≡ true → option_map_or children_allowed (slice_get (map (λ (r : Row). r.content) (front ++ row ∷ more)) (length front)) false ≡ true
children_allowed_at-there [] row more h = h
children_allowed_at-there (r ∷ front) row more h = children_allowed_at-there front row more h

children_allowed_at-innermost : (fs : List Frame) (done : ValueTrees) → children_allowed_at (document_of (closed fs done)) (opened_size fs) ≡ true
unfolding document_of
children_allowed_at-innermost fs done =
    let i = innermost fs in
    let rows : rows_of (closed fs done) ≡ i.front ++ i.row ∷ rows_from (opened_size fs) (opened_size fs + 1) done =
    rows_of-closed fs done ∙ ap (λ (x : List Row). x ++ rows_from (opened_size fs) (opened_size fs + 1) done) i.is ∙ append_assoc i.front (i.row ∷ []) _ in
    ap (λ (x : List Row). option_map_or children_allowed (slice_get (map (λ (r : Row). r.content) x) (opened_size fs)) false) rows
    ∙ ap (λ (n : ℕ). option_map_or children_allowed (slice_get (map (λ (r : Row). r.content) (i.front ++ i.row ∷ rows_from (opened_size fs) (opened_size fs + 1) done)) n) false) (sym i.place)
    ∙ children_allowed_at-there i.front i.row _ i.parents_allow

-- the innermost element is known, and may have children
pub parent_known : (items : List Item) (forest : Forest) (stack : List Opened) (h : HasRead items forest stack) → opened_size h.frames < length forest.content
parent_known items forest stack h =
    omega (arith, ap (λ (f : Forest). length f.content) h.forest_is, length-document_of (closed h.frames h.done), size-closed h.frames h.done)

pub parent_bears : (items : List Item) (forest : Forest) (stack : List Opened) (h : HasRead items forest stack) → children_allowed_at forest (opened_size h.frames) ≡ true
parent_bears items forest stack h = ap (λ (f : Forest). children_allowed_at f (opened_size h.frames)) h.forest_is ∙ children_allowed_at-innermost h.frames h.done

-- ---- steps

-- an item that is a tree by itself
pub record IsLeaf (item : Item) (content : NodeData) (top : Bool) : Type 0 where
  pub one : ValueTrees
  pub items : items_of one ≡ item ∷ []
  pub rows : (p n : ℕ) → rows_from p n one ≡ child_row p content ∷ []
  pub in_place : AreInPlace top one

pub reads_leaf : (items : List Item) (forest : Forest) (stack : List Opened) (item : Item) (content : NodeData) (h : HasRead items forest stack) → IsLeaf item content (is_top h.frames) →
    HasRead (items ++ item ∷ []) (with_child (opened_size h.frames) content forest) stack
reads_leaf items forest stack item content h leaf =
    let p = opened_size h.frames in
    let one = leaf.one in
    let rows : rows_of (closed h.frames (h.done then one)) ≡ rows_of (closed h.frames h.done) ++ child_row p content ∷ [] =
    rows_of-closed h.frames (h.done then one)
    ∙ ap (λ (x : List Row). open_rows h.frames ++ x) (rows_from-then p (p + 1) h.done one ∙ ap (λ (x : List Row). rows_from p (p + 1) h.done ++ x) (leaf.rows p (p + 1 + size h.done)))
    ∙ sym (append_assoc (open_rows h.frames) _ _)
    ∙ ap (λ (x : List Row). x ++ child_row p content ∷ []) (sym (rows_of-closed h.frames h.done)) in
    record {
      frames = h.frames;
      done = h.done then one;
      items_are = ap (λ (x : List Item). x ++ item ∷ []) h.items_are ∙ append_assoc (opened_items h.frames) (items_of h.done) (item ∷ [])
          ∙ ap (λ (x : List Item). opened_items h.frames ++ x) (ap (λ (x : List Item). items_of h.done ++ x) (sym leaf.items) ∙ sym (items_of-then h.done one));
      forest_is = ap (λ (f : Forest). with_child p content f) h.forest_is
          ∙ sym (document_of-child (closed h.frames h.done) (closed h.frames (h.done then one)) p content rows);
      stack_is = h.stack_is;
      open_in_place = h.open_in_place;
      in_place = in_place-then (is_top h.frames) h.done one h.in_place leaf.in_place;
    }

pub text_leaf : (top : Bool) (c : List ℕ) → IsLeaf (characters c) (Text c) top
text_leaf top c = record { one = text_node c no_trees; items = refl; rows = λ p n. refl; in_place = tt }

pub comment_leaf : (top : Bool) (c : List ℕ) → IsLeaf (comment c) (Comment c) top
comment_leaf top c = record { one = comment_node c no_trees; items = refl; rows = λ p n. refl; in_place = tt }

pub doctype_leaf : (top : Bool) (n p s : List ℕ) → top ≡ true → IsLeaf (doctype n p s) (Doctype n p s) top
doctype_leaf top n p s h = record { one = doctype_node n p s no_trees; items = refl; rows = λ p n. refl; in_place = (h, tt) }

no_void : is_among (codes "template") void_names ≡ false
unfolding void_names
no_void = refl

-- a void element is no template
pub void_plain : (n : List ℕ) → is_among n void_names ≡ true → is_template n ≡ false
void_plain n v = elim (cases_Bool (is_template n)) [
  | inl t ↦ (let same : codes "template" ≡ n = (bytes_eq-Decides (codes "template") n).0 t in absurd (true≢false (sym v ∙ ap (λ (m : List ℕ). is_among m void_names) (sym same) ∙ no_void)))
  | inr f ↦ f
]

pub void_leaf : (top : Bool) (n : List ℕ) (a : List Attribute) → is_among n void_names ≡ true → IsLeaf (start_tag n a) (read_element n a None) top
void_leaf top n a v = record { one = element_node n a no_trees no_trees; items = void_items n a no_trees no_trees v; rows = λ p m. rw (void_plain n v) refl; in_place = (λ w. refl, tt, tt) }

-- a doctype stands at the top where no element is open
pub top_where_none : (frames : List Frame) → [] ≡ opened frames → is_top frames ≡ true
top_where_none [] e = refl
top_where_none (f ∷ fs) e = absurd (nonempty (opened fs) _ (sym e))

-- a start tag
pub reads_start : (items : List Item) (forest : Forest) (stack : List Opened) (n : List ℕ) (a : List Attribute) (h : HasRead items forest stack) → is_among n void_names ≡ false →
    HasRead (items ++ start_tag n a ∷ []) (with_element (opened_size h.frames) n a forest) (stack ++ record { number = children_place n forest; name = n } ∷ [])
reads_start items forest stack n a h v =
    let p = opened_size h.frames in
    let f : Frame = record { before = h.done; name = n; attributes = a } in
    let count : length forest.content ≡ p + 1 + size h.done =
    omega (arith, ap (λ (g : Forest). length g.content) h.forest_is, length-document_of (closed h.frames h.done), size-closed h.frames h.done) in
    let all : length (rows_of (closed h.frames h.done)) ≡ p + 1 + size h.done = omega (arith, length-rows_of (closed h.frames h.done), size-closed h.frames h.done) in
    let rows : rows_of (closed (f ∷ h.frames) no_trees) ≡ rows_of (closed h.frames h.done) ++ start_rows p (p + 1 + size h.done) n a =
    rows_of-closed (f ∷ h.frames) no_trees
    ∙ append-nil (open_rows (f ∷ h.frames))
    ∙ sym (append_assoc (open_rows h.frames) _ _)
    ∙ ap (λ (x : List Row). x ++ start_rows p (p + 1 + size h.done) n a) (sym (rows_of-closed h.frames h.done)) in
    let place : children_place n forest ≡ opened_size (f ∷ h.frames) = elim (cases_Bool (is_template n)) [
      | inl t ↦ rw t (omega (arith, count))
      | inr e ↦ rw e (omega (arith, count))
    ] in
    let made : document_of (closed (f ∷ h.frames) no_trees) ≡ with_element p n a forest = elim (cases_Bool (is_template n)) [
      | inl t ↦
          (let shown : start_rows p (p + 1 + size h.done) n a ≡ child_row p (read_element n a (Some (p + 1 + size h.done + 1))) ∷ (lone_row Fragment ∷ []) = rw t refl in
          let grown : with_element p n a forest ≡ with_template p (read_element n a (Some (length forest.content + 1))) forest = rw t refl in
          document_of-template (closed h.frames h.done) (closed (f ∷ h.frames) no_trees) p (read_element n a (Some (p + 1 + size h.done + 1))) (omega (arith, all)) (rows ∙ ap (λ (x : List Row). rows_of (closed h.frames h.done) ++ x) shown)
          ∙ ap (λ (i : ℕ). with_template p (read_element n a (Some (i + 1))) (document_of (closed h.frames h.done))) (sym count)
          ∙ ap (λ (g : Forest). with_template p (read_element n a (Some (length forest.content + 1))) g) (sym h.forest_is) ∙ sym grown)
      | inr e ↦
          (let shown : start_rows p (p + 1 + size h.done) n a ≡ child_row p (read_element n a None) ∷ [] = rw e refl in
          let grown : with_element p n a forest ≡ with_child p (read_element n a None) forest = rw e refl in
          document_of-child (closed h.frames h.done) (closed (f ∷ h.frames) no_trees) p (read_element n a None) (rows ∙ ap (λ (x : List Row). rows_of (closed h.frames h.done) ++ x) shown)
          ∙ ap (λ (g : Forest). with_child p (read_element n a None) g) (sym h.forest_is) ∙ sym grown)
    ] in
    record {
      frames = f ∷ h.frames;
      done = no_trees;
      items_are = rw h.items_are (simp (append_assoc, append-nil));
      forest_is = sym made;
      stack_is = ap (λ (x : List Opened). x ++ record { number = children_place n forest; name = n } ∷ []) h.stack_is ∙ ap (λ (i : ℕ). opened h.frames ++ record { number = i; name = n } ∷ []) place;
      open_in_place = (h.in_place, v, h.open_in_place);
      in_place = tt;
    }

-- the end tag of the innermost open element
pub reads_end : (items : List Item) (forest : Forest) (stack : List Opened) (last : Opened) → HasRead items forest (stack ++ last ∷ []) → HasRead (items ++ end_tag last.name ∷ []) forest stack
reads_end items forest stack last h = go h.frames h.done h.items_are h.forest_is h.stack_is h.open_in_place h.in_place
  where
    go : (fs : List Frame) (done : ValueTrees) → items ≡ opened_items fs ++ items_of done → forest ≡ document_of (closed fs done) → stack ++ last ∷ [] ≡ opened fs → FramesInPlace fs → AreInPlace (is_top fs) done → HasRead (items ++ end_tag last.name ∷ []) forest stack
    go [] done i n s a b = absurd (nonempty stack last s)
    go (f ∷ fs) done i n s a b =
        let ends = last_same stack (opened fs) last _ s in
        let name : last.name ≡ f.name = ap (λ (o : Opened). o.name) ends.1 in
        let one : ValueTrees = element_node f.name f.attributes done no_trees in
        let inside : items_of one ≡ start_tag f.name f.attributes ∷ (items_of done ++ end_tag f.name ∷ []) = element_items f.name f.attributes done no_trees a.1 in
        record {
          frames = fs;
          done = f.before then one;
          items_are = rw (i, name, items_of-then f.before one, inside) (simp append_assoc);
          forest_is = n;
          stack_is = ends.0;
          open_in_place = a.2;
          in_place = in_place-then (is_top fs) f.before one a.0 (λ v. absurd (true≢false (sym v ∙ a.1)), b, tt);
        }

-- the names of the open elements, the innermost first
abbrev pub names : List Frame → List (List ℕ)
names [] = []
names (f ∷ fs) = f.name ∷ names fs

none_named : (fs : List Frame) → is_none (names fs) ≡ is_top fs
none_named [] = refl
none_named (f ∷ fs) = refl

pub nests-opened : (fs : List Frame) (items : List Item) → FramesInPlace fs → nests [] (opened_items fs ++ items) ≡ nests (names fs) items
nests-opened [] items h = refl
nests-opened (f ∷ fs) items h =
    ap (nests []) (append_assoc (opened_items fs) _ items)
    ∙ nests-opened fs _ h.2
    ∙ ap (nests (names fs)) (append_assoc (items_of f.before) _ items)
    ∙ nests-items_of (names fs) f.before (start_tag f.name f.attributes ∷ items) (subst (λ (t : Bool). AreInPlace t f.before) (sym (none_named fs)) h.0)
    ∙ nests-element (names fs) f.name f.attributes items h.1

-- what has been read nests with what is left as the open elements do
nests-left : (items : List Item) (frames : List Frame) → LeavesOpen items frames → (more : List Item) → nests [] (items ++ more) ≡ nests (names frames) more
nests-left items frames h more =
    ap (λ (x : List Item). nests [] (x ++ more)) h.are
    ∙ ap (nests []) (append_assoc (opened_items frames) (items_of h.done) more)
    ∙ nests-opened frames (items_of h.done ++ more) h.open_in_place
    ∙ nests-items_of (names frames) h.done more (subst (λ (t : Bool). AreInPlace t h.done) (sym (none_named frames)) h.in_place)

-- whole trees nest
pub nests-whole : (trees : ValueTrees) → AreInPlace true trees → nests [] (items_of trees) ≡ true
nests-whole trees h = ap (nests []) (sym (append-nil (items_of trees))) ∙ nests-items_of [] trees [] h

-- an item that ends another element than the innermost open one belongs to no trees
pub no_trees_end : (items : List Item) (item : Item) → EndsAnother items item → (trees : ValueTrees) (more : List Item) → AreInPlace true trees → items_of trees ≡ (items ++ item ∷ []) ++ more → ⊥
no_trees_end items (end_tag n) h trees more g e =
    let nested : nests [] (items_of trees) ≡ nests (names (h.0 ∷ h.1)) (end_tag n ∷ more) =
    ap (nests []) (e ∙ append_assoc items (end_tag n ∷ []) more) ∙ nests-left items (h.0 ∷ h.1) h.2 (end_tag n ∷ more) in
    let differ : bytes_eq h.0.name n ≡ false = bytes_eq-differs h.0.name n (λ is. h.3 (sym is)) in
    true≢false (sym (nests-whole trees g) ∙ nested ∙ ap (λ b. b && nests (names h.1) more) differ)
no_trees_end items item h trees more g e = h

-- nor does one where nothing is open
pub no_trees_stray : (items : List Item) (item : Item) → EndsNothing items item → (trees : ValueTrees) (more : List Item) → AreInPlace true trees → items_of trees ≡ (items ++ item ∷ []) ++ more → ⊥
no_trees_stray items (end_tag n) h trees more g e =
    true≢false (sym (nests-whole trees g) ∙ ap (nests []) (e ∙ append_assoc items (end_tag n ∷ []) more) ∙ nests-left items [] h (end_tag n ∷ more))
no_trees_stray items item h trees more g e = h

-- nor does a doctype where an element is open
pub no_trees_inside : (items : List Item) (item : Item) → IsInside items item → (trees : ValueTrees) (more : List Item) → AreInPlace true trees → items_of trees ≡ (items ++ item ∷ []) ++ more → ⊥
no_trees_inside items (doctype n p s) h trees more g e =
    true≢false (sym (nests-whole trees g) ∙ ap (nests []) (e ∙ append_assoc items (doctype n p s ∷ []) more) ∙ nests-left items (h.0 ∷ h.1) h.2 (doctype n p s ∷ more))
no_trees_inside items item h trees more g e = h

-- where an element is open, the items so far aren't those of trees
pub no_trees_open : (items : List Item) → LeavesSomeOpen items → (trees : ValueTrees) → AreInPlace true trees → items_of trees ≡ items → ⊥
no_trees_open items h trees g e =
    true≢false (sym (nests-whole trees g) ∙ ap (nests []) (e ∙ sym (append-nil items)) ∙ nests-left items (h.0 ∷ h.1) h.2 [])

-- ---- what is open

pub ends_another : (items : List Item) (forest : Forest) (stack : List Opened) (last : Opened) (n : List ℕ) → HasRead items forest (stack ++ last ∷ []) → (last.name ≡ n → ⊥) → EndsAnother items (end_tag n)
ends_another items forest stack last n h differ = go h.frames h.items_are h.stack_is h.open_in_place h.in_place
  where
    go : (fs : List Frame) → items ≡ opened_items fs ++ items_of h.done → stack ++ last ∷ [] ≡ opened fs → FramesInPlace fs → AreInPlace (is_top fs) h.done → EndsAnother items (end_tag n)
    go [] i s a b = absurd (nonempty stack last s)
    go (f ∷ fs) i s a b =
        let name : last.name ≡ f.name = ap (λ (o : Opened). o.name) (last_same stack (opened fs) last _ s).1 in
        (f, fs, record { done = h.done; are = i; open_in_place = a; in_place = b }, λ is. differ (name ∙ sym is))

pub ends_nothing : (items : List Item) (forest : Forest) (n : List ℕ) → HasRead items forest [] → EndsNothing items (end_tag n)
ends_nothing items forest n h = go h.frames h.items_are h.stack_is h.open_in_place h.in_place
  where
    go : (fs : List Frame) → items ≡ opened_items fs ++ items_of h.done → [] ≡ opened fs → FramesInPlace fs → AreInPlace (is_top fs) h.done → EndsNothing items (end_tag n)
    go [] i s a b = record { done = h.done; are = i; open_in_place = a; in_place = b }
    go (f ∷ fs) i s a b = absurd (nonempty (opened fs) _ (sym s))

pub leaves_open : (items : List Item) (forest : Forest) (stack : List Opened) → stack ≢ [] → HasRead items forest stack → LeavesSomeOpen items
leaves_open items forest stack some h = go h.frames h.items_are h.stack_is h.open_in_place h.in_place
  where
    go : (fs : List Frame) → items ≡ opened_items fs ++ items_of h.done → stack ≡ opened fs → FramesInPlace fs → AreInPlace (is_top fs) h.done → LeavesSomeOpen items
    go [] i s a b = absurd (some s)
    go (f ∷ fs) i s a b = (f, fs, record { done = h.done; are = i; open_in_place = a; in_place = b })

-- where none is open, the trees that are done are all
pub whole_read : (items : List Item) (forest : Forest) → HasRead items forest [] → (trees : ValueTrees) × (items ≡ items_of trees) × AreInPlace true trees × (forest ≡ document_of trees)
whole_read items forest h = go h.frames h.items_are h.forest_is h.stack_is h.in_place
  where
    go : (fs : List Frame) → items ≡ opened_items fs ++ items_of h.done → forest ≡ document_of (closed fs h.done) → [] ≡ opened fs → AreInPlace (is_top fs) h.done → (trees : ValueTrees) × (items ≡ items_of trees) × AreInPlace true trees × (forest ≡ document_of trees)
    go [] i n s b = (h.done, i, b, n)
    go (f ∷ fs) i n s b = absurd (nonempty (opened fs) _ (sym s))

-- the number of the innermost open element
pub parent_last : (front : List Opened) (o : Opened) (fs : List Frame) → front ++ o ∷ [] ≡ opened fs → o.number ≡ opened_size fs
parent_last front o [] e = absurd (nonempty front o e)
parent_last front o (f ∷ fs) e = ap (λ (x : Opened). x.number) (last_same front (opened fs) o _ e).1

pub parent_none : (fs : List Frame) → [] ≡ opened fs → 0 ≡ opened_size fs
parent_none [] e = refl
parent_none (f ∷ fs) e = absurd (nonempty (opened fs) _ (sym e))

pub last_split : {X : Type 0} (xs : List X) (x : X) → slice_get xs (length xs - 1) ≡ Some x → (front : List X) × (xs ≡ front ++ x ∷ [])
last_split [] x e = cc
last_split (y ∷ []) x e =
    let same : y ≡ x = cc in
    ([], ap (λ z. z ∷ []) same)
last_split (y ∷ z ∷ zs) x e =
    let place : length (y ∷ z ∷ zs) - 1 ≡ suc (length (z ∷ zs) - 1) = omega arith in
    let more = last_split (z ∷ zs) x (rw place at e) in
    (y ∷ more.0, ap (λ t. y ∷ t) more.1)

pub last_none : {X : Type 0} (xs : List X) → slice_get xs (length xs - 1) ≡ None → xs ≡ []
last_none [] e = refl
last_none (y ∷ []) e = cc
last_none (y ∷ z ∷ zs) e =
    let place : length (y ∷ z ∷ zs) - 1 ≡ suc (length (z ∷ zs) - 1) = omega arith in
    let inner : slice_get (z ∷ zs) (length (z ∷ zs) - 1) ≡ None = rw place at e in
    let nil : z ∷ zs ≡ [] = last_none (z ∷ zs) inner in
    cc

pub nil_from_length0 : {X : Type 0} (xs : List X) → length xs ≡ 0 → xs ≡ []
nil_from_length0 [] e = refl
nil_from_length0 (x ∷ xs) e = absurd (omega arith)
