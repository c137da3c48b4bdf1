-- Which lists of tags and texts are those of trees: start and end tags nest.
use Rattle.std.proofs.Common.{◌≡◌, ℕ, List, [], ◌∷◌, ◌++◌, Bool, true, false, ◌&&◌, inl, inr, if◌then◌else◌, refl, sym, ap, ◌∙◌, subst, append_assoc}
use Rattle.std.proofs.lemmas.Bool.{cases_Bool, false≢true}
use Rattle.std.proofs.lemmas.Slice.Eq.{bytes_eq-Decides}
use Rattle.std.specs.Str.{bytes_eq}
use Rattle.dom_nodes.specs.Words.{is_among}
use Rattle.dom_markup.specs.Names.{void_names}
use Rattle.dom_markup.specs.ValueTrees.{Attribute, ValueTrees}
use Rattle.dom_markup.specs.ValueTrees.ValueTrees.{no_trees, text_node, comment_node, doctype_node, element_node}
use Rattle.dom_markup.specs.Markup.{Item, AreInPlace, items_of}
use Rattle.dom_markup.specs.Markup.Item.{start_tag, end_tag, characters, comment, doctype}

-- whether the items close the open elements of these names, the innermost first, and nothing else, with doctypes only where none is open
abbrev pub nests : List (List ℕ) → List Item → Bool
nests [] [] = true
nests (n ∷ ns) [] = false
nests ns (start_tag name attributes ∷ items) = if is_among name void_names then nests ns items else nests (name ∷ ns) items
nests [] (end_tag name ∷ items) = false
nests (n ∷ ns) (end_tag name ∷ items) = bytes_eq n name && nests ns items
nests ns (characters contents ∷ items) = nests ns items
nests ns (comment contents ∷ items) = nests ns items
nests [] (doctype name public system ∷ items) = nests [] items
nests (n ∷ ns) (doctype name public system ∷ items) = false

abbrev pub is_none : List (List ℕ) → Bool
is_none [] = true
is_none (n ∷ ns) = false

pub bytes_eq-refl : (xs : List ℕ) → bytes_eq xs xs ≡ true
bytes_eq-refl xs = (bytes_eq-Decides xs xs).1 refl

-- the items of an element that is void, and of another
pub void_items : (name : List ℕ) (attributes : List Attribute) (children later : ValueTrees) → is_among name void_names ≡ true → items_of (element_node name attributes children later) ≡ start_tag name attributes ∷ items_of later
void_items name attributes children later v = rw v refl

pub element_items : (name : List ℕ) (attributes : List Attribute) (children later : ValueTrees) → is_among name void_names ≡ false → items_of (element_node name attributes children later) ≡ start_tag name attributes ∷ (items_of children ++ end_tag name ∷ items_of later)
element_items name attributes children later v = rw v refl

pub nests-void : (ns : List (List ℕ)) (name : List ℕ) (attributes : List Attribute) (items : List Item) → is_among name void_names ≡ true → nests ns (start_tag name attributes ∷ items) ≡ nests ns items
nests-void [] name attributes items v = rw v refl
nests-void (n ∷ ns) name attributes items v = rw v refl

pub nests-element : (ns : List (List ℕ)) (name : List ℕ) (attributes : List Attribute) (items : List Item) → is_among name void_names ≡ false → nests ns (start_tag name attributes ∷ items) ≡ nests (name ∷ ns) items
nests-element [] name attributes items v = rw v refl
nests-element (n ∷ ns) name attributes items v = rw v refl

nests-characters : (ns : List (List ℕ)) (c : List ℕ) (items : List Item) → nests ns (characters c ∷ items) ≡ nests ns items
nests-characters [] c items = refl
nests-characters (n ∷ ns) c items = refl

nests-comment : (ns : List (List ℕ)) (c : List ℕ) (items : List Item) → nests ns (comment c ∷ items) ≡ nests ns items
nests-comment [] c items = refl
nests-comment (n ∷ ns) c items = refl

nests-doctype : (ns : List (List ℕ)) (n p s : List ℕ) (items : List Item) → is_none ns ≡ true → nests ns (doctype n p s ∷ items) ≡ nests ns items
nests-doctype [] n p s items h = refl
nests-doctype (m ∷ ns) n p s items h = absurd (false≢true h)

-- whole trees leave the open elements as they are
pub nests-items_of : (ns : List (List ℕ)) (trees : ValueTrees) (items : List Item) → AreInPlace (is_none ns) trees → nests ns (items_of trees ++ items) ≡ nests ns items
nests-items_of ns no_trees items h = refl
nests-items_of ns (text_node contents after) items h = nests-characters ns contents (items_of after ++ items) ∙ nests-items_of ns after items h
nests-items_of ns (comment_node contents after) items h = nests-comment ns contents (items_of after ++ items) ∙ nests-items_of ns after items h
nests-items_of ns (doctype_node n p s after) items h = nests-doctype ns n p s (items_of after ++ items) h.0 ∙ nests-items_of ns after items h.1
nests-items_of ns (element_node name attributes children after) items h = elim (cases_Bool (is_among name void_names)) [
  | inl v ↦ ap (λ (x : List Item). nests ns (x ++ items)) (void_items name attributes children after v)
      ∙ nests-void ns name attributes (items_of after ++ items) v ∙ nests-items_of ns after items h.2
  | inr v ↦ ap (λ (x : List Item). nests ns (x ++ items)) (element_items name attributes children after v)
      ∙ nests-element ns name attributes ((items_of children ++ end_tag name ∷ items_of after) ++ items) v
      ∙ ap (nests (name ∷ ns)) (append_assoc (items_of children) (end_tag name ∷ items_of after) items)
      ∙ nests-items_of (name ∷ ns) children (end_tag name ∷ (items_of after ++ items)) h.1
      ∙ ap (λ b. b && nests ns (items_of after ++ items)) (bytes_eq-refl name)
      ∙ nests-items_of ns after items h.2
]

-- the items end, or go on with an end tag
abbrev pub EndsTrees : List Item → Type 0
EndsTrees [] = Unit {0}
EndsTrees (start_tag name attributes ∷ items) = ⊥
EndsTrees (end_tag name ∷ items) = Unit {0}
EndsTrees (characters contents ∷ items) = ⊥
EndsTrees (comment contents ∷ items) = ⊥
EndsTrees (doctype name public system ∷ items) = ⊥

ends : (x : List Item) (i : Item) (y : List Item) → EndsTrees x → x ≡ i ∷ y → EndsTrees (i ∷ y)
ends x i y h e = subst EndsTrees e h

-- the tags and texts of trees determine the trees
pub items_of-same : (top up : Bool) (t u : ValueTrees) (x y : List Item) → AreInPlace top t → AreInPlace up u → EndsTrees x → EndsTrees y → items_of t ++ x ≡ items_of u ++ y → (t ≡ u) × (x ≡ y)
items_of-same top up no_trees no_trees x y a b p q e = (refl, e)
items_of-same top up no_trees (text_node d u) x y a b p q e = absurd (ends x (characters d) (items_of u ++ y) p e)
items_of-same top up no_trees (comment_node d u) x y a b p q e = absurd (ends x (comment d) (items_of u ++ y) p e)
items_of-same top up no_trees (doctype_node n r s u) x y a b p q e = absurd (ends x (doctype n r s) (items_of u ++ y) p e)
items_of-same top up no_trees (element_node m c v u) x y a b p q e = absurd (ends x (start_tag m c) _ p e)
items_of-same top up (text_node c t) no_trees x y a b p q e = absurd (ends y (characters c) (items_of t ++ x) q (sym e))
items_of-same top up (text_node c t) (text_node d u) x y a b p q e =
    let more = items_of-same top up t u x y a b p q cc in
    (cc (more.0), more.1)
items_of-same top up (text_node c t) u x y a b p q e = cc
items_of-same top up (comment_node c t) no_trees x y a b p q e = absurd (ends y (comment c) (items_of t ++ x) q (sym e))
items_of-same top up (comment_node c t) (comment_node d u) x y a b p q e =
    let more = items_of-same top up t u x y a b p q cc in
    (cc (more.0), more.1)
items_of-same top up (comment_node c t) u x y a b p q e = cc
items_of-same top up (doctype_node n r s t) no_trees x y a b p q e = absurd (ends y (doctype n r s) (items_of t ++ x) q (sym e))
items_of-same top up (doctype_node n r s t) (doctype_node m v w u) x y a b p q e =
    let same : items_of t ++ x ≡ items_of u ++ y = cc in
    let one : n ≡ m = cc in
    let two : r ≡ v = cc in
    let three : s ≡ w = cc in
    let more = items_of-same top up t u x y a.1 b.1 p q same in
    (cc (one, two, three, more.0), more.1)
items_of-same top up (doctype_node n r s t) u x y a b p q e = cc
items_of-same top up (element_node n c k t) no_trees x y a b p q e = absurd (ends y (start_tag n c) _ q (sym e))
items_of-same top up (element_node n c k t) (element_node m d v u) x y a b p q e =
    let name : n ≡ m = cc in
    let attributes : c ≡ d = cc in
    elim (cases_Bool (is_among n void_names)) [
      | inl w ↦
          (let w' : is_among m void_names ≡ true = ap (λ (z : List ℕ). is_among z void_names) (sym name) ∙ w in
          let whole : start_tag n c ∷ (items_of t ++ x) ≡ start_tag m d ∷ (items_of u ++ y) =
          ap (λ (z : List Item). z ++ x) (sym (void_items n c k t w)) ∙ e ∙ ap (λ (z : List Item). z ++ y) (void_items m d v u w') in
          let behind : items_of t ++ x ≡ items_of u ++ y = cc (whole) in
          let more = items_of-same top up t u x y a.2 b.2 p q behind in
          let children : k ≡ v = a.0 w ∙ sym (b.0 w') in
          (cc (name, attributes, children, more.0), more.1))
      | inr w ↦
          (let w' : is_among m void_names ≡ false = ap (λ (z : List ℕ). is_among z void_names) (sym name) ∙ w in
          let whole : start_tag n c ∷ ((items_of k ++ end_tag n ∷ items_of t) ++ x) ≡ start_tag m d ∷ ((items_of v ++ end_tag m ∷ items_of u) ++ y) =
          ap (λ (z : List Item). z ++ x) (sym (element_items n c k t w)) ∙ e ∙ ap (λ (z : List Item). z ++ y) (element_items m d v u w') in
          let inside : (items_of k ++ end_tag n ∷ items_of t) ++ x ≡ (items_of v ++ end_tag m ∷ items_of u) ++ y = cc (whole) in
          let regrouped : items_of k ++ (end_tag n ∷ (items_of t ++ x)) ≡ items_of v ++ (end_tag m ∷ (items_of u ++ y)) =
          sym (append_assoc (items_of k) (end_tag n ∷ items_of t) x) ∙ inside ∙ append_assoc (items_of v) (end_tag m ∷ items_of u) y in
          let children = items_of-same false false k v (end_tag n ∷ (items_of t ++ x)) (end_tag m ∷ (items_of u ++ y)) a.1 b.1 tt tt regrouped in
          let behind : items_of t ++ x ≡ items_of u ++ y = cc (children.1) in
          let more = items_of-same top up t u x y a.2 b.2 p q behind in
          (cc (name, attributes, children.0, more.0), more.1))
    ]
items_of-same top up (element_node n c k t) u x y a b p q e = cc

pub bytes_eq-differs : (xs ys : List ℕ) → (xs ≡ ys → ⊥) → bytes_eq xs ys ≡ false
bytes_eq-differs xs ys differ = go (bytes_eq xs ys) refl
  where
    go : (b : Bool) → bytes_eq xs ys ≡ b → b ≡ false
    go true e = absurd (differ ((bytes_eq-Decides xs ys).0 e))
    go false e = refl
