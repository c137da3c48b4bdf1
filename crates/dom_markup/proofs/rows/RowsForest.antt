-- Nodes in order of their numbers, each after its parent, are a forest.
use Rattle.std.proofs.Common.{◌≡◌, ℕ, zero, suc, ◌+◌, ◌<◌, ◌≤◌, Bool, true, false, List, [], ◌∷◌, length, get_or, Option, Some, None, refl, sym, ap, ◌∙◌, subst, arith, add-zero, slice_get, map, if◌then◌else◌}
use Rattle.std.specs.Prelude.{◌==◌, ◌≢◌}
use Rattle.std.specs.Option.{option_map_or}
use Rattle.std.proofs.lemmas.Bool.{eq-eqb, eqb-true, ne_eqb, true≢false}
use Rattle.dom_nodes.specs.declared.node_data.NodeData.{NodeData}
use Rattle.dom_nodes.specs.Kinds.{contents_named, is_fragment, is_top, children_allowed}
use Rattle.dom_links.specs.Lists.{IsDistinct, map_from, names, is_member}
use Rattle.dom_links.specs.Forest.{owner_from}
use Rattle.dom_markup.specs.Numbered.{Row, children_among, run_among}

-- the parent of the node n, where the rows are those of the nodes from i on
abbrev pub parent_from : ℕ → List Row → ℕ → Option ℕ
parent_from i [] n = None
parent_from i (row ∷ rows) n = if i == n then row.parent else parent_from (i + 1) rows n

parent_before : (i : ℕ) (rows : List Row) (n : ℕ) → n < i → parent_from i rows n ≡ None
parent_before i [] n low = refl
parent_before i (row ∷ rows) n low = let other : (i == n) ≡ false = ne_eqb i n (λ e. omega (arith, e)) in rw other (parent_before (i + 1) rows n (omega arith))

-- ---- who stands among children

children_before : (i : ℕ) (rows : List Row) (q n : ℕ) → n < i → is_member n (children_among i rows q) ≡ false
children_before i [] q n low = refl
children_before i (row ∷ rows) q n low = by_test (names row.parent q) refl (children_before (i + 1) rows q n (omega arith))
  where
    by_test : (t : Bool) → names row.parent q ≡ t → is_member n (children_among (i + 1) rows q) ≡ false → is_member n (children_among i (row ∷ rows) q) ≡ false
    by_test true t more = let other : (i == n) ≡ false = ne_eqb i n (λ e. omega (arith, e)) in rw (t, other) more
    by_test false t more = rw t more

pub stands-children : (i : ℕ) (rows : List Row) (q n : ℕ) → is_member n (children_among i rows q) ≡ names (parent_from i rows n) q
stands-children i [] q n = refl
stands-children i (row ∷ rows) q n = by_tests (names row.parent q) (i == n) refl refl (stands-children (i + 1) rows q n)
  where
    by_tests : (t s : Bool) → names row.parent q ≡ t → (i == n) ≡ s → is_member n (children_among (i + 1) rows q) ≡ names (parent_from (i + 1) rows n) q → is_member n (children_among i (row ∷ rows) q) ≡ names (parent_from i (row ∷ rows) n) q
    by_tests true true t s more = rw (t, s) (sym t)
    by_tests true false t s more = rw (t, s) more
    by_tests false true t s more = rw (t, s) (children_before (i + 1) rows q n (let is : i ≡ n = eqb-true i n s in omega (arith, is)) ∙ sym t)
    by_tests false false t s more = rw (t, s) more

pub children_distinct : (i : ℕ) (rows : List Row) (q : ℕ) → IsDistinct (children_among i rows q)
children_distinct i [] q = tt
children_distinct i (row ∷ rows) q = by_test (names row.parent q) refl (children_distinct (i + 1) rows q)
  where
    by_test : (t : Bool) → names row.parent q ≡ t → IsDistinct (children_among (i + 1) rows q) → IsDistinct (children_among i (row ∷ rows) q)
    by_test true t more = rw t (children_before (i + 1) rows q i (omega arith), more)
    by_test false t more = rw t more

-- ---- the first list in which a number stands

pub owner_none : (n i : ℕ) (lists : ℕ → List ℕ) (rows : List Row) → ((p : ℕ) → is_member n (lists p) ≡ false) → owner_from i (map_from i (λ p row. lists p) rows) n ≡ None
owner_none n i lists [] none = refl
owner_none n i lists (row ∷ rows) none = rw (none i) (owner_none n (i + 1) lists rows none)

pub owner_some : (n i q : ℕ) (lists : ℕ → List ℕ) (rows : List Row) → ((p : ℕ) → is_member n (lists p) ≡ (q == p)) → i ≤ q → q < i + length rows → owner_from i (map_from i (λ p row. lists p) rows) n ≡ Some q
owner_some n i q lists [] stands low high = absurd (omega arith)
owner_some n i q lists (row ∷ rows) stands low high = by_test (q == i) refl (owner_some n (i + 1) q lists rows stands)
  where
    by_test : (t : Bool) → (q == i) ≡ t → (i + 1 ≤ q → q < i + 1 + length rows → owner_from (i + 1) (map_from (i + 1) (λ p row. lists p) rows) n ≡ Some q) → owner_from i (map_from i (λ p row. lists p) (row ∷ rows)) n ≡ Some q
    by_test true t more = rw (stands i ∙ t) (ap Some (sym (eqb-true q i t)))
    by_test false t more =
        let apart : q ≢ i = λ e. true≢false (sym (eq-eqb q i e) ∙ t) in
        rw (stands i ∙ t) (more (omega arith) (omega arith))

-- ---- lists made from rows

pub length-map_from : {X : Type 0} (i : ℕ) (f : ℕ → Row → X) (rows : List Row) → length (map_from i f rows) ≡ length rows
length-map_from i f [] = refl
length-map_from i f (row ∷ rows) = ap suc (length-map_from (i + 1) f rows)

pub runs-map_from : (i k : ℕ) (rows : List Row) → k < length rows → get_or (map_from i (λ n row. run_among n row.parent) rows) k [] ≡ run_among (i + k) (parent_from i rows (i + k))
runs-map_from i k [] h = absurd (omega arith)
runs-map_from i zero (row ∷ rows) h = let here : i + 0 ≡ i = add-zero i in rw here (rw (eq-eqb i i refl) refl)
runs-map_from i (suc k) (row ∷ rows) h =
    let there : i + suc k ≡ (i + 1) + k = omega arith in
    let other : (i == (i + 1) + k) ≡ false = ne_eqb i ((i + 1) + k) (λ e. omega (arith, e)) in
    runs-map_from (i + 1) k rows (omega arith) ∙ rw there (rw other refl)

pub children-from : (g : ℕ → List ℕ) (i k : ℕ) (rows : List Row) → k < length rows → get_or (map_from i (λ p row. g p) rows) k [] ≡ g (i + k)
children-from g i k [] h = absurd (omega arith)
children-from g i zero (row ∷ rows) h = ap g (sym (add-zero i))
children-from g i (suc k) (row ∷ rows) h = children-from g (i + 1) k rows (omega arith) ∙ ap g (omega arith)

-- ---- rows in order

-- the parent of a row comes before it and may have children, a document or a fragment has no parent, and contents come right after their element
pub record IsInOrder (content : List NodeData) (n : ℕ) (row : Row) : Type 0 where
  pub below : (p : ℕ) → row.parent ≡ Some p → (p < n) × (option_map_or children_allowed (slice_get content p) false ≡ true)
  pub top : is_top row.content ≡ true → row.parent ≡ None
  pub holds : (c : ℕ) → contents_named row.content ≡ Some c → (c ≡ n + 1) × (option_map_or is_fragment (slice_get content c) false ≡ true)

abbrev pub AreInOrder : List NodeData → ℕ → List Row → Type 0
AreInOrder content n [] = Unit {0}
AreInOrder content n (row ∷ rows) = IsInOrder content n row × AreInOrder content (n + 1) rows

abbrev pub contents_of_rows : List Row → List NodeData
contents_of_rows rows = map (λ row. row.content) rows

pub row_at : (rows : List Row) (n : ℕ) → n < length rows → (row : Row) × (slice_get rows n ≡ Some row)
row_at [] n h = absurd (omega arith)
row_at (row ∷ rows) zero h = (row, refl)
row_at (row ∷ rows) (suc n) h = row_at rows n (omega arith)

pub content_at : (rows : List Row) (n : ℕ) (row : Row) → slice_get rows n ≡ Some row → slice_get (contents_of_rows rows) n ≡ Some row.content
content_at [] n row is = absurd (none_some is)
  where
    none_some : {X : Type 0} {x : X} → None ≡ Some x → ⊥
    none_some e = cc
content_at (r ∷ rows) zero row is = ap (option_content) is
  where
    option_content : Option Row → Option NodeData
    option_content None = None
    option_content (Some x) = Some x.content
content_at (r ∷ rows) (suc n) row is = content_at rows n row is

pub order_at : (content : List NodeData) (i k : ℕ) (rows : List Row) (row : Row) → AreInOrder content i rows → slice_get rows k ≡ Some row → IsInOrder content (i + k) row
order_at content i k [] row h is = absurd (cc)
order_at content i zero (r ∷ rows) row h is = let here : i + 0 ≡ i = add-zero i in let same : r ≡ row = cc in rw here (subst (IsInOrder content i) same h.0)
order_at content i (suc k) (r ∷ rows) row h is = let there : i + suc k ≡ (i + 1) + k = omega arith in rw there (order_at content (i + 1) k rows row h.1 is)

pub parent_at : (i k : ℕ) (rows : List Row) (row : Row) → slice_get rows k ≡ Some row → parent_from i rows (i + k) ≡ row.parent
parent_at i k [] row is = absurd (cc)
parent_at i zero (r ∷ rows) row is = let here : i + 0 ≡ i = add-zero i in let same : r ≡ row = cc in rw here (rw (eq-eqb i i refl) (ap (λ (x : Row). x.parent) same))
parent_at i (suc k) (r ∷ rows) row is =
    let there : i + suc k ≡ (i + 1) + k = omega arith in
    let other : (i == (i + 1) + k) ≡ false = ne_eqb i ((i + 1) + k) (λ e. omega (arith, e)) in
    rw there (rw other (parent_at (i + 1) k rows row is))

pub parent_past : (i n : ℕ) (rows : List Row) → i + length rows ≤ n → parent_from i rows n ≡ None
parent_past i n [] h = refl
parent_past i n (row ∷ rows) h =
    let other : (i == n) ≡ false = ne_eqb i n (λ e. omega (arith, e)) in
    rw other (parent_past (i + 1) n rows (omega arith))
