-- The forest of rows in order keeps what a forest keeps.
use Rattle.std.proofs.Common.{◌≡◌, ℕ, zero, suc, ◌+◌, ◌<◌, ◌≤◌, true, false, List, [], ◌∷◌, length, Option, Some, None, refl, sym, ap, ◌∙◌, subst, arith, slice_get, inl, inr}
use Rattle.std.specs.Prelude.{◌==◌, ◌⊎◌, ◌≢◌, ◌||◌}
use Rattle.std.specs.Option.{option_map_or}
use Rattle.std.proofs.lemmas.Bool.{cases_Bool, eq-eqb, cases_lt, eqb-true, true≢false}
use Rattle.std.proofs.lemmas.List.{get_or_past}
use Rattle.dom_nodes.specs.declared.node_data.NodeData.{NodeData}
use Rattle.dom_nodes.specs.Kinds.{contents_named, is_fragment, is_top}
use Rattle.dom_links.specs.Lists.{IsDistinct, names, is_member}
use Rattle.dom_links.specs.Forest.{Forest, StandsOnce, children_of, parent, run_of, siblings}
use Rattle.dom_links.specs.Sound.{IsForest, IsHostAncestor, one_step, then_step, IsParentOrHost, contents_at, stays}
use Rattle.dom_markup.specs.Numbered.{Row, forest_of_rows, children_among, run_among}
use Rattle.dom_markup.proofs.rows.RowsForest.{AreInOrder, content_at, contents_of_rows, children-from, children_distinct, length-map_from, order_at, owner_none, owner_some, parent_at, parent_from, parent_past, row_at, runs-map_from, stands-children}

cases_parent : (o : Option ℕ) → (o ≡ None) ⊎ ((p : ℕ) × (o ≡ Some p))
cases_parent None = inl refl
cases_parent (Some p) = inr (p, refl)

length-contents : (rows : List Row) → length (contents_of_rows rows) ≡ length rows
length-contents [] = refl
length-contents (row ∷ rows) = ap suc (length-contents rows)

-- a node with a parent is one of the rows, and comes after it
record HasParent (rows : List Row) (n p : ℕ) : Type 0 where
  row : Row
  is : slice_get rows n ≡ Some row
  names_it : row.parent ≡ Some p
  within : n < length rows

has_parent : (rows : List Row) (n p : ℕ) → parent_from 0 rows n ≡ Some p → HasParent rows n p
has_parent rows n p e = elim (cases_lt n (length rows)) [
  | inl low ↦
      let found = row_at rows n low in
      let zero-n : 0 + n ≡ n = omega arith in
      record { row = found.0; is = found.1; names_it = sym (parent_at 0 n rows found.0 found.1) ∙ (ap (parent_from 0 rows) zero-n ∙ e); within = low }
  | inr high ↦ absurd (none_some (sym (parent_past 0 n rows (omega (arith, high))) ∙ e))
]
  where
    none_some : None ≡ Some p → ⊥
    none_some e = cc

children_is : (rows : List Row) (q : ℕ) → q < length rows → children_of (forest_of_rows rows) q ≡ children_among 0 rows q
children_is rows q h = let zero-q : 0 + q ≡ q = omega arith in children-from (λ p. children_among 0 rows p) 0 q rows h ∙ ap (children_among 0 rows) zero-q

children_past : (rows : List Row) (q : ℕ) → length rows ≤ q → children_of (forest_of_rows rows) q ≡ []
children_past rows q h = get_or_past _ q [] (rw (length-map_from 0 (λ p row. children_among 0 rows p) rows) h)

run_is : (rows : List Row) (n : ℕ) → n < length rows → run_of (forest_of_rows rows) n ≡ run_among n (parent_from 0 rows n)
run_is rows n h = let zero-n : 0 + n ≡ n = omega arith in runs-map_from 0 n rows h ∙ ap (λ k. run_among k (parent_from 0 rows k)) zero-n

run_past : (rows : List Row) (n : ℕ) → length rows ≤ n → run_of (forest_of_rows rows) n ≡ []
run_past rows n h = get_or_past _ n [] (rw (length-map_from 0 (λ n row. run_among n row.parent) rows) h)

parent_below : (rows : List Row) → AreInOrder (contents_of_rows rows) 0 rows → (n p : ℕ) → parent_from 0 rows n ≡ Some p → p < n
parent_below rows order n p e =
    let has = has_parent rows n p e in
    let zero-n : 0 + n ≡ n = omega arith in
    let below = ((order_at (contents_of_rows rows) 0 n rows has.row order has.is).below p has.names_it).0 in
    omega (arith, below)

pub parent_is : (rows : List Row) → AreInOrder (contents_of_rows rows) 0 rows → (n : ℕ) → parent (forest_of_rows rows) n ≡ parent_from 0 rows n
parent_is rows order n = elim (cases_parent (parent_from 0 rows n)) [
  | inl none ↦ owner_none n 0 (λ p. children_among 0 rows p) rows (λ p. stands-children 0 rows p n ∙ ap (λ o. names o p) none) ∙ sym none
  | inr some ↦
      let q = some.0 in
      let has = has_parent rows n q some.1 in
      let low = parent_below rows order n q some.1 in
      let within = has.within in
      owner_some n 0 q (λ p. children_among 0 rows p) rows (λ p. stands-children 0 rows p n ∙ ap (λ o. names o p) some.1) (omega arith) (omega (arith, low, within)) ∙ sym some.1
]

-- ---- each stands once

same_name : (o : Option ℕ) (q : ℕ) → names o q ≡ true → o ≡ Some q
same_name None q e = absurd (true≢false (sym e))
same_name (Some p) q e = ap Some (eqb-true p q e)

run_stands : (m n : ℕ) (o : Option ℕ) → is_member n (run_among m o) ≡ true → (o ≡ None) × (m ≡ n)
run_stands m n None e = (
  refl,
  elim (cases_Bool (m == n)) [
    | inl t ↦ eqb-true m n t
    | inr f ↦ absurd (true≢false (sym e ∙ rw f refl))
  ],
)
run_stands m n (Some p) e = absurd (true≢false (sym e))

run_distinct : (n : ℕ) (o : Option ℕ) → IsDistinct (run_among n o)
run_distinct n None = (refl, tt)
run_distinct n (Some p) = tt

pub rows_once : (rows : List Row) → AreInOrder (contents_of_rows rows) 0 rows → StandsOnce (forest_of_rows rows)
rows_once rows order =
    let many = length-contents rows in
    record {
      children_each = length-map_from 0 (λ p row. children_among 0 rows p) rows ∙ sym many;
      runs_each = length-map_from 0 (λ n row. run_among n row.parent) rows ∙ sym many;
      placed = λ n h. placed n (subst (λ (k : ℕ). n < k) many h) (cases_parent (parent_from 0 rows n));
      in_children = λ p n s. in_children p n s (cases_lt p (length rows));
      in_run = λ m n s. in_run m n s (cases_lt m (length rows));
      children_once = λ p. children_once p (cases_lt p (length rows));
      run_once = λ n. run_once n (cases_lt n (length rows));
      no_run = λ p n e. no_run p n (sym (parent_is rows order n) ∙ e);
    }
  where
    forest : Forest
    forest = forest_of_rows rows

    placed : (n : ℕ) → n < length rows → (parent_from 0 rows n ≡ None) ⊎ ((p : ℕ) × (parent_from 0 rows n ≡ Some p)) → is_member n (siblings (forest_of_rows rows) n) ≡ true
    placed n h (inl none) = rw (parent_is rows order n, none) (ap (is_member n) (run_is rows n h ∙ ap (run_among n) none) ∙ rw (eq-eqb n n refl) refl)
    placed n h (inr some) =
        let has = has_parent rows n some.0 some.1 in
        let low = parent_below rows order n some.0 some.1 in
        rw (parent_is rows order n, some.1) (ap (is_member n) (children_is rows some.0 (omega (arith, low, h))) ∙ stands-children 0 rows some.0 n ∙ ap (λ o. names o some.0) some.1 ∙ eq-eqb some.0 some.0 refl)

    in_children : (p n : ℕ) → is_member n (children_of (forest_of_rows rows) p) ≡ true → (p < length rows) ⊎ (length rows ≤ p) → (n < length (contents_of_rows rows)) × (parent (forest_of_rows rows) n ≡ Some p)
    in_children p n s (inl low) =
        let named = same_name (parent_from 0 rows n) p (sym (stands-children 0 rows p n) ∙ ap (is_member n) (sym (children_is rows p low)) ∙ s) in
        (rw (length-contents rows) (has_parent rows n p named).within, parent_is rows order n ∙ named)
    in_children p n s (inr high) = absurd (true≢false (sym s ∙ ap (is_member n) (children_past rows p high)))

    in_run : (m n : ℕ) → is_member n (run_of (forest_of_rows rows) m) ≡ true → (m < length rows) ⊎ (length rows ≤ m) →
        (n < length (contents_of_rows rows)) × (parent (forest_of_rows rows) n ≡ None) × (run_of (forest_of_rows rows) n ≡ run_of (forest_of_rows rows) m)
    in_run m n s (inl low) =
        let alone = run_stands m n (parent_from 0 rows m) (ap (is_member n) (sym (run_is rows m low)) ∙ s) in
        (rw (length-contents rows) (subst (λ (k : ℕ). k < length rows) alone.1 low), parent_is rows order n ∙ (ap (parent_from 0 rows) (sym alone.1) ∙ alone.0), ap (run_of (forest_of_rows rows)) (sym alone.1))
    in_run m n s (inr high) = absurd (true≢false (sym s ∙ ap (is_member n) (run_past rows m high)))

    children_once : (p : ℕ) → (p < length rows) ⊎ (length rows ≤ p) → IsDistinct (children_of (forest_of_rows rows) p)
    children_once p (inl low) = subst IsDistinct (sym (children_is rows p low)) (children_distinct 0 rows p)
    children_once p (inr high) = subst IsDistinct (sym (children_past rows p high)) tt

    run_once : (n : ℕ) → (n < length rows) ⊎ (length rows ≤ n) → IsDistinct (run_of (forest_of_rows rows) n)
    run_once n (inl low) = subst IsDistinct (sym (run_is rows n low)) (run_distinct n (parent_from 0 rows n))
    run_once n (inr high) = subst IsDistinct (sym (run_past rows n high)) tt

    no_run : (p n : ℕ) → parent_from 0 rows n ≡ Some p → run_of (forest_of_rows rows) n ≡ []
    no_run p n e = run_is rows n (has_parent rows n p e).within ∙ ap (run_among n) e

-- ---- a forest

-- a row of a number that is read
content_row : (rows : List Row) (n : ℕ) (content : NodeData) → slice_get (contents_of_rows rows) n ≡ Some content → (row : Row) × (slice_get rows n ≡ Some row) × (row.content ≡ content)
content_row [] n content e = absurd (cc)
content_row (row ∷ rows) zero content e = (row, refl, cc)
content_row (row ∷ rows) (suc n) content e = content_row rows n content e

-- the contents of an element come right after it, and are a fragment
held_next : (rows : List Row) → AreInOrder (contents_of_rows rows) 0 rows → (n c : ℕ) → contents_at (forest_of_rows rows) n ≡ Some c →
    (c ≡ n + 1) × (option_map_or is_fragment (slice_get (contents_of_rows rows) c) false ≡ true)
held_next rows order n c held = by_content (slice_get (contents_of_rows rows) n) refl
  where
    by_content : (o : Option NodeData) → slice_get (contents_of_rows rows) n ≡ o → (c ≡ n + 1) × (option_map_or is_fragment (slice_get (contents_of_rows rows) c) false ≡ true)
    by_content None read = absurd (none_some (ap (λ o. Rattle.std.specs.Prelude.option_and_then contents_named o) (sym read) ∙ held))
      where
        none_some : None ≡ Some c → ⊥
        none_some e = cc
    by_content (Some content) read =
        let row = content_row rows n content read in
        let zero-n : 0 + n ≡ n = omega arith in
        let named : contents_named row.0.content ≡ Some c = ap contents_named row.2 ∙ (ap (λ o. Rattle.std.specs.Prelude.option_and_then contents_named o) (sym read) ∙ held) in
        let good = (order_at (contents_of_rows rows) 0 n rows row.0 order row.1).holds c named in
        (omega (arith, good.0), good.1)

-- a step goes to a greater number
step_up : (rows : List Row) → AreInOrder (contents_of_rows rows) 0 rows → (m n : ℕ) → IsParentOrHost (forest_of_rows rows) m n → m < n
step_up rows order m n (inl up) = parent_below rows order n m (sym (parent_is rows order n) ∙ up)
step_up rows order m n (inr held) = omega (arith, (held_next rows order m n held).0)

pub reach_up : (rows : List Row) → AreInOrder (contents_of_rows rows) 0 rows → (m n : ℕ) → IsHostAncestor (forest_of_rows rows) m n → m < n
reach_up rows order m n (one_step _ _ s) = step_up rows order m n s
reach_up rows order m n (then_step _ k _ r s) =
    let first = reach_up rows order m k r in
    let last = step_up rows order k n s in
    omega (arith, first, last)

-- a document or a fragment has no parent, nor has the root
top_alone : (rows : List Row) → AreInOrder (contents_of_rows rows) 0 rows → (n : ℕ) → n < length rows → stays (forest_of_rows rows) n ≡ true → parent_from 0 rows n ≡ None
top_alone rows order n h stay = elim (cases_parent (parent_from 0 rows n)) [
  | inl none ↦ none
  | inr some ↦
      let row = row_at rows n h in
      let zero-n : 0 + n ≡ n = omega arith in
      let good = order_at (contents_of_rows rows) 0 n rows row.0 order row.1 in
      let up : row.0.parent ≡ Some some.0 = sym (parent_at 0 n rows row.0 row.1) ∙ (ap (parent_from 0 rows) zero-n ∙ some.1) in
      let read = content_at rows n row.0 row.1 in
      let below = (good.below some.0 up).0 in
      absurd (elim (cases_Bool (n == 0)) [
        | inl root ↦ (let is : n ≡ 0 = eqb-true n 0 root in omega (arith, below, is))
        | inr other ↦
            (let top : is_top row.0.content ≡ true = ap (λ o. option_map_or is_top o false) (sym read) ∙ (rw other at stay) in
            none_some (sym (good.top top) ∙ up))
      ])
]
  where
    none_some : {p : ℕ} → None ≡ Some p → ⊥
    none_some e = cc

pub rows_forest : (rows : List Row) → 0 < length rows → AreInOrder (contents_of_rows rows) 0 rows → IsForest (forest_of_rows rows)
rows_forest rows some order =
    let many = length-contents rows in
    record {
      once = rows_once rows order;
      rooted = subst (λ (k : ℕ). 0 < k) (sym many) some;
      alone = λ n h stay.
          (let within : n < length rows = subst (λ (k : ℕ). n < k) many h in
          let none = top_alone rows order n within stay in
          (parent_is rows order n ∙ none, run_is rows n within ∙ ap (run_among n) none));
      parents_allow = λ p n e.
          (let named = sym (parent_is rows order n) ∙ e in
          let has = has_parent rows n p named in
          ((order_at (contents_of_rows rows) 0 n rows has.row order has.is).below p has.names_it).1);
      contents_known = λ n c e. (let held = held_next rows order n c e in (λ z. omega (arith, held.0, z), held.1));
      contents_once = λ m n c e f. (let one = (held_next rows order m c e).0 in let two = (held_next rows order n c f).0 in omega (arith, one, two));
      acyclic = λ n r. (let less = reach_up rows order n n r in omega (arith, less));
    }
