-- A forest of rows with one row more is the forest with one child more.
use Rattle.std.proofs.Common.{ℕ, suc, ◌≡◌, ◌<◌, ◌+◌, Bool, true, false, cond, List, [], ◌∷◌, ◌++◌, Option, Some, None, refl, sym, ap, ◌∙◌, arith, add-zero, inl, inr, length, get_or}
use Rattle.std.specs.Prelude.{◌==◌}
use Rattle.std.proofs.lemmas.Bool.{cases_Bool, eqb-true, eqb-false, eq-eqb, ne_eqb}
use Rattle.std.proofs.lemmas.List.{length-map, map-append}
use Rattle.std.proofs.Math.ListN.{get_or-append}
use Rattle.dom_nodes.specs.declared.node_data.NodeData.{NodeData}
use Rattle.dom_links.specs.Forest.{Forest}
use Rattle.dom_links.specs.Growth.{with_node, with_child}
use Rattle.dom_links.specs.Lists.{map_from, names}
use Rattle.dom_links.specs.Moves.{children_with, run_with}
use Rattle.dom_links.specs.declared.gap.InsertionPoint.TheVariants.{EndOf as end_of}
use Rattle.dom_markup.specs.Numbered.{Row, children_among, run_among, forest_of_rows}

-- ---- lists made by place

map_from-append : {X Y : Type 0} (f : ℕ → X → Y) (i : ℕ) (xs ys : List X) → map_from i f (xs ++ ys) ≡ map_from i f xs ++ map_from (i + length xs) f ys
map_from-append f i [] ys = rw add-zero refl
map_from-append f i (x ∷ xs) ys =
    let sum : (i + 1) + length xs ≡ i + length (x ∷ xs) = omega arith in
    ap (λ t. f i x ∷ t) (map_from-append f (i + 1) xs ys ∙ ap (λ (k : ℕ). map_from (i + 1) f xs ++ map_from k f ys) sum)

map_from-map_from : {X Y Z : Type 0} (f : ℕ → X → Y) (g : ℕ → Y → Z) (i : ℕ) (xs : List X) → map_from i g (map_from i f xs) ≡ map_from i (λ k x. g k (f k x)) xs
map_from-map_from f g i [] = refl
map_from-map_from f g i (x ∷ xs) = ap (λ t. g i (f i x) ∷ t) (map_from-map_from f g (i + 1) xs)

map_from-same : {X Y : Type 0} (f g : ℕ → X → Y) (i : ℕ) (xs : List X) → ((k : ℕ) (x : X) → f k x ≡ g k x) → map_from i f xs ≡ map_from i g xs
map_from-same f g i [] same = refl
map_from-same f g i (x ∷ xs) same =
    ap (λ y. y ∷ map_from (i + 1) f xs) (same i x) ∙ ap (λ t. g i x ∷ t) (map_from-same f g (i + 1) xs same)

length-map_from : {X Y : Type 0} (f : ℕ → X → Y) (i : ℕ) (xs : List X) → length (map_from i f xs) ≡ length xs
length-map_from f i [] = refl
length-map_from f i (x ∷ xs) = ap suc (length-map_from f (i + 1) xs)

-- a function that gives each list back
map_from-itself : (f : ℕ → List ℕ → List ℕ) (i : ℕ) (xs : List (List ℕ)) → ((k : ℕ) → k < length xs → f (i + k) (get_or xs k []) ≡ get_or xs k []) → map_from i f xs ≡ xs
map_from-itself f i [] same = refl
map_from-itself f i (x ∷ xs) same =
    let here : f i x ≡ x = ap (λ (k : ℕ). f k x) (sym (add-zero i)) ∙ same 0 (omega arith) in
    let later : (k : ℕ) → k < length xs → f ((i + 1) + k) (get_or xs k []) ≡ get_or xs k [] = λ k h.
    (let sum : (i + 1) + k ≡ i + suc k = omega arith in ap (λ (m : ℕ). f m (get_or xs k [])) sum ∙ same (suc k) (omega arith)) in
    ap (λ y. y ∷ map_from (i + 1) f xs) here ∙ ap (λ t. x ∷ t) (map_from-itself f (i + 1) xs later)

-- ---- children

eq-swapped : (m n : ℕ) → (m == n) ≡ (n == m)
eq-swapped m n = elim (cases_Bool (m == n)) [
  | inl t ↦ t ∙ sym (eq-eqb n m (sym (eqb-true m n t)))
  | inr f ↦ f ∙ sym (ne_eqb n m (λ e. eqb-false m n f (sym e)))
]

put_in : (first last : Bool) (i : ℕ) (xs ys : List ℕ) →
    cond first (i ∷ cond last (xs ++ ys) xs) (cond last (xs ++ ys) xs) ≡ cond last (cond first (i ∷ xs) xs ++ ys) (cond first (i ∷ xs) xs)
put_in true true i xs ys = refl
put_in true false i xs ys = refl
put_in false true i xs ys = refl
put_in false false i xs ys = refl

abbrev pub child_row : ℕ → NodeData → Row
child_row p content = record { parent = Some p; content = content }

children_among-child : (p : ℕ) (content : NodeData) (q i : ℕ) (rows : List Row) →
    children_among i (rows ++ child_row p content ∷ []) q ≡ children_with (end_of p) ((i + length rows) ∷ []) q (children_among i rows q)
children_among-child p content q i [] = rw (eq-swapped p q, add-zero) refl
children_among-child p content q i (row ∷ rows) =
    let inner = children_among-child p content q (i + 1) rows in
    let sum : (i + 1) + length rows ≡ i + length (row ∷ rows) = omega arith in
    let children = children_among (i + 1) rows q in
    ap (λ (ks : List ℕ). cond (names row.parent q) (i ∷ ks) ks) (inner ∙ ap (λ (n : ℕ). cond (q == p) (children ++ n ∷ []) children) sum)
    ∙ put_in (names row.parent q) (q == p) i children ((i + length (row ∷ rows)) ∷ [])

-- the parent, if there is one, has a smaller number
abbrev pub IsSmaller : ℕ → Option ℕ → Type 0
IsSmaller n None = Unit {0}
IsSmaller n (Some p) = p < n

abbrev pub ParentsBelow : ℕ → List Row → Type 0
ParentsBelow n [] = Unit {0}
ParentsBelow n (row ∷ rows) = IsSmaller n row.parent × ParentsBelow n rows

names_not : (n : ℕ) (parent : Option ℕ) → IsSmaller n parent → names parent n ≡ false
names_not n None h = refl
names_not n (Some p) h = ne_eqb p n (λ e. omega (arith, e))

children_among-none : (n i : ℕ) (rows : List Row) → ParentsBelow n rows → children_among i rows n ≡ []
children_among-none n i [] h = refl
children_among-none n i (row ∷ rows) h = rw (names_not n row.parent h.0) (children_among-none n (i + 1) rows h.1)

children_more : (p n : ℕ) (content : NodeData) (rows : List Row) → length rows ≡ n → ParentsBelow n rows →
    map_from 0 (λ q row. children_among 0 (rows ++ child_row p content ∷ []) q) (rows ++ child_row p content ∷ [])
    ≡ map_from 0 (children_with (end_of p) (n ∷ [])) (map_from 0 (λ q row. children_among 0 rows q) rows ++ [] ∷ [])
children_more p n content rows long below =
    let row = child_row p content in
    let all : List Row = rows ++ row ∷ [] in
    let old : List (List ℕ) = map_from 0 (λ q r. children_among 0 rows q) rows in
    let each : (q : ℕ) (r : Row) → children_among 0 all q ≡ children_with (end_of p) (n ∷ []) q (children_among 0 rows q) = λ q r.
    children_among-child p content q 0 rows ∙ ap (λ (m : ℕ). cond (q == p) (children_among 0 rows q ++ m ∷ []) (children_among 0 rows q)) (omega (arith, long)) in
    let last : children_among 0 all (0 + length rows) ≡ children_with (end_of p) (n ∷ []) (0 + length old) [] =
    ap (children_among 0 all) (omega (arith, long)) ∙ each n row
    ∙ ap (λ (ks : List ℕ). children_with (end_of p) (n ∷ []) n ks) (children_among-none n 0 rows below)
    ∙ ap (λ (m : ℕ). children_with (end_of p) (n ∷ []) m []) (omega (arith, long, length-map_from (λ q r. children_among 0 rows q) 0 rows)) in
    map_from-append (λ q r. children_among 0 all q) 0 rows (row ∷ [])
    ∙ ap (λ (t : List (List ℕ)). t ++ children_among 0 all (0 + length rows) ∷ []) (map_from-same (λ q r. children_among 0 all q) (λ q r. children_with (end_of p) (n ∷ []) q (children_among 0 rows q)) 0 rows each
    ∙ sym (map_from-map_from (λ q r. children_among 0 rows q) (children_with (end_of p) (n ∷ [])) 0 rows))
    ∙ ap (λ (ks : List ℕ). map_from 0 (children_with (end_of p) (n ∷ [])) old ++ ks ∷ []) last
    ∙ sym (map_from-append (children_with (end_of p) (n ∷ [])) 0 old ([] ∷ []))

-- ---- runs

runs_more : (p n : ℕ) (forest : Forest) (old : List (List ℕ)) → forest.runs ≡ old ++ (n ∷ []) ∷ [] → length old ≡ n →
    map_from 0 (λ m run. run_with (end_of p) (n ∷ []) forest m) (old ++ (n ∷ []) ∷ []) ≡ old ++ [] ∷ []
runs_more p n forest old is long =
    let put_run : ℕ → List ℕ → List ℕ = λ m run. run_with (end_of p) (n ∷ []) forest m in
    let each : (k : ℕ) → k < length old → put_run (0 + k) (get_or old k []) ≡ get_or old k [] = λ k h. (
    let plain : 0 + k ≡ k = omega arith in
    let other : (n == k) ≡ false = ne_eqb n k (λ e. omega (arith, e)) in
    ap (λ (m : ℕ). put_run m (get_or old k [])) plain ∙ rw (other, is) (get_or-append old ((n ∷ []) ∷ []) [] k h)) in
    let there : put_run (0 + length old) (n ∷ []) ≡ [] =
    (let here : 0 + length old ≡ n = omega arith in ap (λ (m : ℕ). put_run m (n ∷ [])) here ∙ rw (eq-eqb n n refl) refl) in
    map_from-append put_run 0 old ((n ∷ []) ∷ [])
    ∙ ap (λ (t : List (List ℕ)). t ++ put_run (0 + length old) (n ∷ []) ∷ []) (map_from-itself put_run 0 old each)
    ∙ ap (λ (run : List ℕ). old ++ run ∷ []) there

-- ---- the forest

forest_same : (c c' : List NodeData) (k k' r r' : List (List ℕ)) → c ≡ c' → k ≡ k' → r ≡ r' →
    (let one : Forest = record { content = c; children = k; runs = r } in one) ≡ record { content = c'; children = k'; runs = r' }
forest_same c c' k k' r r' x y z = cc

pub forest_of_rows-child : (p : ℕ) (content : NodeData) (rows : List Row) → ParentsBelow (length rows) rows →
    forest_of_rows (rows ++ child_row p content ∷ []) ≡ with_child p content (forest_of_rows rows)
forest_of_rows-child p content rows below =
    let forest : Forest = forest_of_rows rows in
    let row = child_row p content in
    let n = length forest.content in
    let long : length rows ≡ n = sym (length-map rows (λ (r : Row). r.content)) in
    let old : List (List ℕ) = map_from 0 (λ m r. run_among m r.parent) rows in
    let old_long : length old ≡ n = length-map_from (λ m (r : Row). run_among m r.parent) 0 rows ∙ long in
    forest_same _ _ _ _ _ _
    (map-append (λ (r : Row). r.content) rows (row ∷ []))
    (children_more p n content rows long (rw (← long) below))
    (map_from-append (λ m (r : Row). run_among m r.parent) 0 rows (row ∷ []) ∙ sym (runs_more p n (with_node content forest) old refl old_long))

-- ---- a node more that stands alone

abbrev pub lone_row : NodeData → Row
lone_row content = record { parent = None; content = content }

children_among-lone : (content : NodeData) (q i : ℕ) (rows : List Row) → children_among i (rows ++ lone_row content ∷ []) q ≡ children_among i rows q
children_among-lone content q i [] = refl
children_among-lone content q i (row ∷ rows) = ap (λ (ks : List ℕ). cond (names row.parent q) (i ∷ ks) ks) (children_among-lone content q (i + 1) rows)

pub forest_of_rows-lone : (content : NodeData) (rows : List Row) → ParentsBelow (length rows) rows → forest_of_rows (rows ++ lone_row content ∷ []) ≡ with_node content (forest_of_rows rows)
forest_of_rows-lone content rows below =
    let forest : Forest = forest_of_rows rows in
    let row = lone_row content in
    let all : List Row = rows ++ row ∷ [] in
    let long : length rows ≡ length forest.content = sym (length-map rows (λ (r : Row). r.content)) in
    let last : children_among 0 all (0 + length rows) ≡ [] =
    children_among-lone content (0 + length rows) 0 rows ∙ ap (children_among 0 rows) (omega arith) ∙ children_among-none (length rows) 0 rows below in
    let children : map_from 0 (λ q r. children_among 0 all q) all ≡ map_from 0 (λ q r. children_among 0 rows q) rows ++ [] ∷ [] =
    map_from-append (λ q r. children_among 0 all q) 0 rows (row ∷ [])
    ∙ ap (λ (t : List (List ℕ)). t ++ children_among 0 all (0 + length rows) ∷ []) (map_from-same (λ q r. children_among 0 all q) (λ q r. children_among 0 rows q) 0 rows (λ q r. children_among-lone content q 0 rows))
    ∙ ap (λ (ks : List ℕ). map_from 0 (λ q (r : Row). children_among 0 rows q) rows ++ ks ∷ []) last in
    let place : 0 + length rows ≡ length forest.content = omega (arith, long) in
    forest_same _ _ _ _ _ _
    (map-append (λ (r : Row). r.content) rows (row ∷ []))
    children
    (map_from-append (λ m (r : Row). run_among m r.parent) 0 rows (row ∷ []) ∙ ap (λ (n : ℕ). map_from 0 (λ m (r : Row). run_among m r.parent) rows ++ (n ∷ []) ∷ []) place)
