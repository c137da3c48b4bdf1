-- Rows of flags, one for each node by its number.
use Rattle.std.proofs.Common.{◌≡◌, ◌≢◌, ◌<◌, ◌≤◌, ◌+◌, ◌*◌, ◌-◌, ℕ, zero, suc, List, [], ◌∷◌, ◌++◌, Bool, true, false, true≢false, Option, Some, None, inl, inr, refl, sym, ap, ◌∙◌, subst, length, slice_get, set, take, drop, replicate, append_assoc, arith}
use Rattle.std.specs.Prelude.{slice_index_or, slice_range}
use Rattle.std.proofs.Math.Nat.{add-mul, mul-le-mul_right}
use Rattle.std.proofs.lemmas.Bool.{cases_lt}
use Rattle.std.proofs.lemmas.List.{get_or-drop, get_or-replicate, get_or-set_other, get_or-set_same, get_or-take, get_or_past, length-drop, length-map, length-replicate, length-set, length-take-le}
use Rattle.std.proofs.lemmas.Option.{none-some, same_Some, slice_get_past, slice_get_within}
use Rattle.dom_links.specs.Forest.{Forest}
use Rattle.dom_links.specs.Laws.{AreLines}
use Rattle.dom_links.specs.Sound.{IsForest}
use Rattle.dom_links.specs.Walk.{IsWithin}
use Rattle.dom_links.specs.Lists.{first as first_of}
use Rattle.dom_links.proofs.forest.Depth.{parent_inside}
use Rattle.dom_select.specs.Leftward.{left_of}
use Rattle.dom_select.proofs.ReachLemmas.{line_none, line_some}
use Rattle.dom_selectors.specs.declared.syntax.Combinator.{Combinator}
use Rattle.dom_selectors.specs.declared.syntax.Combinator.TheVariants.{Descendant, Child, Adjacent, Sibling}
use Rattle.dom_selectors.specs.Spelling.{Decides}
use Rattle.dom_selectors.specs.Syntax.{CompoundSelector}
use Rattle.dom_selectors.specs.ValuesAsTrees.{read_step}
use Rattle.dom_index.specs.declared.chains.Chain.{Chain}
use Rattle.dom_index.specs.declared.streaming.Rows.{Rows}
use Rattle.dom_index.specs.FlagRows.{AreFlags, PropagatesFrom, StepsReach}
use Rattle.dom_index.specs.NodeSets.{in_set}
use Rattle.dom_index.specs.Tracks.{FlagsRight, IsFilledAt, IsOnWay, IsRow, IsStepFlag, IsStepFlagAt, IsTracked, first_in, left_in, line_in, steps_in}
use Rattle.dom_index.proofs.PlaceLemmas.{same_or_not}

module _ (forest : Forest) (first : CompoundSelector) (steps : List (Combinator × CompoundSelector)) where
  -- without a node to the left no step is reached
  pub flags_none : (flags : List Bool) → flags ≡ replicate (length steps) false → AreFlags forest first steps None flags
  flags_none flags is = record {
    long = ap length is ∙ length-replicate (length steps) false;
    each = λ j s at.
        let off : slice_index_or flags j false ≡ false = ap (λ (bs : List Bool). slice_index_or bs j false) is ∙ get_or-replicate (length steps) j false false (slice_get_within steps j s at) in
        subst (λ b. Decides b (PropagatesFrom forest s.0 (StepsReach forest first (take j steps)) None)) (sym off) (λ h. h);
  }

-- rows of one length stand one after the other
pub row_end : (n m w : ℕ) → n < m → n * w + w ≤ m * w
row_end n m w known =
    let step : n + 1 ≤ m = omega (arith, known) in
    let all = mul-le-mul_right w step in
    let sum = add-mul n 1 w in
    omega (arith, all, sum)

pub row_inside : (n m w j : ℕ) → n < m → j < w → n * w + j < m * w
row_inside n m w j known within = let end = row_end n m w known in omega (arith, end, within)

rows_apart : (n p w i j : ℕ) → n ≢ p → i < w → j < w → n * w + i ≢ p * w + j
rows_apart n p w i j other one within same = elim (cases_lt n p) [
  | inl less ↦ (let end = row_end n p w less in omega (arith, end, one, same))
  | inr past ↦ elim (cases_lt p n) [
    | inl less ↦ (let end = row_end p n w less in omega (arith, end, within, same))
    | inr back ↦ other (omega (arith, past, back))
  ]
]

-- no row is filled at first
pub none_filled : (m : ℕ) (filled : List Bool) → filled ≡ replicate m false → (n : ℕ) → in_set filled n ≡ true → ⊥
none_filled m filled is n on = elim (cases_lt n m) [
  | inl known ↦ true≢false (sym on ∙ (ap (λ (bs : List Bool). in_set bs n) is ∙ get_or-replicate m n false false known))
  | inr past ↦ (let long = ap length is ∙ length-replicate m false in true≢false (sym on ∙ get_or_past filled n false (omega (arith, long, past))))
]

module _ (chain : Chain) (forest : Forest) where
  -- the number of a step
  step_within : (j : ℕ) (s : Combinator × CompoundSelector) → slice_get (steps_in chain) j ≡ Some s → j < length chain.steps.now
  step_within j s at = let inside = slice_get_within (steps_in chain) j s at in let long = length-map chain.steps.now read_step in omega (arith, inside, long)

  -- the row of n, as it is read
  pub row_read : (n : ℕ) (flags : List Bool) → n < length forest.content → length flags ≡ length forest.content * length chain.steps.now → IsRow chain forest n flags →
      FlagsRight chain forest (Some n) (slice_range flags (n * length chain.steps.now) (n * length chain.steps.now + length chain.steps.now))
  row_read n flags known long row =
      let w = length chain.steps.now in
      let start = n * w in
      let end = row_end n (length forest.content) w known in
      let cut : start + w - start ≡ w = omega arith in
      let room : w ≤ length (drop start flags) = let left = length-drop start flags in omega (arith, left, long, end) in
      record {
        long = ap (λ k. length (take k (drop start flags))) cut ∙ (length-take-le w (drop start flags) room ∙ sym (length-map chain.steps.now read_step));
        each = λ j s at.
            let within = step_within j s at in
            let read : slice_index_or (slice_range flags start (start + w)) j false ≡ slice_index_or flags (start + j) false =
            ap (λ k. slice_index_or (take k (drop start flags)) j false) cut ∙ (get_or-take w (drop start flags) j false within ∙ get_or-drop start flags j false) in
            subst (λ b. Decides b (PropagatesFrom forest s.0 (StepsReach forest (first_in chain) (take j (steps_in chain))) (Some n))) (sym read) (row j s at);
      }

  -- the first flags of a row
  abbrev pub IsRowTo : ℕ → List Bool → ℕ → Type 0
  IsRowTo n flags i = (j : ℕ) → j < i → IsStepFlagAt chain forest n flags j

  -- one flag more
  pub row_more : (n i : ℕ) (flags : List Bool) (b : Bool) → n < length forest.content → length flags ≡ length forest.content * length chain.steps.now → i < length chain.steps.now →
      IsRowTo n flags i → IsStepFlag chain forest n i b → IsRowTo n (set flags (n * length chain.steps.now + i) b) (i + 1)
  row_more n i flags b known long within so_far here j below = elim (same_or_not j i) [
    | inl same ↦
        let inside : n * length chain.steps.now + i < length flags = let at = row_inside n (length forest.content) (length chain.steps.now) i known within in omega (arith, at, long) in
        let read : slice_index_or (set flags (n * length chain.steps.now + i) b) (n * length chain.steps.now + j) false ≡ b = ap (λ k. slice_index_or (set flags (n * length chain.steps.now + i) b) (n * length chain.steps.now + k) false) same ∙ get_or-set_same flags (n * length chain.steps.now + i) b false inside in
        subst (IsStepFlag chain forest n j) (sym read) (subst (λ k. IsStepFlag chain forest n k b) (sym same) here)
    | inr other ↦
        let apart : n * length chain.steps.now + j ≢ n * length chain.steps.now + i = λ e. other (omega (arith, e)) in
        let less : j < i = omega (arith, below, other) in
        subst (IsStepFlag chain forest n j) (sym (get_or-set_other flags (n * length chain.steps.now + i) (n * length chain.steps.now + j) b false apart)) (so_far j less)
  ]

  -- a flag of a row that isn't filled is written
  pub rows_written : (rows later : Rows) (n i : ℕ) (b : Bool) → IsTracked chain forest rows → in_set rows.filled.items n ≡ false → i < length chain.steps.now → later.none.items ≡ rows.none.items → later.filled.items ≡ rows.filled.items →
      later.flags.items ≡ set rows.flags.items (n * length chain.steps.now + i) b → IsTracked chain forest later
  rows_written rows later n i b tracked off within none filled written = record {
    none = subst (FlagsRight chain forest None) (sym none) tracked.none;
    long = ap length written ∙ (length-set rows.flags.items (n * length chain.steps.now + i) b ∙ tracked.long);
    count = ap length filled ∙ tracked.count;
    rows_are = λ p on j s at.
        let was : in_set rows.filled.items p ≡ true = ap (λ (bs : List Bool). in_set bs p) (sym filled) ∙ on in
        let other : p ≢ n = λ e. true≢false (sym was ∙ (ap (in_set rows.filled.items) e ∙ off)) in
        let apart = rows_apart p n (length chain.steps.now) j i other (step_within j s at) within in
        let read : slice_index_or later.flags.items (p * length chain.steps.now + j) false ≡ slice_index_or rows.flags.items (p * length chain.steps.now + j) false =
        ap (λ (bs : List Bool). slice_index_or bs (p * length chain.steps.now + j) false) written ∙ get_or-set_other rows.flags.items (n * length chain.steps.now + i) (p * length chain.steps.now + j) b false apart in
        subst (IsStepFlag chain forest p j) (sym read) (tracked.rows_are p was j) s at;
  }

  -- a row is filled
  pub rows_filled : (rows later : Rows) (n : ℕ) → IsTracked chain forest rows → IsRowTo n rows.flags.items (length chain.steps.now) → later.none.items ≡ rows.none.items → later.flags.items ≡ rows.flags.items →
      later.filled.items ≡ set rows.filled.items n true → IsTracked chain forest later
  rows_filled rows later n tracked full none flags written = record {
    none = subst (FlagsRight chain forest None) (sym none) tracked.none;
    long = ap length flags ∙ tracked.long;
    count = ap length written ∙ (length-set rows.filled.items n true ∙ tracked.count);
    rows_are = λ p on. elim (same_or_not p n) [
      | inl same ↦ subst (λ (k : ℕ). IsRow chain forest k later.flags.items) (sym same) (subst (IsRow chain forest n) (sym flags) (λ j s at. full j (step_within j s at) s at))
      | inr other ↦ subst (IsRow chain forest p) (sym flags) (tracked.rows_are p (sym (get_or-set_other rows.filled.items n p true false other) ∙ (ap (λ (bs : List Bool). in_set bs p) (sym written) ∙ on)))
    ];
  }

get_seam : (xs : List ℕ) (a : ℕ) (rest : List ℕ) → slice_get (xs ++ a ∷ rest) (length xs) ≡ Some a
get_seam [] a rest = refl
get_seam (x ∷ xs) a rest = get_seam xs a rest

get_past_seam : (xs : List ℕ) (a : ℕ) (rest : List ℕ) → slice_get (xs ++ a ∷ rest) (suc (length xs)) ≡ slice_get rest 0
get_past_seam [] a rest = refl
get_past_seam (x ∷ xs) a rest = get_past_seam xs a rest

nothing_at : (j a : ℕ) → slice_get [] j ≡ Some a → ⊥
nothing_at j a is = none-some a (sym (slice_get_past [] j (omega arith)) ∙ is)

first_read : (ns : List ℕ) → slice_get ns 0 ≡ first_of ns
first_read [] = slice_get_past [] 0 (omega arith)
first_read (n ∷ ns) = refl

-- the next node to the left is a node of the forest
pub left_inside : (forest : Forest) → IsForest forest → AreLines forest → (k : Combinator) (n m : ℕ) → left_of forest k n ≡ Some m → m < length forest.content
left_inside forest good lines Descendant n m is = parent_inside forest n m good is
left_inside forest good lines Child n m is = parent_inside forest n m good is
left_inside forest good lines Adjacent n m is = subst (IsWithin forest) is (lines.beside_known true n)
left_inside forest good lines Sibling n m is = subst (IsWithin forest) is (lines.beside_known true n)

-- what stands at a place among the nodes to the left, and what stands next to it
module _ (chain : Chain) (forest : Forest) (good : IsForest forest) (lines : AreLines forest) where
  first_left : (m : ℕ) (o : Option ℕ) → left_in chain forest m ≡ o → o ≡ slice_get (line_in chain forest m) 0
  first_left m None e = sym (ap (λ (ns : List ℕ). slice_get ns 0) (line_none forest chain.way m lines e))
  first_left m (Some p) e = sym (ap (λ (ns : List ℕ). slice_get ns 0) (line_some forest chain.way m p lines e))

  left_on_line : (m : ℕ) → left_in chain forest m ≡ slice_get (line_in chain forest m) 0
  left_on_line m = first_left m (left_in chain forest m) refl

  line_goes : (n m : ℕ) (ms : List ℕ) (o : Option ℕ) → left_in chain forest n ≡ o → line_in chain forest n ≡ m ∷ ms → (left_in chain forest n ≡ Some m) × (line_in chain forest m ≡ ms)
  line_goes n m ms None e is = let none = line_none forest chain.way n lines e in cc
  line_goes n m ms (Some p) e is =
      let whole : p ∷ line_in chain forest p ≡ m ∷ ms = sym (line_some forest chain.way n p lines e) ∙ is in
      let same : p ≡ m = cc in
      let rest : line_in chain forest p ≡ ms = cc in
      (e ∙ ap (λ q. Some q) same, ap (line_in chain forest) (sym same) ∙ rest)

  line_at : (ns : List ℕ) (n : ℕ) → line_in chain forest n ≡ ns → (j a : ℕ) → slice_get ns j ≡ Some a → (a < length forest.content) × (left_in chain forest a ≡ slice_get ns (suc j))
  line_at [] n e j a is = absurd (nothing_at j a is)
  line_at (m ∷ ms) n e zero a is =
      let goes = line_goes n m ms (left_in chain forest n) refl e in
      let same : m ≡ a = same_Some m a is in
      (subst (λ (k : ℕ). k < length forest.content) same (left_inside forest good lines chain.way n m goes.0), ap (left_in chain forest) (sym same) ∙ (left_on_line m ∙ ap (λ (ks : List ℕ). slice_get ks 0) goes.1))
  line_at (m ∷ ms) n e (suc j) a is = line_at ms m (line_goes n m ms (left_in chain forest n) refl e).1 j a is

  -- what stands after some of them
  line_after : (n a : ℕ) (xs rest : List ℕ) → line_in chain forest n ≡ xs ++ a ∷ rest → (a < length forest.content) × (left_in chain forest a ≡ first_of rest)
  line_after n a xs rest whole =
      let here : slice_get (line_in chain forest n) (length xs) ≡ Some a = ap (λ (ns : List ℕ). slice_get ns (length xs)) whole ∙ get_seam xs a rest in
      let both = line_at (line_in chain forest n) n refl (length xs) a here in
      let next : slice_get (line_in chain forest n) (suc (length xs)) ≡ first_of rest = ap (λ (ns : List ℕ). slice_get ns (suc (length xs))) whole ∙ (get_past_seam xs a rest ∙ first_read rest) in
      (both.0, both.1 ∙ next)

  -- the last of the missing nodes comes next, and then the others are missing
  module _ (n a : ℕ) (filled : List Bool) (missing left : List ℕ) (way : IsOnWay chain forest n filled missing) (is : missing ≡ left ++ a ∷ []) where
    whole_after : line_in chain forest n ≡ left ++ a ∷ way.0
    whole_after = way.1 ∙ (ap (λ (ns : List ℕ). ns ++ way.0) is ∙ append_assoc left (a ∷ []) way.0)

    pub way_known : a < length forest.content
    way_known = (line_after n a left way.0 whole_after).0

    pub way_left : IsFilledAt filled (left_in chain forest a)
    way_left = subst (IsFilledAt filled) (sym (line_after n a left way.0 whole_after).1) way.2

    pub way_more : (later : List Bool) → in_set later a ≡ true → IsOnWay chain forest n later left
    way_more later here = (a ∷ way.0, whole_after, here)

  -- none is missing
  pub way_whole : (n : ℕ) (filled : List Bool) (missing : List ℕ) → IsOnWay chain forest n filled missing → missing ≡ [] → IsFilledAt filled (left_in chain forest n)
  way_whole n filled missing way none =
      let whole : line_in chain forest n ≡ way.0 = way.1 ∙ ap (λ (ns : List ℕ). ns ++ way.0) none in
      subst (IsFilledAt filled) (ap first_of (sym whole) ∙ (sym (first_read (line_in chain forest n)) ∙ sym (left_on_line n))) way.2

  -- a search of the way: what is left of it, and where it ends
  module _ (n at : ℕ) (filled : List Bool) (missing : List ℕ) (whole : line_in chain forest n ≡ missing ++ line_in chain forest at) where
    pub search_found : (m : ℕ) → left_in chain forest at ≡ Some m → in_set filled m ≡ true → IsOnWay chain forest n filled missing
    search_found m is on = (line_in chain forest at, whole, subst (λ (ns : List ℕ). IsFilledAt filled (first_of ns)) (sym (line_some forest chain.way at m lines is)) on)

    pub search_ends : left_in chain forest at ≡ None → IsOnWay chain forest n filled missing
    search_ends none = (line_in chain forest at, whole, subst (λ (ns : List ℕ). IsFilledAt filled (first_of ns)) (sym (line_none forest chain.way at lines none)) tt)

    pub search_more : (m : ℕ) (later : List ℕ) → left_in chain forest at ≡ Some m → later ≡ missing ++ m ∷ [] → line_in chain forest n ≡ later ++ line_in chain forest m
    search_more m later is more = whole ∙ (ap (λ (ns : List ℕ). missing ++ ns) (line_some forest chain.way at m lines is) ∙ (sym (append_assoc missing (m ∷ []) (line_in chain forest m)) ∙ ap (λ (ns : List ℕ). ns ++ line_in chain forest m) (sym more)))

  pub search_shorter : (at m : ℕ) → left_in chain forest at ≡ Some m → length (line_in chain forest m) < length (line_in chain forest at)
  search_shorter at m is = let long = ap length (line_some forest chain.way at m lines is) in omega arith
