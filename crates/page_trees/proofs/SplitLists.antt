-- Lists of numbers in which none stands twice, and lists of active formatting elements, around one of their elements.
use Rattle.std.proofs.Common.{◌≡◌, ℕ, ◌&&◌, ◌||◌, not, Bool, true, false, List, [], ◌∷◌, ◌++◌, filter, map, refl, sym, ap, ◌∙◌, true≢false, if◌then◌else◌}
use Rattle.std.specs.Prelude.{cond, nat_eq}
use Rattle.std.specs.List.{list_any}
use Rattle.std.proofs.lemmas.Bool.{eq-eqb}
use Rattle.standard_trees.specs.Formatting.{before_in, behind_in, bookmarked, is_entry, replaced_entry, replaced_node, stacked_below}
use Rattle.standard_trees.specs.GrowingTree.{Entry, Formatting, Marker, past}
use Rattle.standard_trees.specs.TreeStore.{is_member, without}
use Rattle.page_trees.specs.Listing.{lists_once}
use Rattle.page_trees.proofs.AgencyEnds.{turned_test}
use Rattle.page_trees.proofs.NamesAgree.{both}
use Rattle.page_trees.proofs.TakenOut.{none_without, opens_once}

-- ---- tests

pub not_true : (b : Bool) → not b ≡ true → b ≡ false
not_true true e = sym e
not_true false e = refl

pub neither : (a b : Bool) → (a || b) ≡ false → (a ≡ false) × (b ≡ false)
neither true b e = absurd (true≢false e)
neither false b e = (refl, e)

pub true_both : (a b : Bool) → a ≡ true → b ≡ true → (a && b) ≡ true
true_both true b e f = f
true_both false b e f = absurd (true≢false (sym e))

self_test : (n : ℕ) → nat_eq n n ≡ true
self_test n = eq-eqb n n refl

-- ---- numbers

-- where a number stands once
pub record IsOnce (n : ℕ) (front back : List ℕ) : Type 0 where
  pub before : is_member n front ≡ false
  pub behind : is_member n back ≡ false
  pub others : opens_once (front ++ back) ≡ true

any_joined : (n : ℕ) (xs ys : List ℕ) → is_member n (xs ++ ys) ≡ (is_member n xs || is_member n ys)
any_joined n [] ys = refl
any_joined n (x ∷ xs) ys = ap (λ b. nat_eq n x || b) (any_joined n xs ys) ∙ regroup (nat_eq n x) (is_member n xs) (is_member n ys)
  where
    regroup : (a b c : Bool) → (a || (b || c)) ≡ ((a || b) || c)
    regroup true b c = refl
    regroup false b c = refl

pub absent_in : (n : ℕ) (xs ys : List ℕ) → is_member n (xs ++ ys) ≡ false → (is_member n xs ≡ false) × (is_member n ys ≡ false)
absent_in n xs ys h = neither (is_member n xs) (is_member n ys) (sym (any_joined n xs ys) ∙ h)

pub absent_from : (n : ℕ) (xs ys : List ℕ) → is_member n xs ≡ false → is_member n ys ≡ false → is_member n (xs ++ ys) ≡ false
absent_from n xs ys h k = any_joined n xs ys ∙ ap (λ b. b || is_member n ys) h ∙ k

pub once_there : (n : ℕ) (front back : List ℕ) → opens_once (front ++ n ∷ back) ≡ true → IsOnce n front back
once_there n [] back h =
    let parts = both (not (is_member n back)) (opens_once back) h in
    record { before = refl; behind = not_true _ parts.0; others = parts.1 }
once_there n (m ∷ front) back h =
    let parts = both (not (is_member m (front ++ n ∷ back))) (opens_once (front ++ n ∷ back)) h in
    let more = once_there n front back parts.1 in
    let apart = absent_in m front (n ∷ back) (not_true _ parts.0) in
    let here = neither (nat_eq m n) (is_member m back) apart.1 in
    record {
      before = ap (λ b. b || is_member n front) (turned_test m n ∙ here.0) ∙ more.before;
      behind = more.behind;
      others = true_both (not (is_member m (front ++ back))) (opens_once (front ++ back)) (ap not (absent_from m front back apart.0 here.1)) more.others;
    }

-- another number takes its place
pub once_replaced : (n : ℕ) (front back : List ℕ) → is_member n front ≡ false → is_member n back ≡ false → opens_once (front ++ back) ≡ true → opens_once (front ++ n ∷ back) ≡ true
once_replaced n [] back h k once = true_both (not (is_member n back)) (opens_once back) (ap not k) once
once_replaced n (m ∷ front) back h k once =
    let parts = both (not (is_member m (front ++ back))) (opens_once (front ++ back)) once in
    let apart = absent_in m front back (not_true _ parts.0) in
    let here = neither (nat_eq n m) (is_member n front) h in
    true_both (not (is_member m (front ++ n ∷ back))) (opens_once (front ++ n ∷ back))
    (ap not (absent_from m front (n ∷ back) apart.0 (ap (λ b. b || is_member m back) (turned_test n m ∙ here.0) ∙ apart.1)))
    (once_replaced n front back here.1 k parts.1)

pub without_one : (n : ℕ) (front back : List ℕ) → is_member n front ≡ false → is_member n back ≡ false → without n (front ++ n ∷ back) ≡ front ++ back
without_one n [] back h k = ap (λ b. if not b then n ∷ without n back else without n back) (self_test n) ∙ none_without n back k
without_one n (m ∷ front) back h k =
    let here = neither (nat_eq n m) (is_member n front) h in
    ap (λ b. if not b then m ∷ without n (front ++ n ∷ back) else without n (front ++ n ∷ back)) (turned_test n m ∙ here.0)
    ∙ ap (λ (ns : List ℕ). m ∷ ns) (without_one n front back here.1 k)

none_replaced : (n new : ℕ) (ns : List ℕ) → is_member n ns ≡ false → map (replaced_node n new) ns ≡ ns
none_replaced n new [] h = refl
none_replaced n new (m ∷ ns) h =
    let here = neither (nat_eq n m) (is_member n ns) h in
    ap (λ b. cond b new m ∷ map (replaced_node n new) ns) (turned_test n m ∙ here.0) ∙ ap (λ (ks : List ℕ). m ∷ ks) (none_replaced n new ns here.1)

pub replaced_one : (n new : ℕ) (front back : List ℕ) → is_member n front ≡ false → is_member n back ≡ false → map (replaced_node n new) (front ++ n ∷ back) ≡ front ++ new ∷ back
replaced_one n new [] back h k = ap (λ b. cond b new n ∷ map (replaced_node n new) back) (self_test n) ∙ ap (λ (ks : List ℕ). new ∷ ks) (none_replaced n new back k)
replaced_one n new (m ∷ front) back h k =
    let here = neither (nat_eq n m) (is_member n front) h in
    ap (λ b. cond b new m ∷ map (replaced_node n new) (front ++ n ∷ back)) (turned_test n m ∙ here.0)
    ∙ ap (λ (ks : List ℕ). m ∷ ks) (replaced_one n new front back here.1 k)

abbrev by_first : Bool → List ℕ → List ℕ → List ℕ
by_first b x y = elim b [ true ↦ x | false ↦ y ]

pub before_one : (n : ℕ) (front back : List ℕ) → is_member n front ≡ false → before_in n (front ++ n ∷ back) ≡ front
before_one n [] back h = ap (λ b. by_first b [] (n ∷ before_in n back)) (self_test n)
before_one n (m ∷ front) back h =
    let here = neither (nat_eq n m) (is_member n front) h in
    ap (λ b. by_first b [] (m ∷ before_in n (front ++ n ∷ back))) (turned_test n m ∙ here.0) ∙ ap (λ (ks : List ℕ). m ∷ ks) (before_one n front back here.1)

pub behind_one : (n : ℕ) (front back : List ℕ) → is_member n front ≡ false → behind_in n (front ++ n ∷ back) ≡ back
behind_one n [] back h = ap (λ b. by_first b back (past (nat_eq n) back)) (self_test n)
behind_one n (m ∷ front) back h =
    let here = neither (nat_eq n m) (is_member n front) h in
    ap (λ b. by_first b (front ++ n ∷ back) (past (nat_eq n) (front ++ n ∷ back))) here.0 ∙ behind_one n front back here.1

pub stacked_one : (new n : ℕ) (front back : List ℕ) → is_member n front ≡ false → stacked_below new n (front ++ n ∷ back) ≡ front ++ new ∷ n ∷ back
stacked_one new n [] back h = ap (λ b. by_first b (new ∷ n ∷ back) (n ∷ stacked_below new n back)) (self_test n)
stacked_one new n (m ∷ front) back h =
    let here = neither (nat_eq n m) (is_member n front) h in
    ap (λ b. by_first b (new ∷ m ∷ front ++ n ∷ back) (m ∷ stacked_below new n (front ++ n ∷ back))) (turned_test n m ∙ here.0)
    ∙ ap (λ (ks : List ℕ). m ∷ ks) (stacked_one new n front back here.1)

-- ---- entries

abbrev pub lists : ℕ → List Entry → Bool
lists n es = list_any (is_entry n) es

pub record IsListedOnce (n : ℕ) (front back : List Entry) : Type 0 where
  pub before : lists n front ≡ false
  pub behind : lists n back ≡ false
  pub others : lists_once (front ++ back) ≡ true

listed_joined : (n : ℕ) (xs ys : List Entry) → lists n (xs ++ ys) ≡ (lists n xs || lists n ys)
listed_joined n [] ys = refl
listed_joined n (x ∷ xs) ys = ap (λ b. is_entry n x || b) (listed_joined n xs ys) ∙ regroup (is_entry n x) (lists n xs) (lists n ys)
  where
    regroup : (a b c : Bool) → (a || (b || c)) ≡ ((a || b) || c)
    regroup true b c = refl
    regroup false b c = refl

pub unlisted_in : (n : ℕ) (xs ys : List Entry) → lists n (xs ++ ys) ≡ false → (lists n xs ≡ false) × (lists n ys ≡ false)
unlisted_in n xs ys h = neither (lists n xs) (lists n ys) (sym (listed_joined n xs ys) ∙ h)

pub unlisted_from : (n : ℕ) (xs ys : List Entry) → lists n xs ≡ false → lists n ys ≡ false → lists n (xs ++ ys) ≡ false
unlisted_from n xs ys h k = listed_joined n xs ys ∙ ap (λ b. b || lists n ys) h ∙ k

pub listed_there : (n : ℕ) (front back : List Entry) → lists_once (front ++ Formatting n ∷ back) ≡ true → IsListedOnce n front back
listed_there n [] back h =
    let parts = both (not (lists n back)) (lists_once back) h in
    record { before = refl; behind = not_true _ parts.0; others = parts.1 }
listed_there n (Marker ∷ front) back h =
    let more = listed_there n front back h in
    record { before = more.before; behind = more.behind; others = more.others }
listed_there n (Formatting m ∷ front) back h =
    let parts = both (not (lists m (front ++ Formatting n ∷ back))) (lists_once (front ++ Formatting n ∷ back)) h in
    let more = listed_there n front back parts.1 in
    let apart = unlisted_in m front (Formatting n ∷ back) (not_true _ parts.0) in
    let here = neither (nat_eq n m) (lists m back) apart.1 in
    record {
      before = ap (λ b. b || lists n front) (turned_test n m ∙ here.0) ∙ more.before;
      behind = more.behind;
      others = true_both (not (lists m (front ++ back))) (lists_once (front ++ back)) (ap not (unlisted_from m front back apart.0 here.1)) more.others;
    }

pub listed_replaced : (n : ℕ) (front back : List Entry) → lists n front ≡ false → lists n back ≡ false → lists_once (front ++ back) ≡ true → lists_once (front ++ Formatting n ∷ back) ≡ true
listed_replaced n [] back h k once = true_both (not (lists n back)) (lists_once back) (ap not k) once
listed_replaced n (Marker ∷ front) back h k once = listed_replaced n front back h k once
listed_replaced n (Formatting m ∷ front) back h k once =
    let parts = both (not (lists m (front ++ back))) (lists_once (front ++ back)) once in
    let apart = unlisted_in m front back (not_true _ parts.0) in
    let here = neither (nat_eq m n) (lists n front) h in
    true_both (not (lists m (front ++ Formatting n ∷ back))) (lists_once (front ++ Formatting n ∷ back))
    (ap not (unlisted_from m front (Formatting n ∷ back) apart.0 (ap (λ b. b || lists m back) (turned_test m n ∙ here.0) ∙ apart.1)))
    (listed_replaced n front back here.1 k parts.1)

abbrev pub stays : ℕ → Entry → Bool
stays n entry = not (is_entry n entry)

pub none_unlisted : (n : ℕ) (es : List Entry) → lists n es ≡ false → filter (stays n) es ≡ es
none_unlisted n [] h = refl
none_unlisted n (e ∷ es) h =
    let here = neither (is_entry n e) (lists n es) h in
    ap (λ b. if not b then e ∷ filter (stays n) es else filter (stays n) es) here.0 ∙ ap (λ (xs : List Entry). e ∷ xs) (none_unlisted n es here.1)

pub unlisted_one : (n : ℕ) (front back : List Entry) → lists n front ≡ false → lists n back ≡ false → filter (stays n) (front ++ Formatting n ∷ back) ≡ front ++ back
unlisted_one n [] back h k = ap (λ b. if not b then Formatting n ∷ filter (stays n) back else filter (stays n) back) (self_test n) ∙ none_unlisted n back k
unlisted_one n (e ∷ front) back h k =
    let here = neither (is_entry n e) (lists n front) h in
    ap (λ b. if not b then e ∷ filter (stays n) (front ++ Formatting n ∷ back) else filter (stays n) (front ++ Formatting n ∷ back)) here.0
    ∙ ap (λ (xs : List Entry). e ∷ xs) (unlisted_one n front back here.1 k)

kept_entry : (n new : ℕ) (e : Entry) → is_entry n e ≡ false → replaced_entry n new e ≡ e
kept_entry n new Marker h = refl
kept_entry n new (Formatting m) h = ap (λ b. cond b (Formatting new) (Formatting m)) h

none_exchanged : (n new : ℕ) (es : List Entry) → lists n es ≡ false → map (replaced_entry n new) es ≡ es
none_exchanged n new [] h = refl
none_exchanged n new (e ∷ es) h =
    let here = neither (is_entry n e) (lists n es) h in
    ap (λ (x : Entry). x ∷ map (replaced_entry n new) es) (kept_entry n new e here.0) ∙ ap (λ (xs : List Entry). e ∷ xs) (none_exchanged n new es here.1)

pub exchanged_one : (n new : ℕ) (front back : List Entry) → lists n front ≡ false → lists n back ≡ false → map (replaced_entry n new) (front ++ Formatting n ∷ back) ≡ front ++ Formatting new ∷ back
exchanged_one n new [] back h k =
    ap (λ b. cond b (Formatting new) (Formatting n) ∷ map (replaced_entry n new) back) (self_test n) ∙ ap (λ (xs : List Entry). Formatting new ∷ xs) (none_exchanged n new back k)
exchanged_one n new (e ∷ front) back h k =
    let here = neither (is_entry n e) (lists n front) h in
    ap (λ (x : Entry). x ∷ map (replaced_entry n new) (front ++ Formatting n ∷ back)) (kept_entry n new e here.0)
    ∙ ap (λ (xs : List Entry). e ∷ xs) (exchanged_one n new front back here.1 k)

abbrev by_entry : Bool → List Entry → List Entry → List Entry
by_entry b x y = elim b [ true ↦ x | false ↦ y ]

pub bookmarked_one : (new n : ℕ) (front back : List Entry) → lists n front ≡ false → bookmarked new n (front ++ Formatting n ∷ back) ≡ front ++ Formatting new ∷ Formatting n ∷ back
bookmarked_one new n [] back h = ap (λ b. by_entry b (Formatting new ∷ Formatting n ∷ back) (Formatting n ∷ bookmarked new n back)) (self_test n)
bookmarked_one new n (e ∷ front) back h =
    let here = neither (is_entry n e) (lists n front) h in
    ap (λ b. by_entry b (Formatting new ∷ e ∷ front ++ Formatting n ∷ back) (e ∷ bookmarked new n (front ++ Formatting n ∷ back))) here.0
    ∙ ap (λ (xs : List Entry). e ∷ xs) (bookmarked_one new n front back here.1)
