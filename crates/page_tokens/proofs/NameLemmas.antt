-- The names that begin with a text stand side by side, and so do those of them with one next character.
use Rattle.std.proofs.Common.{◌≡◌, ℕ, zero, suc, ◌+◌, ◌<◌, ◌≤◌, ◌⊎◌, ◌↔◌, true, List, [], ◌∷◌, ◌++◌, take, length, refl, sym, ap, ap₂, subst, ◌∙◌, arith, inl, inr, length-take-le, take_all, le_of_suc-le-suc, suc-le-suc, zero-le, le_refl, le_of_eq, le_trans, lt_of_le_of_lt, lt_of_lt_of_le, nat_lt}
use Rattle.std.proofs.Common.{nat_le, false, get_or, leb-true, leb-false, le-leb, ltb-true, zero-lt-suc}
use Rattle.std.proofs.lemmas.Bool.{cases_lt, and_parts}
use Rattle.std.proofs.lemmas.Bool.Decides.{nat_tests}
use Rattle.std.proofs.lemmas.List.{length_push}
use Rattle.page_tokens.specs.NameTable.{name_at, rank_at, IsFrontOf, AreNames, ArePartedAt}
use Rattle.page_tokens.specs.NamedReferences.{BeginsNoName, IsNoName}
use Rattle.page_tokens.proofs.SortedNames.{rises, rises-later, are_bytes, name_at-rises, name_at-bytes}

-- ---- fronts and the character behind them

pub front-more : (read text : List ℕ) (b : ℕ) → IsFrontOf (read ++ b ∷ []) text → IsFrontOf read text × (rank_at (length read) text ≡ suc b)
front-more [] [] b h = cc
front-more [] (x ∷ xs) b h = let same : x ≡ b = cc in (refl, ap suc same)
front-more (r ∷ read) [] b h = cc
front-more (r ∷ read) (x ∷ xs) b h =
    let first : x ≡ r = cc in
    let later : IsFrontOf (read ++ b ∷ []) xs = cc in
    let rest = front-more read xs b later in
    (ap₂ (λ (y : ℕ) (ys : List ℕ). y ∷ ys) first rest.0, rest.1)

pub more-front : (read text : List ℕ) (b : ℕ) → IsFrontOf read text → rank_at (length read) text ≡ suc b → IsFrontOf (read ++ b ∷ []) text
more-front [] [] b h rank = absurd (omega arith)
more-front [] (x ∷ xs) b h rank = let same : x ≡ b = omega arith in ap (λ (y : ℕ). y ∷ []) same
more-front (r ∷ read) [] b h rank = cc
more-front (r ∷ read) (x ∷ xs) b h rank =
    let first : x ≡ r = cc in
    let later : IsFrontOf read xs = cc in
    ap₂ (λ (y : ℕ) (ys : List ℕ). y ∷ ys) first (more-front read xs b later rank)

front-rises : (read a b : List ℕ) → IsFrontOf read a → IsFrontOf read b → rises a b ≡ true → rank_at (length read) a ≤ rank_at (length read) b
unfolding rises
front-rises [] [] b h k sorted = zero-le
front-rises [] (x ∷ xs) [] h k sorted = cc
front-rises [] (x ∷ xs) (y ∷ ys) h k sorted =
    elim (rises-later x y xs ys sorted) [
      | inl less ↦ suc-le-suc (omega arith)
      | inr same ↦ suc-le-suc (omega arith)
    ]
front-rises (r ∷ read) [] b h k sorted = cc
front-rises (r ∷ read) (x ∷ xs) [] h k sorted = cc
front-rises (r ∷ read) (x ∷ xs) (y ∷ ys) h k sorted =
    let first : x ≡ r = cc in
    let second : y ≡ r = cc in
    let later : IsFrontOf read xs = cc in
    let other : IsFrontOf read ys = cc in
    elim (rises-later x y xs ys sorted) [
      | inl less ↦ absurd (omega arith)
      | inr same ↦ front-rises read xs ys later other same.1
    ]

pub rank-within : (place : ℕ) (text : List ℕ) → 0 < rank_at place text → place < length text
rank-within place [] h = absurd (omega arith)
rank-within zero (x ∷ xs) h = zero-lt-suc _
rank-within (suc place) (x ∷ xs) h = suc-le-suc (rank-within place xs h)

rank-some : (place : ℕ) (text : List ℕ) → place < length text → 0 < rank_at place text
rank-some place [] h = absurd (omega arith)
rank-some zero (x ∷ xs) h = zero-lt-suc _
rank-some (suc place) (x ∷ xs) h = rank-some place xs (le_of_suc-le-suc h)

pub rank-past : (place : ℕ) (text : List ℕ) → length text ≤ place → rank_at place text ≡ 0
rank-past place [] h = refl
rank-past zero (x ∷ xs) h = absurd (omega arith)
rank-past (suc place) (x ∷ xs) h = rank-past place xs (le_of_suc-le-suc h)

rank-inside : (place : ℕ) (text : List ℕ) → place < length text → rank_at place text ≡ suc (get_or text place 0)
rank-inside place [] h = absurd (omega arith)
rank-inside zero (x ∷ xs) h = refl
rank-inside (suc place) (x ∷ xs) h = rank-inside place xs (le_of_suc-le-suc h)

lt-is_le : (a b : ℕ) → nat_lt a b ≡ nat_le (suc a) b
lt-is_le a b = grind (arith, nat_tests)

pub below_inside : (place letter c : ℕ) (text name : List ℕ) → text ≡ name → place < length text → c ≡ get_or text place 0 → nat_lt c letter ≡ nat_le (rank_at place name) letter
below_inside place letter c text name same within is =
    lt-is_le c letter ∙ ap (λ n. nat_le n letter) (ap suc is ∙ sym (rank-inside place text within) ∙ ap (rank_at place) same)

pub below_past : (place letter : ℕ) (text name : List ℕ) → text ≡ name → length text ≤ place → true ≡ nat_le (rank_at place name) letter
below_past place letter text name same past =
    sym (le-leb 0 letter zero-le) ∙ ap (λ n. nat_le n letter) (sym (rank-past place text past) ∙ ap (rank_at place) same)

-- ---- the names that begin with what was read

length-read : (low high place : ℕ) → AreNames low high place → length (take place (name_at low)) ≡ place
length-read low high place names = length-take-le place (name_at low) names.read

pub ranks_rise : (low high place : ℕ) → AreNames low high place → (i j : ℕ) → low ≤ i → i ≤ j → j < high → rank_at place (name_at i) ≤ rank_at place (name_at j)
ranks_rise low high place names i j from order before =
    let within = names.within in
    elim (cases_lt i j) [
      | inl less ↦
          subst (λ (n : ℕ). rank_at n (name_at i) ≤ rank_at n (name_at j)) (length-read low high place names)
          (front-rises (take place (name_at low)) (name_at i) (name_at j)
          ((names.exactly i (omega arith)).1 (from, omega arith)) ((names.exactly j (omega arith)).1 (omega arith, before))
          (name_at-rises i j less (omega arith)))
      | inr more ↦ let same : i ≡ j = omega arith in le_of_eq (ap (λ (n : ℕ). rank_at place (name_at n)) same)
    ]

-- the names from `low` on, before `from`, end at the place or have a character below the letter
-- there; those from `to` on, before `high`, do not
pub record AreHalved (low high place letter from to : ℕ) : Type 0 where
  pub start : low ≤ from
  pub order : from ≤ to
  pub end : to ≤ high
  pub below : (i : ℕ) → low ≤ i → i < from → rank_at place (name_at i) ≤ letter
  pub above : (i : ℕ) → to ≤ i → i < high → letter < rank_at place (name_at i)

pub halved_at_first : (low high place letter : ℕ) → AreNames low high place → AreHalved low high place letter low high
halved_at_first low high place letter names =
    let some = names.some in
    record {
      start = le_refl _;
      order = omega arith;
      end = le_refl _;
      below = λ i from before. absurd (omega arith);
      above = λ i from before. absurd (omega arith);
    }

pub halved_above : (low high place letter from to middle : ℕ) → AreNames low high place → AreHalved low high place letter from to → from ≤ middle → middle < to →
    nat_le (rank_at place (name_at middle)) letter ≡ true → AreHalved low high place letter (middle + 1) to
halved_above low high place letter from to middle names h after before test =
    let start = h.start in
    let end = h.end in
    let rank = leb-true _ _ test in
    record {
      start = omega arith;
      order = omega arith;
      end = h.end;
      below = λ i at less. le_trans (ranks_rise low high place names i middle at (omega arith) (omega arith)) rank;
      above = h.above;
    }

pub halved_below : (low high place letter from to middle : ℕ) → AreNames low high place → AreHalved low high place letter from to → from ≤ middle → middle < to →
    nat_le (rank_at place (name_at middle)) letter ≡ false → AreHalved low high place letter from middle
halved_below low high place letter from to middle names h after before test =
    let start = h.start in
    let end = h.end in
    let rank = leb-false _ _ test in
    record {
      start = h.start;
      order = after;
      end = omega arith;
      below = h.below;
      above = λ i at less. lt_of_lt_of_le rank (ranks_rise low high place names middle i (omega arith) at less);
    }

pub parted_when_met : (low high place letter from to : ℕ) → AreHalved low high place letter from to → to ≤ from → ArePartedAt low high place letter from
parted_when_met low high place letter from to h met =
    let order = h.order in
    let end = h.end in
    record {
      from = h.start;
      within = omega arith;
      below = h.below;
      above = λ i at less. h.above i (omega arith) less;
    }

-- the number of the next character is one more than the letter where both parts meet
rank-between : (rank letter : ℕ) → letter < rank → rank ≤ letter + 1 → rank ≡ suc letter
rank-between rank letter above below = omega arith

-- the names that go on with the letter lie between the two parts
inside-parts : (low high place letter first last : ℕ) → AreNames low high place → ArePartedAt low high place letter first → ArePartedAt low high place (letter + 1) last →
    (i : ℕ) → i < 2231 → IsFrontOf (take place (name_at low) ++ letter ∷ []) (name_at i) → (first ≤ i) × (i < last)
inside-parts low high place letter first last names part next i known h =
    let more = front-more (take place (name_at low)) (name_at i) letter h in
    let inside = (names.exactly i known).0 more.0 in
    let rank : rank_at place (name_at i) ≡ suc letter =
    ap (λ n. rank_at n (name_at i)) (sym (length-read low high place names)) ∙ more.1 in
    elim (cases_lt i first) [
      | inl less ↦ let below = part.below i inside.0 less in absurd (omega arith)
      | inr from ↦ elim (cases_lt i last) [
        | inl before ↦ (from, before)
        | inr past ↦ let above = next.above i past inside.1 in absurd (omega arith)
      ]
    ]

parts-go_on : (low high place letter first last : ℕ) → AreNames low high place → ArePartedAt low high place letter first → ArePartedAt low high place (letter + 1) last →
    (i : ℕ) → first ≤ i → i < last → IsFrontOf (take place (name_at low) ++ letter ∷ []) (name_at i)
parts-go_on low high place letter first last names part next i from before =
    let within = names.within in
    let start = part.from in
    let end = next.within in
    more-front (take place (name_at low)) (name_at i) letter ((names.exactly i (omega arith)).1 (omega arith, omega arith))
    (ap (λ n. rank_at n (name_at i)) (length-read low high place names)
    ∙ rank-between _ letter (part.above i from (omega arith)) (next.below i (omega arith) before))

pub read_more : (low high place letter first last : ℕ) → AreNames low high place → ArePartedAt low high place letter first → ArePartedAt low high place (letter + 1) last →
    first < last → take (place + 1) (name_at first) ≡ take place (name_at low) ++ letter ∷ []
read_more low high place letter first last names part next some =
    let size : length (take place (name_at low) ++ letter ∷ []) ≡ place + 1 =
    length_push (take place (name_at low)) letter ∙ ap (λ n. n + 1) (length-read low high place names) in
    subst (λ n. take n (name_at first) ≡ take place (name_at low) ++ letter ∷ []) size
    (parts-go_on low high place letter first last names part next first (le_refl _) some)

pub names_more : (low high place letter first last : ℕ) → AreNames low high place → ArePartedAt low high place letter first → ArePartedAt low high place (letter + 1) last →
    first < last → AreNames first last (place + 1)
names_more low high place letter first last names part next some =
    let read = read_more low high place letter first last names part next some in
    let within = names.within in
    let end = next.within in
    record {
      some = some;
      within = omega arith;
      read = rank-next place (name_at first) (lt_of_le_of_lt zero-le (part.above first (le_refl _) (omega arith)));
      exactly = λ i known.
          subst (λ (t : List ℕ). IsFrontOf t (name_at i) ↔ ((first ≤ i) × (i < last))) (sym read)
          (inside-parts low high place letter first last names part next i known, λ at. parts-go_on low high place letter first last names part next i at.0 at.1);
    }
  where
    rank-next : (n : ℕ) (t : List ℕ) → 0 < rank_at n t → n + 1 ≤ length t
    rank-next n t h = let less = rank-within n t h in omega arith

pub names_none : (low high place letter first last : ℕ) → AreNames low high place → ArePartedAt low high place letter first → ArePartedAt low high place (letter + 1) last →
    last ≤ first → BeginsNoName (take place (name_at low) ++ letter ∷ [])
names_none low high place letter first last names part next none i known h =
    let at = inside-parts low high place letter first last names part next i known h in
    let from = at.0 in
    let before = at.1 in
    absurd (omega arith)

-- ---- whole names

-- where the first of the names goes on, none of them is what was read
pub read_no_name : (low high place : ℕ) → AreNames low high place → (length (name_at low) ≡ place → ⊥) → IsNoName (take place (name_at low))
read_no_name low high place names more i known whole =
    let size = length-read low high place names in
    let front : IsFrontOf (take place (name_at low)) (name_at i) =
    rw whole (take_all _ (take place (name_at low)) (le_refl _)) in
    let inside = (names.exactly i known).0 front in
    let ends : rank_at place (name_at i) ≡ 0 = rank-past place (name_at i) (le_of_eq (ap length whole ∙ size)) in
    let least = ranks_rise low high place names low i (le_refl _) inside.0 inside.1 in
    let goes_on = rank-some place (name_at low) (lt_from_ne place (length (name_at low)) names.read more) in
    absurd (omega arith)
  where
    lt_from_ne : (n m : ℕ) → n ≤ m → (m ≡ n → ⊥) → n < m
    lt_from_ne n m le ne = elim (cases_lt n m) [ inl less ↦ less | inr past ↦ let same : m ≡ n = omega arith in absurd (ne same) ]

-- ---- fronts of what was read and more

-- a front of what was read and more is one of what was read, or goes on with the next character
pub front_cases : (name read : List ℕ) (c : ℕ) (rest : List ℕ) → IsFrontOf name (read ++ c ∷ rest) → IsFrontOf name read ⊎ IsFrontOf (read ++ c ∷ []) name
front_cases [] read c rest h = inl refl
front_cases (x ∷ name) [] c rest h = let same : x ≡ c = cc in inr (ap (λ (y : ℕ). y ∷ []) same)
front_cases (x ∷ name) (r ∷ read) c rest h =
    let first : r ≡ x = cc in
    let later : IsFrontOf name (read ++ c ∷ rest) = cc in
    elim (front_cases name read c rest later) [
      | inl front ↦ inl (ap₂ (λ (y : ℕ) (ys : List ℕ). y ∷ ys) first front)
      | inr goes_on ↦ inr (ap₂ (λ (y : ℕ) (ys : List ℕ). y ∷ ys) (sym first) goes_on)
    ]

pub front-longer : (name read rest : List ℕ) → IsFrontOf name read → IsFrontOf name (read ++ rest)
front-longer [] read rest h = refl
front-longer (x ∷ name) [] rest h = cc
front-longer (x ∷ name) (r ∷ read) rest h =
    let first : r ≡ x = cc in
    let later : IsFrontOf name read = cc in
    ap₂ (λ (y : ℕ) (ys : List ℕ). y ∷ ys) first (front-longer name read rest later)

pub front-length : (front text : List ℕ) → IsFrontOf front text → length front ≤ length text
front-length [] text h = zero-le
front-length (x ∷ front) [] h = cc
front-length (x ∷ front) (y ∷ text) h = let later : IsFrontOf front text = cc in suc-le-suc (front-length front text later)

pub fronts-same : (a b : List ℕ) → IsFrontOf a b → IsFrontOf b a → a ≡ b
fronts-same a b h k = sym h ∙ take_all (length a) b (front-length b a k)

rank-most : (place : ℕ) (text : List ℕ) → are_bytes text ≡ true → rank_at place text ≤ 256
rank-most place [] h = zero-le
rank-most zero (b ∷ text) h = ltb-true b 256 (and_parts (nat_lt b 256) (are_bytes text) h).0
rank-most (suc place) (b ∷ text) h = rank-most place text (and_parts (nat_lt b 256) (are_bytes text) h).1

-- no name has a character that is no byte
pub no_name_past_bytes : (read : List ℕ) (c : ℕ) → 256 ≤ c → BeginsNoName (read ++ c ∷ [])
no_name_past_bytes read c past i known h =
    let rank = (front-more read (name_at i) c h).1 in
    let most = rank-most (length read) (name_at i) (name_at-bytes i) in
    absurd (omega arith)

pub past_from_not : (c : ℕ) → (c < 256 → ⊥) → 256 ≤ c
past_from_not c h = elim (cases_lt c 256) [ inl less ↦ absurd (h less) | inr past ↦ past ]
