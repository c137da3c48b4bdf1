-- The words in a class or an id.
use Rattle.std.proofs.Common.{ℕ, zero, suc, ◌≡◌, ◌<◌, ◌≤◌, ◌⊎◌, ◌+◌, ◌-◌, ◌∙◌, Bool, true, false, true≢false, List, [], ◌∷◌, inl, inr, refl, sym, ap, subst, arith, add-one, length, drop, take, get_or, replicate, set}
use Rattle.std.specs.Prelude.{◌==◌, ◌&&◌, ◌||◌, not, nat_le, ◌*◌, codes, map}
use Rattle.std.specs.Char.{to_ascii_lowercase}
use Rattle.std.specs.List.{list_all}
use Rattle.std.specs.Str.{bytes_eq}
use Rattle.std.proofs.Math.Seq.{drop-cons}
use Rattle.std.proofs.Math.ListN.{drop_of_length-le}
use Rattle.std.proofs.lemmas.Bool.{cases_Bool, cases_lt, eq-eqb, eqb-true}
use Rattle.std.proofs.lemmas.Bool.Decides.{nat_tests}
use Rattle.std.proofs.lemmas.List.{drop-map, get_or-drop, get_or-set_other, get_or-set_same, length-drop, length-replicate, length-set, take_all}
use Rattle.std.proofs.lemmas.Slice.Eq.{bytes_eq-Decides}
use Rattle.dom_article.specs.Words.{Entry, IsIndexTo, begins, found_after, has_capital, is_capital, is_here, is_letter_or_digit, is_small, letter_number, look_length, lowered, may_be_look, pair_at, pair_of, scan, skip_after, table, with_start, with_word, with_words}
use Rattle.dom_article.specs.declared.tables.Way.{Way}
use Rattle.dom_article.specs.declared.words.Found.{Found}
use Rattle.dom_article.proofs.FoldLemmas.{TableWord}

-- ---- the index

same_or_not : (a b : ℕ) → (a ≡ b) ⊎ (a ≡ b → ⊥)
same_or_not a b = elim (cases_Bool (a == b)) [ inl t ↦ inl (eqb-true a b t) | inr f ↦ inr (λ e. true≢false (sym (eq-eqb a b e) ∙ f)) ]

below_unless : (a b : ℕ) → a < b + 1 → (a ≡ b → ⊥) → a < b
below_unless a b less other = elim (cases_lt a b) [ inl t ↦ t | inr f ↦ absurd (other (omega arith)) ]

-- One word more.
pub index_more : (pairs starts ends begun : List ℕ) (count pair : ℕ) → get_or pairs count 0 ≡ pair → pair < 729 → IsIndexTo pairs count starts ends →
    length begun ≡ 729 → ((other : ℕ) → (other ≡ pair → ⊥) → get_or begun other 0 ≡ get_or starts other 0) →
    (get_or ends pair 0 ≡ 0 → get_or begun pair 0 ≡ count) → ((get_or ends pair 0 ≡ 0 → ⊥) → get_or begun pair 0 ≡ get_or starts pair 0) →
    IsIndexTo pairs (count + 1) begun (set ends pair (count + 1))
index_more pairs starts ends begun count pair is small old long others fresh kept = record {
  all_starts = long;
  all_ends = length-set ends pair (count + 1) ∙ old.all_ends;
  first = λ p. elim (same_or_not p pair) [
    | inl e ↦ subst (λ (k : ℕ). get_or begun k 0 ≤ count + 1) (sym e) (elim (same_or_not (get_or ends pair 0) 0) [
      | inl none ↦ (let t = fresh none in omega arith)
      | inr some ↦ (let t = kept some in let b = old.first pair in omega arith)
    ])
    | inr other ↦ (let t = others p other in let b = old.first p in omega arith)
  ];
  last = λ p. elim (same_or_not p pair) [
    | inl e ↦ subst (λ (k : ℕ). get_or (set ends pair (count + 1)) k 0 ≤ count + 1) (sym e) (let t = here in omega arith)
    | inr other ↦ (let t = there p other in let b = old.last p in omega arith)
  ];
  each = λ at p before now. elim (same_or_not p pair) [
    | inl e ↦ subst (λ (k : ℕ). (get_or begun k 0 ≤ at) × (at < get_or (set ends pair (count + 1)) k 0)) (sym e) (at_pair at before (now ∙ e))
    | inr other ↦ elim (same_or_not at count) [
      | inl e ↦ absurd (other (sym now ∙ (ap (λ (k : ℕ). get_or pairs k 0) e ∙ is)))
      | inr early ↦ (let both = old.each at p (below_unless at count before early) now in let low = both.0 in let high = both.1 in let t = others p other in let u = there p other in (omega arith, omega arith))
    ]
  ];
}
  where
    here : get_or (set ends pair (count + 1)) pair 0 ≡ count + 1
    here = get_or-set_same ends pair (count + 1) 0 (let e = old.all_ends in omega arith)

    there : (p : ℕ) → (p ≡ pair → ⊥) → get_or (set ends pair (count + 1)) p 0 ≡ get_or ends p 0
    there p other = get_or-set_other ends pair p (count + 1) 0 other

    at_pair : (at : ℕ) → at < count + 1 → get_or pairs at 0 ≡ pair → (get_or begun pair 0 ≤ at) × (at < get_or (set ends pair (count + 1)) pair 0)
    at_pair at before now = elim (same_or_not at count) [
      | inl e ↦ elim (same_or_not (get_or ends pair 0) 0) [
        | inl none ↦ ((let t = fresh none in omega arith), (let u = here in omega arith))
        | inr some ↦ ((let t = kept some in let b = old.first pair in omega arith), (let u = here in omega arith))
      ]
      | inr early ↦ (
          let both = old.each at pair (below_unless at count before early) now in let low = both.0 in let high = both.1 in let u = here in
          elim (same_or_not (get_or ends pair 0) 0) [
            | inl none ↦ absurd (omega arith)
            | inr some ↦ ((let t = kept some in omega arith), omega arith)
          ])
    ]

pub index_done : (pairs starts ends begun done : List ℕ) (count pair : ℕ) → get_or pairs count 0 ≡ pair → pair < 729 → IsIndexTo pairs count starts ends →
    begun ≡ with_start pair count starts ends → done ≡ set ends pair (count + 1) → IsIndexTo pairs (count + 1) begun done
index_done pairs starts ends begun done count pair is small old is_begun is_done =
    subst (λ (ks : List ℕ). IsIndexTo pairs (count + 1) begun ks) (sym is_done) (subst (λ (ks : List ℕ). IsIndexTo pairs (count + 1) ks (set ends pair (count + 1))) (sym is_begun)
    (elim (cases_Bool (get_or ends pair 0 == 0)) [
      | inl t ↦ rw t (index_more pairs starts ends (set starts pair count) count pair is small old (length-set starts pair count ∙ old.all_starts)
          (λ other apart. get_or-set_other starts pair other count 0 apart)
          (λ _. get_or-set_same starts pair count 0 (let e = old.all_starts in omega arith))
          (λ some. absurd (some (eqb-true (get_or ends pair 0) 0 t))))
      | inr f ↦ rw f (index_more pairs starts ends starts count pair is small old old.all_starts (λ other apart. refl)
          (λ none. absurd (true≢false (sym (eq-eqb (get_or ends pair 0) 0 none) ∙ f)))
          (λ some. refl))
    ]))

zeros : (count at : ℕ) → ◌≡◌ {A = ℕ} (get_or (replicate count 0) at 0) 0
zeros zero at = refl
zeros (suc count) zero = refl
zeros (suc count) (suc at) = zeros count at

-- An index of no words.
pub none_indexed : (pairs starts ends : List ℕ) → starts ≡ replicate 729 0 → ends ≡ replicate 729 0 → IsIndexTo pairs 0 starts ends
none_indexed pairs starts ends is_starts is_ends = record {
  all_starts = ap length is_starts ∙ length-replicate {A = ℕ} 729 0;
  all_ends = ap length is_ends ∙ length-replicate {A = ℕ} 729 0;
  first = λ pair. (let e : get_or starts pair 0 ≡ 0 = ap (λ (ks : List ℕ). get_or ks pair 0) is_starts ∙ zeros 729 pair in omega arith);
  last = λ pair. (let e : get_or ends pair 0 ≡ 0 = ap (λ (ks : List ℕ). get_or ks pair 0) is_ends ∙ zeros 729 pair in omega arith);
  each = λ at pair before _. absurd (omega (arith, before));
}

-- ---- words that a text doesn't begin with

bytes_same : (xs ys : List ℕ) → bytes_eq xs ys ≡ true → xs ≡ ys
bytes_same xs ys same = (bytes_eq-Decides xs ys).0 same

heads : (a b : ℕ) (xs ys : List ℕ) → a ∷ xs ≡ b ∷ ys → a ≡ b
heads a b xs ys same = ap (λ (ks : List ℕ). get_or ks 0 a) same

tails : (a b : ℕ) (xs ys : List ℕ) → a ∷ xs ≡ b ∷ ys → xs ≡ ys
tails a b xs ys same = ap (λ (ks : List ℕ). drop 1 ks) same

empty_or_not : (c : ℕ) (cs : List ℕ) → [] ≡ c ∷ cs → ⊥
empty_or_not c cs same = (let e : 0 ≡ suc (length cs) = ap length same in omega arith)

-- A text that begins with a word has its first two letters.
same_pair : (word text : List ℕ) → nat_le 2 (length word) ≡ true → begins word text ≡ true → pair_of word ≡ pair_of text
same_pair [] text long here = absurd (true≢false (sym long))
same_pair (a ∷ []) text long here = absurd (true≢false (sym long))
same_pair (a ∷ (b ∷ word)) [] long here = absurd (empty_or_not a (b ∷ word) (bytes_same [] (a ∷ (b ∷ word)) here))
same_pair (a ∷ (b ∷ word)) (c ∷ []) long here = absurd (empty_or_not b word (tails c a [] (b ∷ word) (bytes_same (c ∷ []) (a ∷ (b ∷ word)) here)))
same_pair (a ∷ (b ∷ word)) (c ∷ (d ∷ text)) long here =
    let same : c ∷ (d ∷ take (length word) text) ≡ a ∷ (b ∷ word) = bytes_same (take (length (a ∷ (b ∷ word))) (c ∷ (d ∷ text))) (a ∷ (b ∷ word)) here in
    let first : c ≡ a = heads c a _ _ same in
    let second : d ≡ b = heads d b _ _ (tails c a _ _ same) in
    sym (ap (λ (k : ℕ). letter_number k * 27 + letter_number d) first ∙ ap (λ (k : ℕ). letter_number a * 27 + letter_number k) second)

none_here : (x y : Bool) → (x && false && y) ≡ false
none_here true y = refl
none_here false y = refl

not_here : (way : Way) (word text : List ℕ) (first : Bool) → nat_le 2 (length word) ≡ true → (pair_of word ≡ pair_of text → ⊥) → is_here word way text first ≡ false
not_here way word text first long other = elim (cases_Bool (begins word text)) [
  | inl t ↦ absurd (other (same_pair word text long t))
  | inr f ↦ rw f (none_here _ _)
]

abbrev pub is_long : Entry → Bool
is_long (word, way, list) = nat_le 2 (length word)

left_alone : (entry : Entry) (text : List ℕ) (first : Bool) (found : Found) → is_long entry ≡ true → (pair_at entry ≡ pair_of text → ⊥) → with_word entry text first found ≡ found
left_alone (word, way, list) text first found long other = rw (not_here way word text first long other) refl

both_so : (a b : Bool) → (a && b) ≡ true → (a ≡ true) × (b ≡ true)
both_so true b e = (refl, e)
both_so false b e = absurd (true≢false (sym e))

-- Words before the first one that matters.
front : (entries : List Entry) (start : ℕ) (text : List ℕ) (first : Bool) (found : Found) → list_all is_long entries ≡ true →
    ((i : ℕ) → i < length entries → get_or (map pair_at entries) i 0 ≡ pair_of text → start ≤ i) →
    with_words (drop start entries) text first found ≡ with_words entries text first found
front entries zero text first found long later = refl
front [] (suc start) text first found long later = refl
front (entry ∷ entries) (suc start) text first found long later =
    let both = both_so (is_long entry) (list_all is_long entries) long in
    front entries start text first found both.1 (λ i inside is. let t = later (suc i) (omega (arith, inside)) is in omega arith)
    ∙ ap (λ (f : Found). with_words entries text first f) (sym (left_alone entry text first found both.0 (λ is. let t = later 0 (omega arith) is in absurd (omega arith))))

none : (entries : List Entry) (text : List ℕ) (first : Bool) (found : Found) → list_all is_long entries ≡ true →
    ((i : ℕ) → i < length entries → get_or (map pair_at entries) i 0 ≡ pair_of text → ⊥) → with_words entries text first found ≡ found
none [] text first found long never = refl
none (entry ∷ entries) text first found long never =
    let both = both_so (is_long entry) (list_all is_long entries) long in
    ap (λ (f : Found). with_words entries text first f) (left_alone entry text first found both.0 (λ is. never 0 (omega arith) is))
    ∙ none entries text first found both.1 (λ i inside is. never (suc i) (omega (arith, inside)) is)

-- Words behind the last one that matters.
back : (entries : List Entry) (count : ℕ) (text : List ℕ) (first : Bool) (found : Found) → list_all is_long entries ≡ true →
    ((i : ℕ) → i < length entries → get_or (map pair_at entries) i 0 ≡ pair_of text → i < count) →
    with_words (take count entries) text first found ≡ with_words entries text first found
back entries zero text first found long earlier = sym (none entries text first found long (λ i inside is. let t = earlier i inside is in omega arith))
back [] (suc count) text first found long earlier = refl
back (entry ∷ entries) (suc count) text first found long earlier =
    let both = both_so (is_long entry) (list_all is_long entries) long in
    back entries count text first (with_word entry text first found) both.1 (λ i inside is. let t = earlier (suc i) (omega (arith, inside)) is in omega arith)

long_behind : (entries : List Entry) (start : ℕ) → list_all is_long entries ≡ true → list_all is_long (drop start entries) ≡ true
long_behind entries zero long = long
long_behind [] (suc start) long = refl
long_behind (entry ∷ entries) (suc start) long = long_behind entries start (both_so (is_long entry) (list_all is_long entries) long).1

-- The words between the two places of the index are enough.
pub enough : (entries : List Entry) (starts ends : List ℕ) (text : List ℕ) (first : Bool) (found : Found) → list_all is_long entries ≡ true →
    IsIndexTo (map pair_at entries) (length entries) starts ends →
    with_words (take (get_or ends (pair_of text) 0 - get_or starts (pair_of text) 0) (drop (get_or starts (pair_of text) 0) entries)) text first found ≡ with_words entries text first found
enough entries starts ends text first found long index =
    let s = get_or starts (pair_of text) 0 in
    let e = get_or ends (pair_of text) 0 in
    back (drop s entries) (e - s) text first found (long_behind entries s long)
    (λ i inside is.
    let there : get_or (map pair_at entries) (s + i) 0 ≡ pair_of text = sym (get_or-drop s (map pair_at entries) i 0) ∙ (ap (λ (ks : List ℕ). get_or ks i 0) (drop-map pair_at s entries) ∙ is) in
    let short : length (drop s entries) ≡ length entries - s = length-drop s entries in
    let both = index.each (s + i) (pair_of text) (let k = inside in omega arith) there in
    let high = both.1 in omega arith)
    ∙ front entries s text first found long (λ i inside is. (index.each i (pair_of text) inside is).0)

take_mapped : (f : TableWord → Entry) (n : ℕ) (words : List TableWord) → map f (take n words) ≡ take n (map f words)
take_mapped f zero words = refl
take_mapped f (suc n) [] = refl
take_mapped f (suc n) (word ∷ words) = ap (λ (es : List Entry). f word ∷ es) (take_mapped f n words)

pub part_mapped : (f : TableWord → Entry) (words : List TableWord) (start n : ℕ) → map f (take n (drop start words)) ≡ take n (drop start (map f words))
part_mapped f words start n = take_mapped f n (drop start words) ∙ ap (λ (es : List Entry). take n es) (sym (drop-map f start words))

pub table_long : list_all is_long table ≡ true
unfolding table
table_long = refl

pub table_length : length table ≡ 118
unfolding table
table_length = refl

pub enough_words : (starts ends : List ℕ) (text : List ℕ) (first : Bool) (found : Found) → IsIndexTo (map pair_at table) 118 starts ends →
    with_words (take (get_or ends (pair_of text) 0 - get_or starts (pair_of text) 0) (drop (get_or starts (pair_of text) 0) table)) text first found ≡ with_words table text first found
enough_words starts ends text first found index =
    enough table starts ends text first found table_long (subst (λ (n : ℕ). IsIndexTo (map pair_at table) n starts ends) (sym table_length) index)

-- ---- the search

pub scan_on : (text : List ℕ) (i : ℕ) (first next : Bool) (skip more : ℕ) (found found' : Found) → i < length text →
    more ≡ skip_after first skip (take (length text - i) (drop i text)) → found' ≡ found_after first skip (take (length text - i) (drop i text)) found →
    next ≡ not (is_letter_or_digit (get_or text i 0)) → scan next more (drop (i + 1) text) found' ≡ scan first skip (drop i text) found
scan_on text i first next skip more found found' inside is_more is_found is_next =
    let all : take (length text - i) (drop i text) ≡ drop i text = take_all (length text - i) (drop i text) (simp length-drop (omega arith)) in
    let e : drop i text ≡ get_or text i 0 ∷ drop (suc i) text = drop-cons text i 0 inside in
    ap (λ (n : Bool). scan n more (drop (i + 1) text) found') is_next
    ∙ (ap (λ (m : ℕ). scan (not (is_letter_or_digit (get_or text i 0))) m (drop (i + 1) text) found') (is_more ∙ ap (λ ks. skip_after first skip ks) (all ∙ e))
    ∙ (ap (λ (f : Found). scan (not (is_letter_or_digit (get_or text i 0))) (skip_after first skip (get_or text i 0 ∷ drop (suc i) text)) (drop (i + 1) text) f) (is_found ∙ ap (λ ks. found_after first skip ks found) (all ∙ e))
    ∙ (ap (λ (k : ℕ). scan (not (is_letter_or_digit (get_or text i 0))) (skip_after first skip (get_or text i 0 ∷ drop (suc i) text)) (drop k text) (found_after first skip (get_or text i 0 ∷ drop (suc i) text) found)) (add-one i)
    ∙ sym (ap (λ ks. scan first skip ks found) e))))

pub scan_ends : (text : List ℕ) (i : ℕ) (first : Bool) (skip : ℕ) (found : Found) → length text ≤ i → scan first skip (drop i text) found ≡ found
scan_ends text i first skip found past = ap (λ ks. scan first skip ks found) (drop_of_length-le text past)

-- ---- letters

lower_kept : (c : ℕ) → is_capital c ≡ false → to_ascii_lowercase c ≡ c
lower_kept c small = grind (arith, nat_tests)

pub lowered_same : (text : List ℕ) (after_small : Bool) → has_capital text ≡ false → lowered after_small text ≡ text
lowered_same [] after_small none = refl
lowered_same (c ∷ cs) after_small none = elim (cases_Bool (is_capital c)) [
  | inl t ↦ absurd (true≢false (sym (rw t refl) ∙ none))
  | inr f ↦ (let rest : has_capital cs ≡ false = rw f at none in
      rw f (ap (λ (k : ℕ). k ∷ lowered (is_small c) cs) (lower_kept c f) ∙ ap (λ ks. c ∷ ks) (lowered_same cs (is_small c) rest)))
]

-- ---- classes that say how something looks

-- a text that begins with another letter doesn't begin with a word
other_letter : (w c : ℕ) (word text : List ℕ) → (c == w) ≡ false → begins (w ∷ word) (c ∷ text) ≡ false
other_letter w c word text other = elim (cases_Bool (begins (w ∷ word) (c ∷ text))) [
  | inl same ↦ absurd (true≢false (sym (eq-eqb c w (heads c w (take (length word) text) word ((bytes_eq-Decides (c ∷ take (length word) text) (w ∷ word)).0 same))) ∙ other))
  | inr f ↦ f
]
  where
    heads : (a b : ℕ) (xs ys : List ℕ) → a ∷ xs ≡ b ∷ ys → a ≡ b
    heads a b xs ys e = cc

-- and none begins with one at its end
no_letter : (w : ℕ) (word : List ℕ) → begins (w ∷ word) [] ≡ false
no_letter w word = elim (cases_Bool (begins (w ∷ word) [])) [
  | inl same ↦ absurd (nothing w word ((bytes_eq-Decides [] (w ∷ word)).0 same))
  | inr f ↦ f
]
  where
    nothing : (b : ℕ) (bs : List ℕ) → [] ≡ b ∷ bs → ⊥
    nothing b bs e = cc

-- without such a word at the start there is no such class
no_class : (text : List ℕ) → begins (codes "text-") text ≡ false → begins (codes "justify-") text ≡ false → begins (codes "content-") text ≡ false → look_length text ≡ 0
no_class text first second third = rw (first, second, third) refl

all_false : (a b c : Bool) → (a || b || c) ≡ false → (a ≡ false) × (b ≡ false) × (c ≡ false)
all_false false false false e = (refl, refl, refl)
all_false true b c e = absurd (true≢false e)
all_false false true c e = absurd (true≢false e)
all_false false false true e = absurd (true≢false e)

-- A text that begins with no first letter of such a class begins with no such class.
pub no_look : (text : List ℕ) → may_be_look text ≡ false → look_length text ≡ 0
no_look [] is = no_class [] (no_letter 116 (codes "ext-")) (no_letter 106 (codes "ustify-")) (no_letter 99 (codes "ontent-"))
no_look (c ∷ cs) is =
    let others = all_false (c == 116) (c == 99) (c == 106) is in
    no_class (c ∷ cs) (other_letter 116 c (codes "ext-") cs others.0) (other_letter 106 c (codes "ustify-") cs others.2) (other_letter 99 c (codes "ontent-") cs others.1)
