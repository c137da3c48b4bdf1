-- What is written for a text: what it resolves to, and its words.
use Rattle.std.proofs.Common.{◌≡◌, ℕ, zero, suc, ◌+◌, ◌-◌, ◌<◌, ◌≤◌, Bool, true, false, List, [], ◌∷◌, ◌++◌, length, take, drop, get_or, refl, sym, ◌∙◌, ap, subst, arith, append_assoc, append-nil, take_all, cond, inl, inr, length-drop}
use Rattle.std.specs.Prelude.{◌==◌, ◌&&◌, ◌||◌, not, filter}
use Rattle.std.specs.Char.{is_ascii_whitespace}
use Rattle.std.specs.List.{slice_range}
use Rattle.std.specs.Str.{IsCharBoundary, IsTrimAsciiStart, IsUtf8}
use Rattle.std.proofs.lemmas.Bool.{agree_below, agree_below_at, cases_Bool, eqb-true}
use Rattle.std.proofs.lemmas.Bool.Decides.{nat_tests}
use Rattle.std.proofs.lemmas.List.{at_drop_more, at_drop_all, take_more}
use Rattle.std.proofs.lemmas.Str.{IsCharBoundary-after_ascii}
use Rattle.dom_nodes.specs.Ascii.{backslash, exclamation_mark, space}
use Rattle.dom_nodes.specs.Classes.{words_joined}
use Rattle.dom_nodes.specs.Words.{has_bytes, pieces_of, with_byte, words_of}
use Rattle.dom_md.specs.Chunks.{is_mark, is_marked}
use Rattle.dom_md.specs.Resolved.{Reads, resolved}
use Rattle.dom_md.specs.Words.{spaced}
use Rattle.dom_md.specs.declared.serializer.words.TheConstants.{PLAIN}
use Rattle.dom_md.specs.Written.{CutsChange, IsFirstChange, begins_word, is_changed, written}
use Rattle.dom_md.proofs.ChunkLemmas.{marked_ascii, marked_punctuation, unmarked_plain}
use Rattle.dom_md.proofs.ReadLemmas.{reads-none, reads-both, reads-space, spaced-first, spaced-none}

and_left : (a b : Bool) → (a && b) ≡ true → a ≡ true
and_left true b h = refl
and_left false b h = h

and_right : (a b : Bool) → (a && b) ≡ true → b ≡ true
and_right true b h = h
and_right false b h = absurd (cc)

space_plain : (b : ℕ) (text : List ℕ) → (b == space && begins_word text) ≡ true → (b == backslash) ≡ false
space_plain b text h = rw (eqb-true b space (and_left _ _ h)) refl

-- ---- what it resolves to

pub resolved-written : (text more : List ℕ) → resolved (written true text ++ more) ≡ written false text ++ resolved more
resolved-written [] more = refl
resolved-written (b ∷ text) more =
    let rest = resolved-written text more in
    elim (cases_Bool (is_ascii_whitespace b)) as (λ t. resolved (written true (b ∷ text) ++ more) ≡ written false (b ∷ text) ++ resolved more) [
      | inl white ↦ elim (cases_Bool (b == space && begins_word text)) as (λ t. resolved (written true (b ∷ text) ++ more) ≡ written false (b ∷ text) ++ resolved more) [
        | inl kept ↦ rw (white, kept, space_plain b text kept) (ap (λ t. b ∷ t) rest)
        | inr gap ↦ elim (cases_Bool (begins_word text)) as (λ t. resolved (written true (b ∷ text) ++ more) ≡ written false (b ∷ text) ++ resolved more) [
          | inl dark ↦ rw (white, gap, dark) (ap (λ t. space ∷ t) rest)
          | inr none ↦ rw (white, gap, none) rest
        ]
      ]
      | inr dark ↦ elim (cases_Bool (is_marked b text)) as (λ t. resolved (written true (b ∷ text) ++ more) ≡ written false (b ∷ text) ++ resolved more) [
        | inl marked ↦ rw (dark, marked, marked_punctuation b text marked) (ap (λ t. b ∷ t) rest)
        | inr plain ↦ rw (dark, plain, unmarked_plain b text plain) (ap (λ t. b ∷ t) rest)
      ]
    ]

pub reads-written : (old new text : List ℕ) → new ≡ old ++ written true text → Reads old new (written false text)
reads-written old new text is = record { added = written true text; is = is; resolves = resolved-written text }

-- a word, and then the rest
pub reads-row : (old now new word rest row : List ℕ) → Reads old now word → new ≡ now ++ written true rest → written false row ≡ word ++ written false rest → Reads old new (written false row)
reads-row old now new word rest row first is whole = subst (Reads old new) (sym whole) (reads-both old now new word (written false rest) first (reads-written now new rest is))

-- the same for a text that is cut behind its first word
pub reads-row-cut : (old now new text word rest : List ℕ) (bytes : List ℕ) (end : ℕ) → bytes ≡ text → written false bytes ≡ take end bytes ++ written false (drop end bytes) →
    word ≡ slice_range text 0 end → rest ≡ drop end text → Reads old now word → new ≡ now ++ written true rest → Reads old new (written false text)
reads-row-cut old now new text word rest bytes end same whole front back first is =
    let all : end - 0 ≡ end = omega arith in
    let cut : word ≡ take end text = front ∙ ap (λ n. take n text) all in
    reads-row old now new word rest text first is (rw same at whole ∙ ap (λ t. t ++ written false (drop end text)) (sym cut) ∙ ap (λ t. word ++ written false t) (sym back))

-- ---- its words

some_word : (c : ℕ) (pieces : List (List ℕ)) → (word : List ℕ) × (words : List (List ℕ)) × (filter has_bytes (with_byte c pieces) ≡ word ∷ words)
some_word c [] = (c ∷ [], [], refl)
some_word c (p ∷ pieces) = (c ∷ p, filter has_bytes pieces, refl)

words-dark : (c : ℕ) (text : List ℕ) → is_ascii_whitespace c ≡ false → words_of (c ∷ text) ≡ filter has_bytes (with_byte c (pieces_of text))
words-dark c text dark = ap (λ b. filter has_bytes (cond b ([] ∷ pieces_of text) (with_byte c (pieces_of text)))) dark

words-white : (c : ℕ) (text : List ℕ) → is_ascii_whitespace c ≡ true → words_of (c ∷ text) ≡ words_of text
words-white c text white = ap (λ b. filter has_bytes (cond b ([] ∷ pieces_of text) (with_byte c (pieces_of text)))) white

not_false : (b : Bool) → not b ≡ true → b ≡ false
not_false true h = absurd (cc)
not_false false h = refl

spaced-some : (word : List ℕ) (words : List (List ℕ)) → spaced true (word ∷ words) ≡ space ∷ spaced false (word ∷ words)
spaced-some word words = ap (λ t. space ∷ t) (sym (spaced-first word words))

-- before a text that begins with a word, one space more
pub spaced-begun : (text : List ℕ) → begins_word text ≡ true → spaced true (words_of text) ≡ space ∷ spaced false (words_of text)
spaced-begun [] h = absurd (cc)
spaced-begun (c ∷ text) h =
    let some = some_word c (pieces_of text) in
    let words : words_of (c ∷ text) ≡ some.0 ∷ some.1 = words-dark c text (not_false _ h) ∙ some.2 in
    ap (spaced true) words ∙ spaced-some some.0 some.1 ∙ ap (λ ws. space ∷ spaced false ws) (sym words)

joined-byte : (b : ℕ) (word : List ℕ) (words : List (List ℕ)) → words_joined ((b ∷ word) ∷ words) ≡ b ∷ words_joined (word ∷ words)
joined-byte b word [] = refl
joined-byte b word (next ∷ words) = refl

joined-dark : (b c : ℕ) (pieces : List (List ℕ)) → words_joined (filter has_bytes (with_byte b (with_byte c pieces))) ≡ b ∷ words_joined (filter has_bytes (with_byte c pieces))
joined-dark b c [] = refl
joined-dark b c (p ∷ pieces) = joined-byte b (c ∷ p) (filter has_bytes pieces)

pieces-dark : (c : ℕ) (text : List ℕ) → is_ascii_whitespace c ≡ false → pieces_of (c ∷ text) ≡ with_byte c (pieces_of text)
pieces-dark c text dark = ap (λ b. cond b ([] ∷ pieces_of text) (with_byte c (pieces_of text))) dark

pieces-white : (c : ℕ) (text : List ℕ) → is_ascii_whitespace c ≡ true → pieces_of (c ∷ text) ≡ [] ∷ pieces_of text
pieces-white c text white = ap (λ b. cond b ([] ∷ pieces_of text) (with_byte c (pieces_of text))) white

-- a byte before a text joins its first word
joined-more : (b : ℕ) (text : List ℕ) → words_joined (filter has_bytes (with_byte b (pieces_of text))) ≡ b ∷ spaced (not (begins_word text)) (words_of text)
joined-more b [] = refl
joined-more b (c ∷ text) = elim (cases_Bool (is_ascii_whitespace c)) [
  | inl white ↦ ap (λ ps. words_joined (filter has_bytes (with_byte b ps))) (pieces-white c text white)
      ∙ spaced-first (b ∷ []) (words_of text)
      ∙ ap (λ ws. b ∷ spaced true ws) (sym (words-white c text white))
      ∙ ap (λ w. b ∷ spaced (not (not w)) (words_of (c ∷ text))) (sym white)
  | inr dark ↦ ap (λ ps. words_joined (filter has_bytes (with_byte b ps))) (pieces-dark c text dark)
      ∙ joined-dark b c (pieces_of text)
      ∙ ap (λ ws. b ∷ spaced false ws) (sym (words-dark c text dark))
      ∙ ap (λ w. b ∷ spaced (not (not w)) (words_of (c ∷ text))) (sym dark)
]

pub gap-kept : (b : ℕ) (text : List ℕ) → is_ascii_whitespace b ≡ true → begins_word text ≡ true → written false (b ∷ text) ≡ space ∷ written false text
gap-kept b text white some = elim (cases_Bool (b == space)) [
  | inl same ↦ (let here : written false (b ∷ text) ≡ b ∷ written false text = rw (white, same, some) refl in here ∙ ap (λ n. n ∷ written false text) (eqb-true b space same))
  | inr other ↦ rw (white, other, some) refl
]

pub gap-gone : (b : ℕ) (text : List ℕ) → is_ascii_whitespace b ≡ true → begins_word text ≡ false → written false (b ∷ text) ≡ written false text
gap-gone b text white none = elim (cases_Bool (b == space)) [
  | inl same ↦ rw (white, same, none) refl
  | inr other ↦ rw (white, other, none) refl
]

pub written-words : (text : List ℕ) → written false text ≡ spaced (not (begins_word text)) (words_of text)
written-words [] = refl
written-words (b ∷ text) =
    let rest = written-words text in
    elim (cases_Bool (is_ascii_whitespace b)) [
      | inl white ↦
          let words : spaced true (words_of text) ≡ spaced (not (begins_word (b ∷ text))) (words_of (b ∷ text)) =
          ap (spaced true) (sym (words-white b text white)) ∙ ap (λ w. spaced (not (not w)) (words_of (b ∷ text))) (sym white) in
          elim (cases_Bool (begins_word text)) [
            | inl some ↦ gap-kept b text white some ∙ ap (λ t. space ∷ t) (rest ∙ ap (λ w. spaced (not w) (words_of text)) some) ∙ sym (spaced-begun text some) ∙ words
            | inr none ↦ gap-gone b text white none ∙ rest ∙ ap (λ w. spaced (not w) (words_of text)) none ∙ words
          ]
      | inr dark ↦
          let here : written false (b ∷ text) ≡ b ∷ written false text = rw dark refl in
          here ∙ ap (λ t. b ∷ t) rest ∙ sym (joined-more b text) ∙ ap (spaced false) (sym (words-dark b text dark))
          ∙ ap (λ w. spaced (not (not w)) (words_of (b ∷ text))) (sym dark)
    ]

-- ---- the text without the whitespace before it

words-behind : (n : ℕ) (text : List ℕ) → ((i : ℕ) → i < n → is_ascii_whitespace (get_or text i 0) ≡ true) → words_of text ≡ words_of (drop n text)
words-behind zero text below = refl
words-behind (suc n) [] below = refl
words-behind (suc n) (c ∷ text) below = words-white c text (below 0 (omega arith)) ∙ words-behind n text (λ i low. below (suc i) (omega arith))

pub trimmed-words : (text row : List ℕ) → IsTrimAsciiStart text row → words_of text ≡ words_of row
trimmed-words text row h = words-behind h.0 text h.3 ∙ ap words_of (sym h.1)

pub trimmed-begins : (text row : List ℕ) → IsTrimAsciiStart text row → 0 < length row → begins_word row ≡ true
trimmed-begins text row h some =
    let within : h.0 < length text = (let whole = h.2 in omega arith) in
    ap begins_word h.1 ∙ at_drop_more begins_word text h.0 0 within ∙ ap (λ w. not w) (h.4 within)

pub some_left : (row : List ℕ) → false ≡ (length row == 0) → 0 < length row
some_left [] h = absurd (cc)
some_left (c ∷ row) h = omega arith

pub reads-trimmed : (old new text row : List ℕ) → IsTrimAsciiStart text row → 0 < length row → Reads old new (written false row) → Reads old new (spaced false (words_of text))
reads-trimmed old new text row h some reads =
    subst (Reads old new) (written-words row ∙ ap (λ w. spaced (not w) (words_of row)) (trimmed-begins text row h some) ∙ ap (spaced false) (sym (trimmed-words text row h))) reads

pub reads-parted : (old now new text row : List ℕ) → IsTrimAsciiStart text row → 0 < length row → now ≡ old ++ space ∷ [] → Reads now new (written false row) → Reads old new (spaced true (words_of text))
reads-parted old now new text row h some gap reads =
    let begins = trimmed-begins text row h some in
    let whole : space ∷ written false row ≡ spaced true (words_of text) =
    ap (λ t. space ∷ t) (written-words row ∙ ap (λ w. spaced (not w) (words_of row)) begins) ∙ sym (spaced-begun row begins) ∙ ap (spaced true) (sym (trimmed-words text row h)) in
    subst (Reads old new) whole (reads-both old now new (space ∷ []) (written false row) (reads-space old now gap) reads)

pub reads-nothing : (old text row : List ℕ) (parted : Bool) → IsTrimAsciiStart text row → length row ≡ 0 → Reads old old (spaced parted (words_of text))
reads-nothing old text row parted h none =
    subst (Reads old old) (sym (ap (spaced parted) (trimmed-words text row h ∙ no_words row none) ∙ spaced-none parted)) (reads-none old)
  where
    no_words : (row : List ℕ) → length row ≡ 0 → words_of row ≡ []
    no_words [] h = refl
    no_words (c ∷ row) h = absurd (omega arith)

-- ---- the search for the first change

-- up to a place nothing is changed
abbrev pub IsAsWrittenTo : Bool → List ℕ → ℕ → Type 0
IsAsWrittenTo escape text at = written escape text ≡ take at text ++ written escape (drop at text)

marked-ascii : (escape : Bool) (b : ℕ) (text : List ℕ) → (escape && is_marked b text) ≡ true → b < 128
marked-ascii true b text h = marked_ascii b text h
marked-ascii false b text h = absurd (cc)

white-ascii : (b : ℕ) → is_ascii_whitespace b ≡ true → b < 128
white-ascii b h = grind (arith, nat_tests)

pub changed-ascii : (escape : Bool) (b : ℕ) (text : List ℕ) → is_changed escape b text ≡ true → b < 128
changed-ascii escape b text h = elim (cases_Bool (is_ascii_whitespace b)) [
  | inl white ↦ white-ascii b white
  | inr dark ↦ marked-ascii escape b text (rw dark at h)
]

-- whitespace, a mark or `!`
abbrev may_change : ℕ → Bool
may_change b = is_ascii_whitespace b || (is_mark b || b == exclamation_mark)

plain_table : agree_below (λ n. (get_or PLAIN n 0 == 1) && may_change n) (λ n. false) 256 ≡ true
plain_table = refl

neither : (a b : Bool) → (a || b) ≡ false → (a ≡ false) × (b ≡ false)
neither true b h = absurd (cc)
neither false b h = (refl, h)

pub unmarked : (b : ℕ) (text : List ℕ) → is_mark b ≡ false → (b == exclamation_mark) ≡ false → is_marked b text ≡ false
unmarked b [] mark bang = mark
unmarked b (next ∷ text) mark bang = rw (mark, bang) refl

pub and_none : (a b : Bool) → b ≡ false → (a && b) ≡ false
and_none true b h = h
and_none false b h = refl

pub plain-unchanged : (escape : Bool) (b : ℕ) (text : List ℕ) → b < 256 → (get_or PLAIN b 0 == 1) ≡ true → is_changed escape b text ≡ false
plain-unchanged escape b text low plain =
    let whole : ((get_or PLAIN b 0 == 1) && may_change b) ≡ false = agree_below_at (λ n. (get_or PLAIN n 0 == 1) && may_change n) (λ n. false) 256 b plain_table low in
    let none : may_change b ≡ false = sym (ap (λ t. t && may_change b) plain) ∙ whole in
    let first = neither (is_ascii_whitespace b) (is_mark b || b == exclamation_mark) none in
    let rest = neither (is_mark b) (b == exclamation_mark) first.1 in
    rw first.0 (and_none escape (is_marked b text) (unmarked b text rest.0 rest.1))

pub changed_here : (escape : Bool) (text : List ℕ) (at : ℕ) → at < length text → IsAsWrittenTo escape text at → is_changed escape (get_or text at 0) (drop (at + 1) text) ≡ true → IsFirstChange escape text at
changed_here escape text at within same changed = record {
  within = within;
  ascii = changed-ascii escape (get_or text at 0) (drop (at + 1) text) changed;
  whole = same ∙ ap (λ t. take at text ++ t) (at_drop_more (written escape) text at 0 within ∙ rw changed refl);
}

pub same_more : (escape : Bool) (text : List ℕ) (at : ℕ) → at < length text → IsAsWrittenTo escape text at → is_changed escape (get_or text at 0) (drop (at + 1) text) ≡ false → IsAsWrittenTo escape text (at + 1)
same_more escape text at within same unchanged =
    let b = get_or text at 0 in
    let rest = written escape (drop (at + 1) text) in
    let here : written escape (drop at text) ≡ b ∷ rest = at_drop_more (written escape) text at 0 within ∙ rw unchanged refl in
    let more : take (at + 1) text ≡ take at text ++ b ∷ [] = take_more text at 0 within in
    same ∙ ap (λ t. take at text ++ t) here ∙ sym (append_assoc (take at text) (b ∷ []) rest) ∙ ap (λ t. t ++ rest) (sym more)

pub same_all : (escape : Bool) (text : List ℕ) (at : ℕ) → length text ≤ at → IsAsWrittenTo escape text at → written escape text ≡ text
same_all escape text at past same = same ∙ (ap (λ t. take at text ++ t) (at_drop_all (written escape) text at past) ∙ (append-nil (take at text) ∙ take_all at text past))

-- a byte but whitespace, where marks stay as they are
pub same_dark : (text : List ℕ) (at : ℕ) → at < length text → IsAsWrittenTo false text at → is_ascii_whitespace (get_or text at 0) ≡ false → IsAsWrittenTo false text (at + 1)
same_dark text at within same dark = same_more false text at within same (rw dark refl)

pub after_change : (escape : Bool) (text : List ℕ) (at : ℕ) → IsUtf8 text → IsFirstChange escape text at → IsCharBoundary text (at + 1)
after_change escape text at utf8 found = IsCharBoundary-after_ascii text at utf8 found.within found.ascii

pub cut_change : (escape : Bool) (text before changed after : List ℕ) (at : ℕ) → IsFirstChange escape text at → before ≡ slice_range text 0 at → changed ≡ slice_range text at (at + 1) → after ≡ drop (at + 1) text → CutsChange escape text before changed after
cut_change escape text before changed after at found p q r =
    let one : at + 1 - at ≡ 1 = omega arith in
    let all : at - 0 ≡ at = omega arith in
    let front : before ≡ take at text = p ∙ ap (λ n. take n text) all in
    let middle : changed ≡ get_or text at 0 ∷ [] = q ∙ (ap (λ n. take n (drop at text)) one ∙ at_drop_more (take 1) text at 0 found.within) in
    record {
      whole = rw (front, middle, r) found.whole;
      shorter = rw r (let within = found.within in omega (arith, length-drop (at + 1) text));
    }
