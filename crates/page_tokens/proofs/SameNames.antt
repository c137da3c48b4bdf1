-- The two tables of named character references are the same, by computing.
use Rattle.std.proofs.Common.{◌≡◌, ℕ, zero, suc, ◌+◌, ◌-◌, ◌<◌, Bool, true, ◌&&◌, nat_lt, List, [], ◌∷◌, take, drop, length, get_or, slice_index, slice_range, refl, sym, ap, ◌∙◌, arith, ltb-true, drop-drop, add-one, le_of_suc-le-suc}
use Rattle.std.proofs.lemmas.Bool.{and_parts}
use Rattle.page_tokens.specs.NameTable.{characters_of, name_at, value_at, second_of}
use Rattle.page_tokens.specs.declared.named_references.table.TheConstants.{LETTERS, STARTS, FIRSTS, SECONDS}
use Rattle.standard_tokens.specs.NamedReferences.{NamedReference, named_references}
use Rattle.page_tokens.specs.SameNames.{TablesAreTheSame, no_reference, reference_at}

abbrev reference : List ℕ → ℕ → ℕ → NamedReference
reference name first second = record { name = name; characters = characters_of (record { first = first; second = second_of second }) }

-- the names from `start` on, each up to the next of the ends
references_from : ℕ → List ℕ → List ℕ → List ℕ → List ℕ → List NamedReference
references_from start letters (end ∷ ends) (first ∷ firsts) (second ∷ seconds) =
    reference (take (end - start) letters) first second ∷ references_from end (drop (end - start) letters) ends firsts seconds
references_from start letters _ _ _ = []

-- each end is greater than the one before it, the first than `start`
ends_rise : ℕ → List ℕ → Bool
ends_rise start [] = true
ends_rise start (end ∷ ends) = nat_lt start end && ends_rise end ends

reference_from-at : (letters : List ℕ) (start : ℕ) (ends firsts seconds : List ℕ) (i : ℕ) → ends_rise start ends ≡ true →
    i < length ends → i < length firsts → i < length seconds →
    get_or (references_from start (drop start letters) ends firsts seconds) i no_reference
    ≡ reference (slice_range letters (get_or (start ∷ ends) i 0) (get_or ends i 0)) (get_or firsts i 0) (get_or seconds i 0)
unfolding references_from ends_rise
reference_from-at letters start [] firsts seconds i h a b c = absurd (omega arith)
reference_from-at letters start (end ∷ ends) [] seconds i h a b c = absurd (omega arith)
reference_from-at letters start (end ∷ ends) (first ∷ firsts) [] i h a b c = absurd (omega arith)
reference_from-at letters start (end ∷ ends) (first ∷ firsts) (second ∷ seconds) zero h a b c = refl
reference_from-at letters start (end ∷ ends) (first ∷ firsts) (second ∷ seconds) (suc i) h a b c =
    let parts = and_parts (nat_lt start end) (ends_rise end ends) h in
    let before = ltb-true start end parts.0 in
    let sum : start + (end - start) ≡ end = omega arith in
    ap (λ (rest : List ℕ). get_or (references_from end rest ends firsts seconds) i no_reference) (drop-drop (end - start) start letters ∙ ap (λ n. drop n letters) sum)
    ∙ reference_from-at letters end ends firsts seconds i parts.1 (le_of_suc-le-suc a) (le_of_suc-le-suc b) (le_of_suc-le-suc c)

-- what the table of the tokenizer spells
all_references : references_from 0 LETTERS (drop 1 STARTS) FIRSTS SECONDS ≡ named_references
unfolding references_from named_references
all_references = refl

pub count : length named_references ≡ 2231
unfolding named_references
count = refl

pub by_number : (i : ℕ) → i < 2231 → get_or named_references i no_reference ≡ reference_at i
unfolding name_at value_at ends_rise
by_number i within =
    ap (λ all. get_or all i no_reference) (sym all_references)
    ∙ reference_from-at LETTERS 0 (drop 1 STARTS) FIRSTS SECONDS i refl within within within
    ∙ ap (λ n. reference (slice_range LETTERS (slice_index STARTS i) (slice_index STARTS n)) (slice_index FIRSTS i) (slice_index SECONDS i)) (sym (add-one i))

pub same_tables : TablesAreTheSame
same_tables = (count, by_number)
