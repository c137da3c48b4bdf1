-- The steps of the prescan.
use Rattle.std.proofs.Common.{◌≡◌, ℕ, ◌+◌, ◌-◌, ◌≤◌, List, [], ◌∷◌, ◌++◌, Bool, true, false, cond, not, length, drop, arith, refl, sym, ap, subst, ◌∙◌, Option, Some, None}
use Rattle.std.specs.Prelude.{codes}
use Rattle.std.specs.Option.{option_map}
use Rattle.encodings.specs.declared.encoding.Encoding.{Encoding}
use Rattle.encodings.specs.Attributes.{Meta, attributes, declared_by, no_attributes}
use Rattle.encodings.specs.Bytes.{after_while, begins_with_word, ends_value, from_first}
use Rattle.encodings.specs.Prescan.{Step, and_steps, begins_meta, begins_other, begins_tag, begins_with, behind_byte, comment_end, next_byte, of_meta, or_next, other_end, prescan, step, tag_end}
use Rattle.encodings.specs.Prescan.Step.{declares, ends, goes_on}
use Rattle.encodings.proofs.Tails.{IsTail, ReadIn, distance, read_in, tail_after, tail_behind, tail_drop, tail_length, tail_more, tail_self, tail_then}

abbrev pub GoesBehind : List ℕ → Step → Type 0
GoesBehind rest (declares encoding) = Unit {0}
GoesBehind rest (goes_on bytes) = IsTail rest bytes
GoesBehind rest ends = Unit {0}

abbrev TailIn : List ℕ → Option (List ℕ) → Type 0
TailIn bytes None = Unit {0}
TailIn bytes (Some tail) = IsTail bytes tail

byte_behind : (byte : ℕ) (rest later : List ℕ) → IsTail (byte ∷ rest) later → GoesBehind rest (behind_byte later)
byte_behind byte rest [] is = tt
byte_behind byte rest (head ∷ tail) is = tail_behind byte rest head tail is

next_behind : (byte : ℕ) (rest : List ℕ) (later : Option (List ℕ)) → TailIn (byte ∷ rest) later → GoesBehind rest (next_byte later)
next_behind byte rest None is = tt
next_behind byte rest (Some later) is = byte_behind byte rest later is

first_in : (p : List ℕ → Bool) (bytes : List ℕ) → TailIn bytes (from_first p bytes)
unfolding from_first
first_in p [] = tt
first_in p (byte ∷ rest) =
    elim (p (byte ∷ rest)) as (λ b. TailIn (byte ∷ rest) (cond b (Some (byte ∷ rest)) (from_first p rest))) [ true ↦ tail_self (byte ∷ rest) | false ↦ more byte rest (from_first p rest) (first_in p rest) ]
  where
    more : (byte : ℕ) (rest : List ℕ) (found : Option (List ℕ)) → TailIn rest found → TailIn (byte ∷ rest) found
    more byte rest None is = tt
    more byte rest (Some tail) is = tail_more byte rest tail is

dropped_in : (n : ℕ) (bytes tail : List ℕ) (found : Option (List ℕ)) → IsTail bytes tail → TailIn tail found → TailIn bytes (option_map (drop n) found)
dropped_in n bytes tail None first is = tt
dropped_in n bytes tail (Some end) first is = tail_then bytes tail (drop n end) first (tail_then tail end (drop n end) is (tail_drop n end))

comment_in : (bytes : List ℕ) → TailIn bytes (comment_end bytes)
comment_in bytes = dropped_in 2 bytes (drop 2 bytes) _ (tail_drop 2 bytes) (first_in (begins_with (codes "-->")) (drop 2 bytes))

end_of : (bytes tail : List ℕ) (read : Option (Meta × List ℕ)) → IsTail bytes tail → ReadIn tail read → TailIn bytes (option_map (λ r. r.1) read)
end_of bytes tail None first is = tt
end_of bytes tail (Some (meta, here)) first is = tail_then bytes tail here first is

tag_in : (bytes : List ℕ) → TailIn bytes (tag_end bytes)
tag_in bytes = end_of bytes _ _ (tail_after (λ byte. not (ends_value byte)) bytes) (read_in no_attributes 0 (after_while (λ byte. not (ends_value byte)) bytes))

or_behind : (byte : ℕ) (rest here : List ℕ) (found : Option Encoding) → IsTail (byte ∷ rest) here → GoesBehind rest (or_next found here)
or_behind byte rest here (Some encoding) is = tt
or_behind byte rest here None is = byte_behind byte rest here is

meta_behind : (byte : ℕ) (rest tail : List ℕ) (read : Option (Meta × List ℕ)) → IsTail (byte ∷ rest) tail → ReadIn tail read → GoesBehind rest (of_meta read)
meta_behind byte rest tail None first is = tt
meta_behind byte rest tail (Some (meta, here)) first is = or_behind byte rest here (declared_by meta) (tail_then (byte ∷ rest) tail here first is)

-- one of two steps
either : (rest : List ℕ) (test : Bool) (one other : Step) → GoesBehind rest one → GoesBehind rest other → GoesBehind rest (cond test one other)
either rest true one other first second = first
either rest false one other first second = second

step_behind : (byte : ℕ) (rest : List ℕ) → GoesBehind rest (step (byte ∷ rest))
unfolding step
step_behind byte rest =
    let bytes : List ℕ = byte ∷ rest in
    either rest (begins_with (codes "<!--") bytes) _ _ (next_behind byte rest _ (comment_in bytes))
    (either rest (begins_meta bytes) _ _ (meta_behind byte rest (drop 5 bytes) _ (tail_drop 5 bytes) (read_in no_attributes 0 (drop 5 bytes)))
    (either rest (begins_tag bytes) _ _ (next_behind byte rest _ (tag_in bytes))
    (either rest (begins_other bytes) _ _ (next_behind byte rest _ (first_in (begins_with (codes ">")) bytes))
    (byte_behind byte rest bytes (tail_self bytes)))))

skipped : (front tail : List ℕ) → prescan (length front) (front ++ tail) ≡ prescan 0 tail
unfolding prescan
skipped [] tail = refl
skipped (byte ∷ front) tail = skipped front tail

pub more_at : (rest tail : List ℕ) → IsTail rest tail → prescan (length rest - length tail) rest ≡ prescan 0 tail
more_at rest tail is = ap (λ n. prescan n rest) (distance rest tail is) ∙ ap (prescan (length is.0)) is.1 ∙ skipped is.0 tail

abbrev Moves : Step → Type 0
Moves (declares encoding) = Unit {0}
Moves (goes_on bytes) = Unit {0}
Moves ends = ⊥

nothing_begins : step [] ≡ ends
unfolding step begins_with_word
nothing_begins = refl

-- what a step says of the whole
pub step_declares : (bytes : List ℕ) (encoding : Encoding) → declares encoding ≡ step bytes → Some encoding ≡ prescan 0 bytes
unfolding prescan
step_declares [] encoding is = absurd (subst Moves (is ∙ nothing_begins) tt)
step_declares (byte ∷ rest) encoding is = ap (λ s. and_steps s (λ bytes. prescan (length rest - length bytes) rest)) is

pub step_ends : (bytes : List ℕ) → ends ≡ step bytes → None ≡ prescan 0 bytes
unfolding prescan
step_ends [] is = refl
step_ends (byte ∷ rest) is = ap (λ s. and_steps s (λ bytes. prescan (length rest - length bytes) rest)) is

pub step_goes_on : (bytes tail : List ℕ) → goes_on tail ≡ step bytes → (prescan 0 tail ≡ prescan 0 bytes) × (length tail + 1 ≤ length bytes)
unfolding prescan
step_goes_on [] tail is = absurd (subst Moves (is ∙ nothing_begins) tt)
step_goes_on (byte ∷ rest) tail is =
    let behind : GoesBehind rest (goes_on tail) = subst (GoesBehind rest) (sym is) (step_behind byte rest) in
    (sym (more_at rest tail behind) ∙ ap (λ s. and_steps s (λ bytes. prescan (length rest - length bytes) rest)) is, omega (arith, tail_length rest tail behind))

pub nothing_left : (bytes : List ℕ) → length bytes ≡ 0 → None ≡ prescan 0 bytes
unfolding prescan
nothing_left [] h = refl
nothing_left (byte ∷ rest) h = absurd (omega arith)

-- ---- what the code gives

if_true : (test : Bool) (one other : Step) → test ≡ true → cond test one other ≡ one
if_true true one other is = refl
if_true false one other is = cc

if_false : (test : Bool) (one other : Step) → test ≡ false → cond test one other ≡ other
if_false true one other is = cc
if_false false one other is = refl

pub at_comment : (bytes : List ℕ) (found : Step) → begins_with (codes "<!--") bytes ≡ true → found ≡ next_byte (comment_end bytes) → found ≡ step bytes
unfolding step
at_comment bytes found first is = is ∙ sym (if_true (begins_with (codes "<!--") bytes) _ _ first)

pub at_meta : (bytes rest : List ℕ) (found : Step) → begins_with (codes "<!--") bytes ≡ false → begins_meta bytes ≡ true → rest ≡ drop 5 bytes → found ≡ of_meta (attributes no_attributes 0 rest) → found ≡ step bytes
unfolding step
at_meta bytes rest found first second five is =
    is ∙ ap (λ r. of_meta (attributes no_attributes 0 r)) five ∙ sym (if_false (begins_with (codes "<!--") bytes) _ _ first ∙ if_true (begins_meta bytes) _ _ second)

pub at_tag : (bytes : List ℕ) (found : Step) → begins_with (codes "<!--") bytes ≡ false → begins_meta bytes ≡ false → begins_tag bytes ≡ true → found ≡ next_byte (tag_end bytes) → found ≡ step bytes
unfolding step
at_tag bytes found first second third is =
    is ∙ sym (if_false (begins_with (codes "<!--") bytes) _ _ first ∙ if_false (begins_meta bytes) _ _ second ∙ if_true (begins_tag bytes) _ _ third)

pub at_other : (bytes : List ℕ) (found : Step) → begins_with (codes "<!--") bytes ≡ false → begins_meta bytes ≡ false → begins_tag bytes ≡ false → begins_other bytes ≡ true → found ≡ next_byte (other_end bytes) →
    found ≡ step bytes
unfolding step
at_other bytes found first second third fourth is =
    is ∙ sym (if_false (begins_with (codes "<!--") bytes) _ _ first ∙ if_false (begins_meta bytes) _ _ second ∙ if_false (begins_tag bytes) _ _ third ∙ if_true (begins_other bytes) _ _ fourth)

pub at_byte : (bytes : List ℕ) (found : Step) → begins_with (codes "<!--") bytes ≡ false → begins_meta bytes ≡ false → begins_tag bytes ≡ false → begins_other bytes ≡ false → found ≡ behind_byte bytes →
    found ≡ step bytes
unfolding step
at_byte bytes found first second third fourth is =
    is ∙ sym (if_false (begins_with (codes "<!--") bytes) _ _ first ∙ if_false (begins_meta bytes) _ _ second ∙ if_false (begins_tag bytes) _ _ third ∙ if_false (begins_other bytes) _ _ fourth)

pub end_read : (bytes skipped here : List ℕ) (meta : Meta) → skipped ≡ after_while (λ byte. not (ends_value byte)) bytes → attributes no_attributes 0 skipped ≡ Some (meta, here) → Some here ≡ tag_end bytes
end_read bytes skipped here meta is read = ap (option_map (λ r. r.1)) (sym read ∙ ap (attributes no_attributes 0) is)

pub end_cut : (bytes skipped : List ℕ) → skipped ≡ after_while (λ byte. not (ends_value byte)) bytes → attributes no_attributes 0 skipped ≡ None → None ≡ tag_end bytes
end_cut bytes skipped is read = ap (option_map (λ r. r.1)) (sym read ∙ ap (attributes no_attributes 0) is)
