-- What 16 bytes of a text show of how they are written.
use Rattle.std.proofs.Common.{◌≡◌, ℕ, zero, suc, ◌+◌, ◌<◌, ◌≤◌, Bool, true, false, List, length, drop, get_or, replicate, refl, sym, ◌∙◌, ap, subst, arith, inl, inr, bit_or, bit_xor, w8, Fits}
use Rattle.std.specs.Prelude.{◌==◌, ◌&&◌, ◌||◌, nat_le, not, if◌then◌else◌}
use Rattle.std.specs.Char.{is_ascii_whitespace}
use Rattle.std.specs.Simd.Lanes.{Each1, zip2}
use Rattle.std.proofs.lemmas.Bool.{agree_below, agree_below_at, and_from, cases_Bool, eqb-true, leb-false}
use Rattle.std.proofs.lemmas.Bool.Decides.{nat_tests}
use Rattle.std.proofs.lemmas.List.{at_drop_more}
use Rattle.std.proofs.lemmas.Simd.{Each1-get_or, below_from_Fits, get_or-replicate, length-replicate}
use Rattle.dom_nodes.specs.Ascii.{caret, delete, exclamation_mark, space}
use Rattle.dom_md.specs.Chunks.{is_mark, is_marked}
use Rattle.byte_lanes.specs.Lanes.{Marks}
use Rattle.dom_md.specs.Written.{begins_word, is_changed, is_special}
use Rattle.byte_lanes.proofs.LaneLemmas.{HasLanes-zip2}
use Rattle.dom_md.proofs.WrittenLemmas.{IsAsWrittenTo, same_more, unmarked}

-- ---- the bytes that may be marks

-- from `[` to `_`, from `{` to `~`, and 127
abbrev near_bracket : ℕ → Bool
near_bracket b = nat_le (bit_xor (bit_or b 32) 127) 4

abbrev tested : (bracket : Bool) → ℕ → Bool
tested bracket b = bracket || ((b == 96 || b == 42) || (b == 60 || b == 33))

special_table : agree_below (λ n. tested (near_bracket n) n) is_special 256 ≡ true
special_table = refl

pub marks-special : (v r : List ℕ) → length v ≡ 16 → Each1 (Fits w8) v
    → Marks r (λ k. nat_le (get_or (zip2 bit_xor (zip2 bit_or v (replicate 16 32)) (replicate 16 127)) k 0) 4 || ((get_or v k 0 == 96 || get_or v k 0 == 42) || (get_or v k 0 == 60 || get_or v k 0 == 33)))
    → Marks r (λ k. is_special (get_or v k 0))
marks-special v r long fits m =
    let low = HasLanes-zip2 bit_or v (replicate 16 32) long (length-replicate {A = ℕ} 16 32) in
    let turned = HasLanes-zip2 bit_xor (zip2 bit_or v (replicate 16 32)) (replicate 16 127) low.long (length-replicate {A = ℕ} 16 127) in
    record {
      long = m.long;
      each = λ k l.
          let b = get_or v k 0 in
          let lane : get_or (zip2 bit_xor (zip2 bit_or v (replicate 16 32)) (replicate 16 127)) k 0 ≡ bit_xor (bit_or b 32) 127 =
          turned.each k l ∙ (ap (λ x. bit_xor x (get_or (replicate 16 127) k 0)) (low.each k l ∙ ap (bit_or b) (get_or-replicate 16 k 32 0 l)) ∙ ap (bit_xor (bit_or b 32)) (get_or-replicate 16 k 127 0 l)) in
          let below : b < 256 = Each1-get_or (λ x. x < 256) v k 0 (omega arith) (below_from_Fits w8 v fits) in
          m.each k l
          ∙ (ap (λ x. if tested (nat_le x 4) b then 255 else 0) lane
          ∙ ap (λ t. if t then 255 else 0) (agree_below_at (λ n. tested (near_bracket n) n) is_special 256 b special_table below));
    }

-- ---- a byte that neither test shows

pub or_none : (a b : Bool) → (a || b) ≡ false → (a ≡ false) × (b ≡ false)
or_none true b h = absurd (cc)
or_none false b h = (refl, h)

-- the byte, or for a space the one behind it
abbrev pub behind : List ℕ → ℕ → ℕ
behind text i = if get_or text i 0 == space then get_or text (i + 1) 0 else get_or text i 0

dark-above : (b : ℕ) → 32 < b → is_ascii_whitespace b ≡ false
dark-above b h = grind (arith, nat_tests)

space-kept : (escape : Bool) (b : ℕ) (text : List ℕ) → (b == space && begins_word text) ≡ true → is_changed escape b text ≡ false
space-kept escape b text h = elim (cases_Bool (is_ascii_whitespace b)) as (λ t. is_changed escape b text ≡ false) [
  | inl white ↦ rw (white, h) refl
  | inr dark ↦ absurd (let same : b ≡ space = eqb-true b space (first _ _ h) in let light : is_ascii_whitespace b ≡ true = rw same refl in cc)
]
  where
    first : (x y : Bool) → (x && y) ≡ true → x ≡ true
    first true y h = refl
    first false y h = absurd (cc)

pub kept-low : (escape : Bool) (text : List ℕ) (i : ℕ) → i + 1 < length text → nat_le (behind text i) 32 ≡ false → (escape && is_special (get_or text i 0)) ≡ false →
    is_changed escape (get_or text i 0) (drop (i + 1) text) ≡ false
kept-low escape text i within gap plain = elim (cases_Bool (get_or text i 0 == space)) [
  | inl same ↦
      let above : 32 < get_or text (i + 1) 0 = leb-false (get_or text (i + 1) 0) 32 (rw same at gap) in
      let word : begins_word (drop (i + 1) text) ≡ true = at_drop_more begins_word text (i + 1) 0 within ∙ ap not (dark-above (get_or text (i + 1) 0) above) in
      space-kept escape (get_or text i 0) (drop (i + 1) text) (and_from _ _ same word)
  | inr other ↦
      let above : 32 < get_or text i 0 = leb-false (get_or text i 0) 32 (rw other at gap) in
      rw (dark-above (get_or text i 0) above) (no_mark escape (get_or text i 0) (drop (i + 1) text) plain)
]
  where
    no_mark : (escape : Bool) (b : ℕ) (rest : List ℕ) → (escape && is_special b) ≡ false → (escape && is_marked b rest) ≡ false
    no_mark false b rest h = refl
    no_mark true b rest h = (let both = or_none (is_mark b) (b == exclamation_mark) (or_none (is_mark b || b == exclamation_mark) (b == caret || b == 123 || b == 125 || b == delete) h).0 in unmarked b rest both.0 both.1)

-- ---- some bytes more

pub same_bytes : (escape : Bool) (text : List ℕ) (at r : ℕ) → at + r ≤ length text → IsAsWrittenTo escape text at
    → ((k : ℕ) → k < r → is_changed escape (get_or text (at + k) 0) (drop (at + k + 1) text) ≡ false) → IsAsWrittenTo escape text (at + r)
same_bytes escape text at zero within so h = (let none : at + zero ≡ at = omega arith in subst (IsAsWrittenTo escape text) (sym none) so)
same_bytes escape text at (suc r) within so h =
    let front = same_bytes escape text at r (omega arith) so (λ k l. h k (omega arith)) in
    let more : at + r + 1 ≡ at + suc r = omega arith in
    subst (IsAsWrittenTo escape text) more (same_more escape text (at + r) (omega arith) front (h r (omega arith)))
