-- Characters are counted one after the other.
use Rattle.std.proofs.Common.{◌≡◌, ℕ, zero, suc, ◌+◌, ◌-◌, ◌^◌, ◌<◌, ◌≤◌, Bool, true, false, List, [], ◌∷◌, ◌++◌, length, drop, get_or, sym, ◌∙◌, ap, arith}
use Rattle.std.proofs.lemmas.Bool.Decides.{nat_tests}
use Rattle.std.specs.Prelude.{nat_lt, min, if◌then◌else◌}
use Rattle.std.specs.Char.{is_whitespace}
use Rattle.std.specs.List.{flat_map}
use Rattle.std.specs.Str.{IsUtf8, chars}
use Rattle.std.proofs.lemmas.List.{at_drop_more, at_drop_all, length_push}
use Rattle.std.proofs.lemmas.Str.{chars-append, chars-nil}
use Rattle.dom_links.specs.Texts.{IsCounting, collapsed_on, saturated}

-- of a text, the characters that weren't read yet, and then those of the rest
pub record IsPartCounted (count : ℕ) (gap : Bool) (text read rest : List ℕ) (total : ℕ) : Type 0 where
  pub exact : ℕ
  pub is_saturated : count ≡ saturated exact
  pub makes : exact + length (collapsed_on (nat_lt 0 exact) gap (drop (length read) (chars text) ++ chars rest)) ≡ total

pub starts : (count : ℕ) (gap : Bool) (text rest : List ℕ) (total : ℕ) → IsUtf8 text → IsCounting count gap (text ++ rest) total → IsPartCounted count gap text [] rest total
starts count gap text rest total utf8 h =
    record { exact = h.exact; is_saturated = h.is_saturated; makes = ap (λ cs. h.exact + length (collapsed_on (nat_lt 0 h.exact) gap cs)) (sym (chars-append text rest utf8)) ∙ h.makes }

pub ends : (count : ℕ) (gap : Bool) (text read rest : List ℕ) (total : ℕ) → length (chars text) ≤ length read → IsPartCounted count gap text read rest total → IsCounting count gap rest total
ends count gap text read rest total past h =
    record { exact = h.exact; is_saturated = h.is_saturated; makes = sym (at_drop_all (λ cs. h.exact + length (collapsed_on (nat_lt 0 h.exact) gap (cs ++ chars rest))) (chars text) (length read) past) ∙ h.makes }

saturated_some : (count exact : ℕ) → count ≡ saturated exact → nat_lt 0 count ≡ nat_lt 0 exact
saturated_some count zero e = ap (nat_lt 0) e
saturated_some count (suc n) e =
    let some : 0 < count = omega (arith, e) in
    let one : nat_lt 0 count ≡ true = grind (arith, nat_tests, some) in
    let other : nat_lt 0 (suc n) ≡ true = grind (arith, nat_tests) in
    one ∙ sym other

-- one more character was read
step : (count new : ℕ) (gap next : Bool) (text read rest : List ℕ) (total c : ℕ) (h : IsPartCounted count gap text read rest total) → length read < length (chars text) → c ≡ get_or (chars text) (length read) c →
    (m : ℕ) → new ≡ saturated m → ((cs : List ℕ) → h.exact + length (collapsed_on (nat_lt 0 h.exact) gap (c ∷ cs)) ≡ m + length (collapsed_on (nat_lt 0 m) next cs)) → IsPartCounted new next text (read ++ c ∷ []) rest total
step count new gap next text read rest total c h within is m counts same =
    let n : length (read ++ c ∷ []) ≡ length read + 1 = length_push read c in
    let left = λ (cs : List ℕ). h.exact + length (collapsed_on (nat_lt 0 h.exact) gap (cs ++ chars rest)) in
    let here = at_drop_more left (chars text) (length read) c within in
    let there = ap (λ x. left (x ∷ drop (length read + 1) (chars text))) is in
    record {
      exact = m;
      is_saturated = counts;
      makes = rw n (sym (same (drop (length read + 1) (chars text) ++ chars rest)) ∙ (there ∙ (sym here ∙ h.makes)));
    }

pub white_read : (count : ℕ) (gap next : Bool) (text read rest : List ℕ) (total c : ℕ) → length read < length (chars text) → c ≡ get_or (chars text) (length read) c → is_whitespace c ≡ true → next ≡ nat_lt 0 count →
    IsPartCounted count gap text read rest total → IsPartCounted count next text (read ++ c ∷ []) rest total
white_read count gap next text read rest total c within is white begun h =
    let same : next ≡ nat_lt 0 h.exact = begun ∙ saturated_some count h.exact h.is_saturated in
    step count count gap next text read rest total c h within is h.exact h.is_saturated (λ cs. rw white (ap (λ b. h.exact + length (collapsed_on (nat_lt 0 h.exact) b cs)) (sym same)))

-- how many characters a character is, behind a gap or not
abbrev pub with_gap : Bool → ℕ
with_gap gap = if gap then 2 else 1

saturated_more : (count exact more : ℕ) → count ≡ saturated exact → min (count + more) (2 ^ 64 - 1) ≡ saturated (exact + more)
saturated_more count exact more e = omega (arith, e)

pub letter_read : (count more new : ℕ) (gap : Bool) (text read rest : List ℕ) (total c : ℕ) → length read < length (chars text) → c ≡ get_or (chars text) (length read) c → is_whitespace c ≡ false →
    new ≡ min (count + more) (2 ^ 64 - 1) → more ≡ with_gap gap → IsPartCounted count gap text read rest total → IsPartCounted new false text (read ++ c ∷ []) rest total
letter_read count more new true text read rest total c within is letter counted by h =
    let some : nat_lt 0 (h.exact + 2) ≡ true = grind (arith, nat_tests) in
    step count new true false text read rest total c h within is (h.exact + 2) (counted ∙ (ap (λ m. min (count + m) (2 ^ 64 - 1)) by ∙ saturated_more count h.exact _ h.is_saturated)) (λ cs. rw letter (rw some (omega (arith))))
letter_read count more new false text read rest total c within is letter counted by h =
    let some : nat_lt 0 (h.exact + 1) ≡ true = grind (arith, nat_tests) in
    step count new false false text read rest total c h within is (h.exact + 1) (counted ∙ (ap (λ m. min (count + m) (2 ^ 64 - 1)) by ∙ saturated_more count h.exact _ h.is_saturated)) (λ cs. rw letter (rw some (omega (arith))))

-- nothing is left
pub all_counted : {A : Type 0} (texts : A → List ℕ) (ns : List A) (count : ℕ) (gap : Bool) (total : ℕ) → ns ≡ [] → IsCounting count gap (flat_map texts ns) total → count ≡ saturated total
all_counted texts ns count gap total none h =
    let rest : length (collapsed_on (nat_lt 0 h.exact) gap (chars (flat_map texts ns))) ≡ 0 = ap (λ ms. length (collapsed_on (nat_lt 0 h.exact) gap (chars (flat_map texts ms)))) none ∙ ap (λ cs. length (collapsed_on (nat_lt 0 h.exact) gap cs)) chars-nil in
    let whole = h.makes in
    let same : h.exact ≡ total = omega (arith, rest, whole) in
    h.is_saturated ∙ ap saturated same
