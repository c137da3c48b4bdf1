-- Fronts of a text, and where it may be cut.
use Rattle.std.proofs.Common.{◌≡◌, ℕ, zero, suc, ◌+◌, ◌<◌, ◌≤◌, get_or, add-one, List, [], ◌∷◌, Bool, true, false, cond, refl, sym, ap, arith, take, length}
use Rattle.std.specs.Prelude.{nat_lt}
use Rattle.std.specs.List.{prefix_len, take_while}
use Rattle.std.specs.Str.{IsUtf8, IsCharBoundary}
use Rattle.std.proofs.lemmas.Bool.{true≢false}
use Rattle.std.proofs.lemmas.Bool.Decides.{nat_tests}
use Rattle.std.proofs.lemmas.List.Sums.{prefix_len-le-length, prefix_len_passes, prefix_len_stops}
use Rattle.std.proofs.lemmas.Str.{IsCharBoundary-after_ascii, IsCharBoundary-start}
use Rattle.dom_selectors.specs.declared.mini_selector.scan.CharKind.{CharKind}
use Rattle.dom_selectors.specs.declared.mini_selector.scan.CharKind.TheVariants.{Blank, Word}
use Rattle.dom_selectors.specs.Characters.{begins}
use Rattle.dom_selectors.specs.MiniLetters.{is_blank, is_word, isnt, passes}

blank_small : (b : ℕ) → is_blank b ≡ true → b < 128
blank_small b h = grind (arith, nat_tests)

word_small : (b : ℕ) → is_word b ≡ true → b < 128
word_small b h = grind (arith, nat_tests)

stop_small : (stop b : ℕ) → stop < 128 → isnt stop b ≡ false → b < 128
stop_small stop b small h = grind (arith, nat_tests)

-- a text may be cut behind ASCII characters
pub ascii_boundary : (p : ℕ → Bool) (text : List ℕ) → IsUtf8 text → ((b : ℕ) → p b ≡ true → b < 128) → IsCharBoundary text (prefix_len p text)
ascii_boundary p text u small = go (prefix_len p text) (prefix_len-le-length p text) (λ k l. prefix_len_passes p text k 0 l)
  where
    go : (n : ℕ) → n ≤ length text → ((k : ℕ) → k < n → p (get_or text k 0) ≡ true) → IsCharBoundary text n
    go zero l h = IsCharBoundary-start text u
    go (suc n) l h = rw (← add-one n) (IsCharBoundary-after_ascii text n u (omega arith) (small _ (h n (omega arith))))

pub run_boundary : (kind : CharKind) (text : List ℕ) → IsUtf8 text → IsCharBoundary text (prefix_len (passes kind) text)
run_boundary Blank text u = ascii_boundary is_blank text u blank_small
run_boundary Word text u = ascii_boundary is_word text u word_small

-- and before an ASCII character
pub stop_boundary : (stop : ℕ) (text : List ℕ) → stop < 128 → IsCharBoundary text (prefix_len (isnt stop) text)
stop_boundary stop text small = (prefix_len-le-length (isnt stop) text, λ l h. absurd (go l h))
  where
    go : prefix_len (isnt stop) text < length text → 128 ≤ get_or text (prefix_len (isnt stop) text) 0 → ⊥
    go l h =
        let below = stop_small stop _ small (prefix_len_stops (isnt stop) text 0 l) in
        omega arith

-- the front is empty where the first character fails the test
pub front_none : (p : ℕ → Bool) (text : List ℕ) → begins p text ≡ true → 0 < length (take_while p text)
front_none p [] h = absurd (true≢false (sym h))
front_none p (c ∷ text) h =
    let e : prefix_len p (c ∷ text) ≡ 1 + prefix_len p text = ap (λ b. cond b (1 + prefix_len p text) 0) h in
    let one : 1 + prefix_len p text ≡ suc (prefix_len p text) = omega arith in
    rw (e, one) (omega arith)

pub front_some : (p : ℕ → Bool) (text : List ℕ) → 0 < length (take_while p text) → begins p text ≡ true
front_some p [] h = absurd (omega arith)
front_some p (c ∷ text) h = by (p c) refl
  where
    by : (b : Bool) → p c ≡ b → p c ≡ true
    by true e = e
    by false e =
        let none : prefix_len p (c ∷ text) ≡ 0 = ap (λ b. cond b (1 + prefix_len p text) 0) e in
        let short : length (take_while p (c ∷ text)) ≡ 0 = ap (λ n. length (take n (c ∷ text))) none in
        absurd (omega arith)

pub not_ascii : (c : ℕ) (text more : List ℕ) → text ≡ c ∷ more → 128 ≤ c → begins (λ b. nat_lt b 128) text ≡ false
not_ascii c text more e high = rw e (grind (arith, nat_tests))

-- and behind an ASCII character at the front
pub first_boundary : (text more : List ℕ) (c : ℕ) → IsUtf8 text → text ≡ c ∷ more → c < 128 → IsCharBoundary text 1
first_boundary [] more c u e small = cc
first_boundary (d ∷ text) more c u e small = let same : d ≡ c = cc in IsCharBoundary-after_ascii (d ∷ text) 0 u (omega arith) (omega arith)
