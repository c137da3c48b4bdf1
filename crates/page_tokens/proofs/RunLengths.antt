-- How long a run is, and what is skipped on the way to its end.
use Rattle.std.proofs.Common.{ℕ, ◌≡◌, zero, suc, ◌<◌, ◌≤◌, ◌+◌, ◌-◌, ◌*◌, Bool, true, false, not, List, [], ◌∷◌, refl, sym, ap, ◌∙◌, length, take, drop, get_or, arith, inl, inr}
use Rattle.page_tokens.specs.RunEnds.{run_len_of}
use Rattle.page_tokens.specs.Runs.{IsRun, ends_text}
use Rattle.page_tokens.specs.declared.tokenizer.runs.Run.{Run}
use Rattle.page_tokens.specs.declared.tokenizer.runs.Run.TheVariants as run
use Rattle.std.specs.List.{list_all, prefix_len}
use Rattle.std.specs.Simd.{first_chunks}
use Rattle.std.specs.Simd.Lanes.{chunk}
use Rattle.std.proofs.lemmas.Bool.{and_parts, cases_lt}
use Rattle.std.proofs.lemmas.List.{drop-drop}
use Rattle.std.proofs.lemmas.List.Sums.{prefix_len_is}
use Rattle.std.proofs.lemmas.Simd.{get_or-chunk}

-- no byte before n ends the run, and that at n does, if there is one
pub run_len_is : (ends : ℕ → Bool) (text : List ℕ) (n : ℕ) → n ≤ length text → ((k : ℕ) → k < n → ends (get_or text k 0) ≡ false) →
    (n < length text → ends (get_or text n 0) ≡ true) → n ≡ prefix_len (λ b. not (ends b)) text
run_len_is ends text n within before at =
    sym (prefix_len_is (λ b. not (ends b)) text n 0 within (λ k h. ap not (before k h)) (λ h. ap not (at h)))

-- nothing ends the run
pub whole_run : (ends : ℕ → Bool) (text : List ℕ) → list_all (λ b. not (ends b)) text ≡ true → prefix_len (λ b. not (ends b)) text ≡ length text
whole_run ends [] all = refl
whole_run ends (b ∷ text) all =
    let parts : (not (ends b) ≡ true) × (list_all (λ b. not (ends b)) text ≡ true) = and_parts (not (ends b)) (list_all (λ b. not (ends b)) text) all in
    let one : 1 + length text ≡ length (b ∷ text) = omega arith in
    rw (parts.0, whole_run ends text parts.1) one

-- ---- blocks of sixteen bytes

block_of : (count index : ℕ) (bytes d : List ℕ) → index < count → get_or (first_chunks 16 count bytes) index d ≡ chunk (16 * index) 16 bytes
block_of zero index bytes d h = absurd (omega (arith, h))
block_of (suc count) zero bytes d h = refl
block_of (suc count) (suc index) bytes d h =
    let at : 16 + 16 * index ≡ 16 * suc index = omega arith in
    block_of count index (drop 16 bytes) d (omega (arith, h)) ∙ ap (take 16) (drop-drop (16 * index) 16 bytes ∙ ap (λ n. drop n bytes) at)

-- a byte of a block is a byte of the text
pub in_block : (count index k : ℕ) (bytes d : List ℕ) → index < count → k < 16 → get_or (get_or (first_chunks 16 count bytes) index d) k 0 ≡ get_or bytes (16 * index + k) 0
in_block count index k bytes d h l = ap (λ b. get_or b k 0) (block_of count index bytes d h) ∙ get_or-chunk (16 * index) 16 bytes k 0 l

-- what is skipped in the blocks before this one and in this one
pub skipped : (test : ℕ → Bool) (blocks : List (List ℕ)) (count index len k : ℕ) (bytes d : List ℕ) → blocks ≡ first_chunks 16 count bytes → index < count → len ≤ 16 →
    ((j : ℕ) → j < 16 * index → test (get_or bytes j 0) ≡ false) → ((j : ℕ) → j < len → test (get_or (get_or blocks index d) j 0) ≡ false) → k < 16 * index + len → test (get_or bytes k 0) ≡ false
skipped test blocks count index len k bytes d are h within before here l = elim (cases_lt k (16 * index)) [
  | inl below ↦ before k below
  | inr above ↦ (
      let j : ℕ = k - 16 * index in
      let short : j < len = omega (arith, l, above) in
      let at : 16 * index + j ≡ k = omega (arith, above) in
      let there : get_or bytes k 0 ≡ get_or (get_or blocks index d) j 0 =
      ap (λ n. get_or bytes n 0) (sym at) ∙ sym (in_block count index j bytes d h (omega (arith, short, within))) ∙ ap (λ bs. get_or (get_or bs index d) j 0) (sym are) in
      ap test there ∙ here j short)
]

-- ---- text

pub run_of_text : (kind : Run) (text : List ℕ) (n : ℕ) → n ≡ run_len_of run.Text text → kind ≡ run.Text → IsRun text → n ≡ length text
run_of_text kind text n len is all = len ∙ whole_run ends_text text all
