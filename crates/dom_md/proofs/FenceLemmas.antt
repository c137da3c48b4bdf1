-- Runs of backticks.
use Rattle.std.proofs.Common.{◌≡◌, ℕ, ◌+◌, ◌<◌, ◌≤◌, true, false, List, [], ◌∷◌, ◌++◌, length, drop, get_or, refl, ◌∙◌, arith, inl, inr, ◌⊎◌}
use Rattle.std.specs.Prelude.{◌==◌, max}
use Rattle.std.proofs.lemmas.List.{at_drop_more, at_drop_all}
use Rattle.dom_nodes.specs.Ascii.{backtick}
use Rattle.dom_md.specs.Fences.{ticks, longest_run}

pub ticks-longest : (front text : List ℕ) → ticks text ≤ longest_run (front ++ text)
ticks-longest [] [] = omega arith
ticks-longest [] (b ∷ text) = omega arith
ticks-longest (a ∷ front) text = let rest = ticks-longest front text in omega (arith, rest)

-- the run that is under way, the longest one before it, and what is still to come
pub record Counts (bytes : List ℕ) (longest current at : ℕ) : Type 0 where
  pub all : max longest (max (current + ticks (drop at bytes)) (longest_run (drop at bytes))) ≡ longest_run bytes
  pub less : current ≤ longest
  pub small : longest ≤ at

pub counted-none : (bytes : List ℕ) → Counts bytes 0 0 0
counted-none bytes = let run = ticks-longest [] bytes in record { all = omega arith; less = omega arith; small = omega arith }

pub counted-tick : (bytes : List ℕ) (longest current at more : ℕ) → at < length bytes → (get_or bytes at 0 == backtick) ≡ true → more ≡ max longest (current + 1) → Counts bytes longest current at → Counts bytes more (current + 1) (at + 1)
counted-tick bytes longest current at more within tick is old =
    let t : ticks (drop at bytes) ≡ 1 + ticks (drop (at + 1) bytes) = at_drop_more ticks bytes at 0 within ∙ rw tick refl in
    let l : longest_run (drop at bytes) ≡ max (1 + ticks (drop (at + 1) bytes)) (longest_run (drop (at + 1) bytes)) = at_drop_more longest_run bytes at 0 within ∙ rw tick refl in
    let all = old.all in let less = old.less in let small = old.small in
    record { all = omega arith; less = omega arith; small = omega arith }

pub counted-other : (bytes : List ℕ) (longest current at : ℕ) → at < length bytes → (get_or bytes at 0 == backtick) ≡ false → Counts bytes longest current at → Counts bytes longest 0 (at + 1)
counted-other bytes longest current at within other old =
    let t : ticks (drop at bytes) ≡ 0 = at_drop_more ticks bytes at 0 within ∙ rw other refl in
    let l : longest_run (drop at bytes) ≡ max 0 (longest_run (drop (at + 1) bytes)) = at_drop_more longest_run bytes at 0 within ∙ rw other refl in
    let more = ticks-longest [] (drop (at + 1) bytes) in
    let all = old.all in let less = old.less in let small = old.small in
    record { all = omega arith; less = omega arith; small = omega arith }

-- one byte more, in each of the ways that the loop goes
pub counted : (bytes : List ℕ) (longest current at now more : ℕ) → at < length bytes → (((get_or bytes at 0 == backtick) ≡ true) × (now ≡ current + 1)) ⊎ (((get_or bytes at 0 == backtick) ≡ false) × (now ≡ 0)) →
    ((longest < now) × (more ≡ now)) ⊎ ((now ≤ longest) × (more ≡ longest)) → Counts bytes longest current at → Counts bytes more now (at + 1)
counted bytes longest current at now more within (inl p) way old = rw p.1 (counted-tick bytes longest current at more within p.0 (greater way) old)
  where
    greater : ((longest < now) × (more ≡ now)) ⊎ ((now ≤ longest) × (more ≡ longest)) → more ≡ max longest (current + 1)
    greater (inl q) = let a = q.0 in let b = q.1 in let n = p.1 in omega arith
    greater (inr q) = let a = q.0 in let b = q.1 in let n = p.1 in omega arith
counted bytes longest current at now more within (inr p) (inl q) old = absurd (let a = q.0 in let n = p.1 in omega arith)
counted bytes longest current at now more within (inr p) (inr q) old = rw (p.1, q.1) (counted-other bytes longest current at within p.0 old)

pub counted-all : (bytes : List ℕ) (longest current at : ℕ) → length bytes ≤ at → Counts bytes longest current at → longest ≡ longest_run bytes
counted-all bytes longest current at past old =
    let t : ticks (drop at bytes) ≡ 0 = at_drop_all ticks bytes at past in
    let l : longest_run (drop at bytes) ≡ 0 = at_drop_all longest_run bytes at past in
    let all = old.all in let less = old.less in omega arith
