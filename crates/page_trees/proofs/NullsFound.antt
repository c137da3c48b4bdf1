-- Whether a null is found in a text says whether it has one.
use Rattle.std.proofs.Common.{◌≡◌, ◌<◌, ℕ, suc, zero, Bool, true, false, not, List, [], ◌∷◌, length, refl, sym, ap, ◌∙◌, arith}
use Rattle.std.specs.Prelude.{None, Option, Some, get_or, is_some, ◌&&◌}
use Rattle.std.proofs.lemmas.Bool.{eq-eqb}
use Rattle.memchr.specs.Find.{IsFirstByte, is_byte}
use Rattle.page_trees.specs.CharacterSteps.{has_no_null, is_null}
use Rattle.page_trees.proofs.WordsApart.{nowhere_null}

null_at : (bytes : List ℕ) (n : ℕ) → n < length bytes → is_null (get_or bytes n 0) ≡ true → has_no_null bytes ≡ false
null_at [] n low e = absurd (omega (arith, low))
null_at (b ∷ bs) zero low e = ap (λ (x : Bool). not x && has_no_null bs) e
null_at (b ∷ bs) (suc n) low e = ap (λ (x : Bool). not (is_null b) && x) (null_at bs n (omega (arith, low)) e) ∙ by (not (is_null b))
  where
    by : (x : Bool) → (x && false) ≡ false
    by true = refl
    by false = refl

pub is_found : (bytes : List ℕ) (found : Option ℕ) → IsFirstByte (is_byte 0) bytes found → is_some found ≡ not (has_no_null bytes)
is_found bytes None nowhere = sym (ap not (nowhere_null bytes (λ i low e. nowhere i (omega arith) low (eq-eqb (get_or bytes i 0) 0 e))))
is_found bytes (Some at) found = sym (ap not (null_at bytes at found.0.high found.1))
