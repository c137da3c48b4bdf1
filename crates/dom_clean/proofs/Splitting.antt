-- The bytes before the first of some byte.
use Rattle.std.proofs.Common.{◌≡◌, ℕ, ◌+◌, ◌<◌, ◌≤◌, List, ◌∷◌, ◌++◌, All, length, take, drop, get_or, sym, ap, ◌∙◌, arith, take-append-drop}
use Rattle.std.proofs.lemmas.Bool.{eq-eqb}
use Rattle.std.proofs.lemmas.List.{drop_more, get_or-take, length-take-le}
use Rattle.std.proofs.lemmas.List.Elements.{All-from_get_or}
use Rattle.memchr.specs.Find.{Nowhere, Passes, is_byte}
use Rattle.url.specs.Input.{split_once}
use Rattle.url.proofs.InputLemmas.{IsNot, split_once_at, split_once_none}

none_there : (b : ℕ) (bytes : List ℕ) (n : ℕ) → n ≤ length bytes → Nowhere (Passes (is_byte b) bytes) 0 n → All (IsNot b) (take n bytes)
none_there b bytes n few nowhere = All-from_get_or (IsNot b) (take n bytes) 0
    (λ k low same. let short : length (take n bytes) ≡ n = length-take-le n bytes few in
    let below : k < n = omega (arith, low, short) in
    nowhere k (omega arith) below (eq-eqb (get_or bytes k 0) b (sym (get_or-take n bytes k 0 below) ∙ same)))

pub found_before : (b : ℕ) (bytes : List ℕ) (n : ℕ) → n < length bytes → get_or bytes n 0 ≡ b → Nowhere (Passes (is_byte b) bytes) 0 n → (split_once b bytes).0 ≡ take n bytes
found_before b bytes n low is nowhere =
    let cut : bytes ≡ take n bytes ++ b ∷ drop (n + 1) bytes =
    sym (take-append-drop n bytes) ∙ ap (λ l. take n bytes ++ l) (drop_more bytes n 0 low ∙ ap (λ c. c ∷ drop (n + 1) bytes) is) in
    ap (λ l. (split_once b l).0) cut ∙ ap (λ s. s.0) (split_once_at b (take n bytes) (drop (n + 1) bytes) (none_there b bytes n (omega (arith, low)) nowhere))

pub found_nowhere : (b : ℕ) (bytes : List ℕ) → Nowhere (Passes (is_byte b) bytes) 0 (length bytes) → (split_once b bytes).0 ≡ bytes
found_nowhere b bytes nowhere = ap (λ s. s.0) (split_once_none b bytes (All-from_get_or (IsNot b) bytes 0 (λ k low same. nowhere k (omega arith) low (eq-eqb (get_or bytes k 0) b same))))
