-- What stands before the rest of a text.
use Rattle.std.proofs.Common.{◌≡◌, ◌-◌, ℕ, List, [], ◌∷◌, ◌++◌, length, take, length-append, arith}
use Rattle.std.proofs.Math.Seq.{take-append_seam}
use Rattle.std.specs.Str.{IsUtf8, IsCharBoundary}
use Rattle.std.proofs.lemmas.Str.{IsCharBoundary-start}

-- a text may be cut where a text begins
pub cut_boundary : (front rest : List ℕ) → IsUtf8 rest → IsCharBoundary (front ++ rest) (length front)
cut_boundary [] rest u = IsCharBoundary-start rest u
cut_boundary (x ∷ xs) rest u =
    let more = cut_boundary xs rest u in
    (omega (arith, more.0), λ l k. more.1 (omega arith) k)

-- how long a front is, and what it is
pub before_rest : (text front rest : List ℕ) → text ≡ front ++ rest → (length text - length rest ≡ length front) × (take (length text - length rest) text ≡ front)
before_rest text front rest e =
    let len : length text - length rest ≡ length front = rw e (simp length-append (omega arith)) in
    (len, rw (len, e) (take-append_seam front rest))
