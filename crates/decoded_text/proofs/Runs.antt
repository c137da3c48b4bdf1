-- Runs of ASCII.
use Rattle.std.proofs.Common.{◌≡◌, ℕ, ◌+◌, List, take, drop, sym, subst}
use Rattle.std.proofs.lemmas.Str.{IsUtf8-from_ascii, IsAscii-append}
use Rattle.std.specs.Str.{IsAscii, IsUtf8}
use Rattle.std.proofs.Math.Seq.{take-add}

pub ascii_more : (n m : ℕ) (bs : List ℕ) → IsAscii (take n bs) → IsAscii (take m (drop n bs)) → IsAscii (take (n + m) bs)
ascii_more n m bs h k = subst IsAscii (sym (take-add n m bs)) (IsAscii-append (take n bs) (take m (drop n bs)) h k)

pub utf8_front : (front bs : List ℕ) → front ≡ bs → IsAscii bs → IsUtf8 front
utf8_front front bs is h = subst IsUtf8 (sym is) (IsUtf8-from_ascii bs h)
