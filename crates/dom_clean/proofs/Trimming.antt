-- Bytes without controls and spaces at their ends.
use Rattle.std.proofs.Common.{ℕ, ◌≡◌, ◌+◌, ◌-◌, true, false, cond, List, [], ◌∷◌, ◌++◌, drop, length, suc, take, take_all, refl, ap, ◌∙◌, arith, length-append}
use Rattle.std.specs.List.{prefix_len, suffix_len}
use Rattle.std.proofs.lemmas.List.{reverse-append, take-append-le}
use Rattle.std.proofs.lemmas.List.Sums.{suffix_len-le-length}
use Rattle.url.specs.Input.{is_c0_control_or_space, trim_c0_control_and_space, trim_end}

abbrev passing : List ℕ → ℕ
passing bytes = prefix_len is_c0_control_or_space bytes

pub front_goes : (b : ℕ) (bytes : List ℕ) → is_c0_control_or_space b ≡ true → trim_c0_control_and_space (b ∷ bytes) ≡ trim_c0_control_and_space bytes
unfolding trim_c0_control_and_space
front_goes b bytes is =
    let next : 1 + passing bytes ≡ suc (passing bytes) = omega arith in
    ap (λ t. trim_end is_c0_control_or_space (drop (cond t (1 + passing bytes) 0) (b ∷ bytes))) is
    ∙ ap (λ n. trim_end is_c0_control_or_space (drop n (b ∷ bytes))) next

pub front_stays : (b : ℕ) (bytes : List ℕ) → is_c0_control_or_space b ≡ false → trim_c0_control_and_space (b ∷ bytes) ≡ trim_end is_c0_control_or_space (b ∷ bytes)
unfolding trim_c0_control_and_space
front_stays b bytes isnt = ap (λ t. trim_end is_c0_control_or_space (drop (cond t (1 + passing bytes) 0) (b ∷ bytes))) isnt

pub none_left : trim_c0_control_and_space [] ≡ []
unfolding trim_c0_control_and_space
none_left = refl

behind : (bytes : List ℕ) (b : ℕ) → suffix_len is_c0_control_or_space (bytes ++ b ∷ []) ≡ cond (is_c0_control_or_space b) (1 + suffix_len is_c0_control_or_space bytes) 0
behind bytes b = ap passing (reverse-append bytes (b ∷ []))

pub end_goes : (bytes : List ℕ) (b : ℕ) → is_c0_control_or_space b ≡ true → trim_end is_c0_control_or_space (bytes ++ b ∷ []) ≡ trim_end is_c0_control_or_space bytes
end_goes bytes b is =
    let all = bytes ++ b ∷ [] in
    let n = suffix_len is_c0_control_or_space bytes in
    let few = suffix_len-le-length is_c0_control_or_space bytes in
    let count : suffix_len is_c0_control_or_space all ≡ 1 + n = behind bytes b ∙ ap (λ t. cond t (1 + n) 0) is in
    let long : length all ≡ length bytes + 1 = length-append bytes (b ∷ []) in
    let place : length all - suffix_len is_c0_control_or_space all ≡ length bytes - n = omega (arith, count, long, few) in
    ap (λ k. take k all) place ∙ take-append-le (length bytes - n) bytes (b ∷ []) (omega (arith, few))

pub end_stays : (bytes : List ℕ) (b : ℕ) → is_c0_control_or_space b ≡ false → trim_end is_c0_control_or_space (bytes ++ b ∷ []) ≡ bytes ++ b ∷ []
end_stays bytes b isnt =
    let all = bytes ++ b ∷ [] in
    let count : suffix_len is_c0_control_or_space all ≡ 0 = behind bytes b ∙ ap (λ t. cond t (1 + suffix_len is_c0_control_or_space bytes) 0) isnt in
    take_all (length all - suffix_len is_c0_control_or_space all) all (omega (arith, count))

pub end_none : trim_end is_c0_control_or_space [] ≡ []
end_none = refl
