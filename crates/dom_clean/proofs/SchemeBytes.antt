-- The scheme in front of bytes, by what its first bytes are.
use Rattle.std.proofs.Common.{◌≡◌, ◌≢◌, ℕ, ◌+◌, ◌<◌, ◌≤◌, ◌==◌, ◌&&◌, Bool, true, false, cond, List, [], ◌∷◌, Some, None, length, take, drop, get_or, refl, ap, ◌∙◌, arith}
use Rattle.std.specs.Prelude.{nat_lt, Option}
use Rattle.std.specs.Char.{is_ascii_alphabetic}
use Rattle.std.specs.List.{prefix_len}
use Rattle.std.specs.Option.{option_map}
use Rattle.std.proofs.lemmas.Bool.{eq-eqb, ne_eqb}
use Rattle.std.proofs.lemmas.Bool.Decides.{nat_tests}
use Rattle.std.proofs.lemmas.List.{get_or_past}
use Rattle.url.specs.Parser.{split_scheme}
use Rattle.url.specs.Scheme.{is_scheme_byte, scheme_len}

pub no_bytes : (bytes : List ℕ) → length bytes ≡ 0 → scheme_len bytes ≡ 0
unfolding scheme_len
no_bytes [] none = refl
no_bytes (b ∷ bytes) none = absurd (omega (arith, none))

pub no_letter : (bytes : List ℕ) → is_ascii_alphabetic (get_or bytes 0 0) ≡ false → scheme_len bytes ≡ 0
unfolding scheme_len
no_letter bytes isnt = ap (λ t. cond t (prefix_len is_scheme_byte bytes) 0) isnt

pub letter : (bytes : List ℕ) → is_ascii_alphabetic (get_or bytes 0 0) ≡ true → scheme_len bytes ≡ prefix_len is_scheme_byte bytes
unfolding scheme_len
letter bytes is = ap (λ t. cond t (prefix_len is_scheme_byte bytes) 0) is

never : (a : Bool) → (a && false) ≡ false
never true = refl
never false = refl

-- the scheme that was split off
abbrev pub front_scheme : List ℕ → Option (List ℕ)
front_scheme bytes = option_map (λ (split : List ℕ × List ℕ). split.0) (split_scheme bytes)

abbrev fronted : List ℕ → Bool → Option (List ℕ)
fronted bytes is = option_map (λ (split : List ℕ × List ℕ). split.0) (cond is (Some (take (scheme_len bytes) bytes, drop (scheme_len bytes + 1) bytes)) None)

pub without_length : (bytes : List ℕ) → scheme_len bytes ≡ 0 → front_scheme bytes ≡ None
unfolding split_scheme
without_length bytes none = ap (fronted bytes) (ap (λ n. nat_lt 0 n && (get_or bytes (scheme_len bytes) 0 == 58)) none)

pub without_colon : (bytes : List ℕ) → get_or bytes (scheme_len bytes) 0 ≢ 58 → front_scheme bytes ≡ None
unfolding split_scheme
without_colon bytes isnt =
    ap (fronted bytes) (ap (λ b. nat_lt 0 (scheme_len bytes) && b) (ne_eqb (get_or bytes (scheme_len bytes) 0) 58 isnt) ∙ never (nat_lt 0 (scheme_len bytes)))

pub without_end : (bytes : List ℕ) → length bytes ≤ scheme_len bytes → front_scheme bytes ≡ None
without_end bytes past = without_colon bytes (λ is. absurd (omega (arith, is, get_or_past bytes (scheme_len bytes) 0 past)))

some_long : (n : ℕ) → 0 < n → nat_lt 0 n ≡ true
some_long n some = grind (arith, nat_tests)

pub with_colon : (bytes : List ℕ) → 0 < scheme_len bytes → get_or bytes (scheme_len bytes) 0 ≡ 58 → front_scheme bytes ≡ Some (take (scheme_len bytes) bytes)
unfolding split_scheme
with_colon bytes some is =
    ap (fronted bytes) (ap (λ b. b && (get_or bytes (scheme_len bytes) 0 == 58)) (some_long (scheme_len bytes) some) ∙ eq-eqb (get_or bytes (scheme_len bytes) 0) 58 is)
