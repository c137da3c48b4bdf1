-- A comment before what declares the encoding.
use Rattle.std.proofs.Common.{◌≡◌, ℕ, List, [], ◌∷◌, ◌++◌, Bool, true, false, not, ◌&&◌, ◌==◌, drop, arith, refl, sym, ap, ◌∙◌, Some}
use Rattle.std.specs.Prelude.{codes, nat_eq}
use Rattle.std.specs.List.{list_all}
use Rattle.std.specs.Option.{option_map}
use Rattle.std.proofs.lemmas.Bool.Decides.{nat_tests}
use Rattle.encodings.specs.Bytes.{from_first}
use Rattle.encodings.specs.Prescan.{begins_with, comment_end, next_byte, prescan, step}
use Rattle.encodings.specs.Prescan.Step.{goes_on}
use Rattle.encodings.proofs.Declares.{and_left, and_right}
use Rattle.encodings.proofs.Steps.{step_goes_on}

abbrev inside : ℕ → Bool
inside byte = not (byte == 0x3E)

abbrev ends_comment : List ℕ → Bool
ends_comment bytes = begins_with (codes "-->") bytes

none_of : (a b : Bool) → (a && (b && false)) ≡ false
none_of true true = refl
none_of true false = refl
none_of false b = refl

other : (byte : ℕ) → inside byte ≡ true → nat_eq 0x3E byte ≡ false
other byte h = grind (arith, nat_tests)

third : (a b c : Bool) → c ≡ false → (a && (b && (c && true))) ≡ false
third true true c h = rw h refl
third true false c h = refl
third false b c h = refl

-- within the comment its end does not begin
not_yet : (byte : ℕ) (text rest : List ℕ) → list_all inside text ≡ true → ends_comment (byte ∷ (text ++ (codes "-->" ++ rest))) ≡ false
not_yet byte [] rest h = none_of (nat_eq 0x2D byte) (nat_eq 0x2D 0x2D)
not_yet byte (second ∷ []) rest h = none_of (nat_eq 0x2D byte) (nat_eq 0x2D second)
not_yet byte (second ∷ last ∷ text) rest h =
    third (nat_eq 0x2D byte) (nat_eq 0x2D second) (nat_eq 0x3E last) (other last (and_left (inside last) (list_all inside text) (and_right (inside second) (list_all inside (last ∷ text)) h)))

end_found : (text rest : List ℕ) → list_all inside text ≡ true → from_first ends_comment (text ++ (codes "-->" ++ rest)) ≡ Some (codes "-->" ++ rest)
unfolding from_first
end_found [] rest h = refl
end_found (byte ∷ text) rest h =
    let all : list_all inside text ≡ true = and_right (inside byte) (list_all inside text) h in
    let later : ends_comment (byte ∷ (text ++ (codes "-->" ++ rest))) ≡ false = not_yet byte text rest all in
    rw later (end_found text rest all)

abbrev pub comment_with : List ℕ → List ℕ → List ℕ
comment_with text rest = codes "<!--" ++ (text ++ (codes "-->" ++ rest))

comment_step : (text rest : List ℕ) → step (comment_with text rest) ≡ next_byte (comment_end (comment_with text rest))
unfolding step
comment_step text rest = refl

pub comment_passed : (text rest : List ℕ) → list_all inside text ≡ true → prescan 0 (comment_with text rest) ≡ prescan 0 rest
comment_passed text rest h =
    let found : from_first ends_comment (codes "--" ++ (text ++ (codes "-->" ++ rest))) ≡ Some (codes "-->" ++ rest) = end_found (codes "--" ++ text) rest h in
    let moves : step (comment_with text rest) ≡ goes_on rest = comment_step text rest ∙ ap (λ end. next_byte (option_map (drop 2) end)) found in
    sym (step_goes_on (comment_with text rest) rest (sym moves)).0
