-- A number past the limit in a part of a text stands in the text.
use Rattle.std.proofs.Common.{◌≡◌, ℕ, ◌+◌, ◌<◌, ◌≤◌, List, [], ◌∷◌, Bool, true, false, cond, nat_lt, ◌-◌, length, length-drop, take, drop, ap, sym, true≢false, arith}
use Rattle.std.proofs.lemmas.Bool.Decides.{nat_tests}
use Rattle.std.proofs.lemmas.List.{take_all}
use Rattle.dom_selectors.specs.declared.fault.SelectorFault.{SelectorFault}
use Rattle.dom_selectors.specs.declared.fault.SelectorFault.TheVariants.{Syntax, UnknownPseudoClass, Number, NestedHas, TooDeep, Memory}
use Rattle.dom_selectors.specs.Characters.{after_white, digits_len, greatest_number, how_many_large, number_at}
use Rattle.dom_selectors.specs.Nth.{SpellsNumber, after_sign}
use Rattle.dom_selectors.specs.Spelling.{SpellsNone, large_stands}
use Rattle.dom_selectors.proofs.KeepLemmas.{after_sign_keeps, drop_keeps, large_grows, number_keeps, white_keeps}

pub large_within : (part text : List ℕ) → how_many_large part ≤ how_many_large text → (f : SelectorFault) → large_stands part f → large_stands text f
large_within part text le Number k = omega arith
large_within part text le Syntax k = k
large_within part text le UnknownPseudoClass k = k
large_within part text le NestedHas k = k
large_within part text le TooDeep k = k
large_within part text le Memory k = k

-- where the number at the front is past the limit
pub large_at : (text : List ℕ) → 0 < digits_len text → greatest_number < number_at text → 1 ≤ how_many_large text
large_at [] some large = omega arith
large_at (c ∷ text) some large = by (nat_lt greatest_number (number_at (c ∷ text))) (grind (arith, nat_tests))
  where
    by : (b : Bool) → b ≡ true → 1 ≤ cond b 1 0 + how_many_large text
    by true e = omega arith
    by false e = absurd (true≢false (sym e))

pub no_number : (text : List ℕ) → greatest_number < number_at text → SpellsNone SpellsNumber text
no_number text large v rest h = let most = h.most in let value = h.value in omega arith

pub offset_within : (part text : List ℕ) → part ≡ after_white (drop 1 (after_white text)) → how_many_large part ≤ how_many_large text
offset_within part text is =
    let a = white_keeps how_many_large large_grows text in
    let b = drop_keeps how_many_large large_grows 1 (after_white text) in
    let d = white_keeps how_many_large large_grows (drop 1 (after_white text)) in
    let e = ap how_many_large is in
    omega arith

pub sign_within : (part text : List ℕ) → part ≡ after_sign text → how_many_large part ≤ how_many_large text
sign_within part text is = let a = after_sign_keeps how_many_large large_grows text in let e = ap how_many_large is in omega arith

pub number_within : (text mid : List ℕ) (n : ℕ) → SpellsNumber n text mid → how_many_large mid ≤ how_many_large text
number_within text mid n h = number_keeps how_many_large large_grows n text mid h

-- all that follows the first character
pub behind_first : (text : List ℕ) → take (length text - 1) (drop 1 text) ≡ drop 1 text
behind_first text = let long = length-drop 1 text in take_all (length text - 1) (drop 1 text) (omega arith)
