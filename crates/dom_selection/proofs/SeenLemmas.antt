-- What stands in a set.
use Rattle.std.proofs.Common.{ℕ, ◌≡◌, ◌==◌, ◌||◌, true, false, Bool, List, [], ◌∷◌, refl, ap, sym, ◌∙◌, cond, arith}
use Rattle.std.specs.BTreeSet.{BTreeSet, contains, Updates}
use Rattle.std.specs.Ordering.{nat_cmp}
use Rattle.std.specs.List.{list_any}
use Rattle.std.specs.BTreeMap.{is_at}
use Rattle.std.proofs.lemmas.Bool.Decides.{nat_tests}
use Rattle.dom_links.specs.Lists.{is_member}

pub is_at-nat : (n m : ℕ) → is_at (nat_cmp n) m ≡ (m == n)
is_at-nat n m = grind (arith, nat_tests)

pub any-stands : (n : ℕ) (keys : List ℕ) → list_any (is_at (nat_cmp n)) keys ≡ is_member n keys
any-stands n [] = refl
any-stands n (m ∷ ms) = ap (λ b. b || list_any (is_at (nat_cmp n)) ms) (is_at-nat n m) ∙ ap (λ b. (m == n) || b) (any-stands n ms)

pub contains-stands : (set : BTreeSet ℕ) (n : ℕ) → contains nat_cmp set n ≡ is_member n set.keys
contains-stands set n = any-stands n set.keys

cond_or : (b x : Bool) → cond b true x ≡ (b || x)
cond_or true x = refl
cond_or false x = refl

either_way : (n m : ℕ) → (n == m) ≡ (m == n)
either_way n m = grind (arith, nat_tests)

pub or_moves : (a b c : Bool) → ((a || b) || c) ≡ (b || (a || c))
or_moves true true c = refl
or_moves true false c = refl
or_moves false true c = refl
or_moves false false c = refl

-- a number that is put into a set stands there then, and the others as before
pub noted : (old new : BTreeSet ℕ) (id : ℕ) → Updates nat_cmp old new id true → (n : ℕ) → is_member n new.keys ≡ ((id == n) || is_member n old.keys)
noted old new id u n =
    sym (any-stands n new.keys) ∙ u.0 n ∙ cond_or (is_at (nat_cmp id) n) (contains nat_cmp old n)
    ∙ ap (λ b. b || contains nat_cmp old n) (is_at-nat id n ∙ either_way n id) ∙ ap (λ b. (id == n) || b) (any-stands n old.keys)
