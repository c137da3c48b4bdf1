-- Runs: characters that a state copies one by one, which the tokenizer copies at once.
use Rattle.std.specs.Prelude.{◌≡◌, ℕ, ◌<◌, Bool, true, false, not, List, [], ◌∷◌, ◌++◌, map, encode_utf8, refl}
use Rattle.std.specs.List.{list_all}
use Rattle.std.specs.Str.{encode_utf8_all}
use Rattle.std.proofs.lemmas.Bool.{and_parts}
use Rattle.std.proofs.lemmas.List.{append-nil, append_assoc}
use Rattle.std.proofs.lemmas.Str.{encode_ascii}
use mathlib.Core.Path.{◌∙◌, sym, ap, subst}
use Rattle.standard_tokens.specs.Machine.{Machine}
use Rattle.standard_tokens.specs.Tokens.{AChar}
use Rattle.page_tokens.specs.Standard.{Goes, stays}
use Rattle.page_tokens.proofs.StandardSteps.{then_on}

-- a run that is gathered; M d is the machine that has gathered d
pub gathered : (test : ℕ → Bool) (M : List ℕ → Machine) → ((d : List ℕ) (c : ℕ) (rest : List ℕ) → test c ≡ true → Goes (M d) (c ∷ rest) [] (M (d ++ c ∷ [])) rest) →
    (d front rest : List ℕ) → list_all test front ≡ true → Goes (M d) (front ++ rest) [] (M (d ++ front)) rest
gathered test M one d [] rest all = subst (λ e. Goes (M d) rest [] (M e) rest) (sym (append-nil d)) stays
gathered test M one d (c ∷ front) rest all =
    let parts : (test c ≡ true) × (list_all test front ≡ true) = and_parts (test c) (list_all test front) all in
    subst (λ e. Goes (M d) (c ∷ (front ++ rest)) [] (M e) rest) (append_assoc d (c ∷ []) front)
    (then_on (one d c (front ++ rest) parts.0) (gathered test M one (d ++ c ∷ []) front rest parts.1))

-- a run that is emitted
pub emitted_run : (test : ℕ → Bool) (m : Machine) → ((c : ℕ) (rest : List ℕ) → test c ≡ true → Goes m (c ∷ rest) (AChar c ∷ []) m rest) →
    (front rest : List ℕ) → list_all test front ≡ true → Goes m (front ++ rest) (map AChar front) m rest
emitted_run test m one [] rest all = stays
emitted_run test m one (c ∷ front) rest all =
    let parts : (test c ≡ true) × (list_all test front ≡ true) = and_parts (test c) (list_all test front) all in
    then_on (one c (front ++ rest) parts.0) (emitted_run test m one front rest parts.1)

all_parts : (test : ℕ → Bool) (front back : List ℕ) → list_all test (front ++ back) ≡ true → (list_all test front ≡ true) × (list_all test back ≡ true)
all_parts test [] back all = (refl, all)
all_parts test (c ∷ front) back all =
    let parts : (test c ≡ true) × (list_all test (front ++ back) ≡ true) = and_parts (test c) (list_all test (front ++ back)) all in
    let more : (list_all test front ≡ true) × (list_all test back ≡ true) = all_parts test front back parts.1 in
    (rw (parts.0, more.0) refl, more.1)

-- what ends a run is ASCII, so that none of it in the bytes is none of it in the characters
pub characters_of_run : (ends : ℕ → Bool) → ((c : ℕ) → ends c ≡ true → c < 128) → (cs : List ℕ) → list_all (λ b. not (ends b)) (encode_utf8_all cs) ≡ true → list_all (λ c. not (ends c)) cs ≡ true
characters_of_run ends low [] all = refl
characters_of_run ends low (c ∷ cs) all =
    let parts : (list_all (λ b. not (ends b)) (encode_utf8 c) ≡ true) × (list_all (λ b. not (ends b)) (encode_utf8_all cs) ≡ true) =
    all_parts (λ b. not (ends b)) (encode_utf8 c) (encode_utf8_all cs) all in
    rw (alone (ends c) refl parts.0, characters_of_run ends low cs parts.1) refl
  where
    alone : (x : Bool) → ends c ≡ x → list_all (λ b. not (ends b)) (encode_utf8 c) ≡ true → not (ends c) ≡ true
    alone false e h = ap not e
    alone true e h =
        let one : list_all (λ b. not (ends b)) (c ∷ []) ≡ true = ap (list_all (λ b. not (ends b))) (sym (encode_ascii c (low c e))) ∙ h in
        (and_parts (not (ends c)) true one).0
