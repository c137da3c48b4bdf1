-- The names of a list, put into a set one after another.
use Rattle.std.proofs.Common.{ℕ, ◌≡◌, ◌<◌, ◌≤◌, ◌+◌, Bool, true, false, cond, List, [], ◌∷◌, refl, sym, ap, ◌∙◌, subst, ◌||◌, length, take, get_or, map, String, Bor}
use Rattle.std.specs.BTreeSet.{BTreeSet}
use Rattle.std.specs.List.{list_any}
use Rattle.std.specs.Str.{bytes_eq}
use Rattle.std.proofs.lemmas.List.{take_all}
use Rattle.std.proofs.lemmas.List.Folds.{list_any_more}
use Rattle.dom_nodes.specs.Words.{is_among}
use Rattle.dom_sanitize.specs.Sets.{Gains, IsSetOf}

pub cond_or : (b c : Bool) → cond b true c ≡ (c || b)
cond_or true true = refl
cond_or true false = refl
cond_or false true = refl
cond_or false false = refl

-- the first i names of a list
abbrev pub first_names : ℕ → List (Bor (List ℕ)) → List (List ℕ)
first_names i names = map (λ name. name.now) (take i names)

among-first : (name : List ℕ) (names : List (Bor (List ℕ))) → is_among name (map (λ n. n.now) names) ≡ list_any (λ n. bytes_eq n.now name) names
among-first name [] = refl
among-first name (n ∷ names) = ap (λ b. bytes_eq n.now name || b) (among-first name names)

pub set_more : {A : Type 0} → (names : List (Bor (List ℕ))) (i : ℕ) (x : Bor (List ℕ)) (old new : BTreeSet (String A)) → i < length names → x ≡ get_or names i x → Gains x.now old new →
    IsSetOf old (first_names i names) → IsSetOf new (first_names (i + 1) names)
set_more names i x old new within is gains had = λ name.
    gains name ∙ ap (λ b. b || bytes_eq x.now name) (had name ∙ among-first name (take i names))
    ∙ ap (λ (n : Bor (List ℕ)). list_any (λ m. bytes_eq m.now name) (take i names) || bytes_eq n.now name) is
    ∙ sym (list_any_more (λ m. bytes_eq m.now name) names i x within) ∙ sym (among-first name (take (i + 1) names))

pub set_all : {A : Type 0} → (names : List (Bor (List ℕ))) (i : ℕ) (set : BTreeSet (String A)) → length names ≤ i → IsSetOf set (first_names i names) → IsSetOf set (map (λ name. name.now) names)
set_all names i set past had = subst (λ (ns : List (Bor (List ℕ))). IsSetOf set (map (λ name. name.now) ns)) (take_all i names past) had
