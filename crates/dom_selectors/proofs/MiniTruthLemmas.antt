-- What holds of each of some values holds of each as it is shown.
use Rattle.std.proofs.Common.{◌≡◌, List, [], ◌∷◌, Bool, ◌&&◌, map, refl, ap}
use Rattle.std.specs.List.{list_all}

pub all_shown : {A B : Type 0} (p : B → Bool) (f : A → B) (xs : List A) → list_all (λ x. p (f x)) xs ≡ list_all p (map f xs)
all_shown p f [] = refl
all_shown p f (x ∷ xs) = ap (λ b. p (f x) && b) (all_shown p f xs)
