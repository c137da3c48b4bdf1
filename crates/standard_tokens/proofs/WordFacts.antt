-- What stands in a text, and what does not.
use Rattle.std.specs.Prelude.{◌≡◌, ℕ, Bool, true, false, not, List, [], ◌∷◌, ◌++◌, refl}
use Rattle.std.proofs.lemmas.Bool.{or_parts}
use Rattle.standard_tokens.specs.PlainMarkup.{begins_with, contains_word}

pub front-lacks : (same : ℕ → ℕ → Bool) (word : List ℕ) (c : ℕ) (text : List ℕ) → contains_word same word (c ∷ text) ≡ false → begins_with same word (c ∷ text) ≡ false
front-lacks same word c text h = (or_parts (begins_with same word (c ∷ text)) (contains_word same word text) h).0

pub later-lacks : (same : ℕ → ℕ → Bool) (word : List ℕ) (c : ℕ) (text : List ℕ) → contains_word same word (c ∷ text) ≡ false → contains_word same word text ≡ false
later-lacks same word c text h = (or_parts (begins_with same word (c ∷ text)) (contains_word same word text) h).1

-- behind what is at the front
pub behind-lacks : (same : ℕ → ℕ → Bool) (word front text : List ℕ) → contains_word same word (front ++ text) ≡ false → contains_word same word text ≡ false
behind-lacks same word [] text h = h
behind-lacks same word (c ∷ front) text h = behind-lacks same word front text (later-lacks same word c (front ++ text) h)

pub from_not : (b : Bool) → not b ≡ true → b ≡ false
from_not true h = cc
from_not false h = refl

pub to_not : (b : Bool) → b ≡ false → not b ≡ true
to_not true h = cc
to_not false h = refl
