-- The place of a foster parent, as the elements are looked at from the current node outwards.
use Rattle.std.proofs.Common.{ℕ, ◌≡◌, Bool, false, List, [], ◌∷◌, ◌++◌, Some, sym, ap, ◌∙◌, reverse, if◌then◌else◌}
use Rattle.std.proofs.lemmas.List.{reverse-append}
use Rattle.std.proofs.lemmas.List.Elements.{All-pop}
use Rattle.dom_links.specs.Forest.{Forest}
use Rattle.dom_links.specs.Sound.{AtOrBelow}
use Rattle.page_trees.specs.Elements.{AreOpen, IsElement, LiesAt, LiesIn}
use Rattle.page_trees.specs.Placing.{foster_place_of, is_a_table, is_a_template}
use Rattle.page_trees.specs.declared.growing.placing.Place.{Place}
use Rattle.page_trees.specs.declared.growing.placing.Place.TheVariants.{EndOf, Table}
use Rattle.page_trees.specs.declared.stack.Open.{Open}

pub open_front : (f : Forest) (os below : List Open) (o : Open) → os ≡ below ++ o ∷ [] → AreOpen f os → AreOpen f below
open_front f os below o e all = (All-pop (λ (p : Open). IsElement f p.id) os below (Some o) e all).0

pub open_last : (f : Forest) (os below : List Open) (o : Open) → os ≡ below ++ o ∷ [] → AreOpen f os → IsElement f o.id
open_last f os below o e all = (All-pop (λ (p : Open). IsElement f p.id) os below (Some o) e all).1

-- what lies in the last element, or in those before it, lies in all of them
pub lies_last : (f : Forest) (os below : List Open) (o : Open) (n : ℕ) → os ≡ below ++ o ∷ [] → ((x : ℕ) → IsElement f x → AtOrBelow f x n → AtOrBelow f x o.id) → LiesIn f os n
lies_last f os below o n e held x element none at = (All-pop (λ (p : Open). AtOrBelow f x p.id → ⊥) os below (Some o) e none).1 (held x element at)

lies_in_front : (f : Forest) (os below : List Open) (o : Open) (n : ℕ) → os ≡ below ++ o ∷ [] → LiesIn f below n → LiesIn f os n
lies_in_front f os below o n e lies x element none at = lies x element (All-pop (λ (p : Open). AtOrBelow f x p.id → ⊥) os below (Some o) e none).0 at

pub lies_front : (f : Forest) (os below : List Open) (o : Open) (place : Place) → os ≡ below ++ o ∷ [] → LiesAt f below place → LiesAt f os place
lies_front f os below o (EndOf n) e lies = lies_in_front f os below o n e lies
lies_front f os below o (Table table other) e lies = (lies_in_front f os below o table e lies.0, lies_in_front f os below o other e lies.1)

-- a table with the element before it
pub lies_around : (f : Forest) (os below others : List Open) (o other : Open) → os ≡ below ++ o ∷ [] → below ≡ others ++ other ∷ [] → LiesAt f os (Table o.id other.id)
lies_around f os below others o other e d =
    (lies_last f os below o o.id e (λ x element at. at), lies_in_front f os below o other.id e (lies_last f below others other other.id d (λ x element at. at)))

-- the last element comes first
pub last_first : (os below : List Open) (o : Open) → os ≡ below ++ o ∷ [] → reverse os ≡ o ∷ reverse below
last_first os below o e = ap (λ (ps : List Open). reverse ps) e ∙ reverse-append below (o ∷ [])

neither : {X : Type 0} (a b : Bool) (x y z : X) → a ≡ false → b ≡ false → (if a then x else if b then y else z) ≡ z
neither a b x y z e d = ap (λ k. if k then x else if b then y else z) e ∙ ap (λ k. if k then y else z) d

-- an element that is no template and no table is passed over
pub passed_over : (f : Forest) (os below others : List Open) (o other : Open) → os ≡ below ++ o ∷ [] → below ≡ others ++ other ∷ [] → is_a_template o ≡ false → is_a_table o ≡ false →
    foster_place_of f (reverse below) ≡ foster_place_of f (reverse os)
passed_over f os below others o other e d t n =
    let two : reverse below ≡ other ∷ reverse others = last_first below others other d in
    let all : reverse os ≡ o ∷ other ∷ reverse others = last_first os below o e ∙ ap (λ (ps : List Open). o ∷ ps) two in
    ap (foster_place_of f) two ∙ sym (ap (foster_place_of f) all ∙ neither (is_a_template o) (is_a_table o) _ _ _ t n)
