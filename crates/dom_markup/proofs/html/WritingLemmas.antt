-- Texts written one after another.
use Rattle.std.proofs.Common.{◌≡◌, ℕ, List, [], ◌∷◌, ◌++◌, Option, Some, None, refl, sym, ◌∙◌, ap, append_assoc, append-nil, take, drop, length, get_or, arith, ◌+◌, ◌-◌, ◌<◌, length-drop, take_all, subst, Result, Ok, Err}
use Rattle.std.specs.List.{flat_map}
use Rattle.std.specs.Borrow.{Bor}
use Rattle.std.proofs.lemmas.List.{take-append-drop, take_more}
use Rattle.std.proofs.lemmas.Grind.{flat_map-append}
use Rattle.std.specs.Io.KnownBytes.{Appends}
use Rattle.dom_markup.specs.Writing.{AppendsBeginning, Writes}

pub nothing-written : (old : Option (List ℕ)) → Appends old old []
nothing-written None = tt
nothing-written (Some xs) = sym (append-nil xs)

-- nothing is a beginning of every text
pub nothing-begun : (old : Option (List ℕ)) (text : List ℕ) → AppendsBeginning old old text
nothing-begun old text = record { front = []; back = text; whole = refl; written = nothing-written old }

-- one text, then another
pub written-then : (a b c : Option (List ℕ)) (xs ys : List ℕ) → Appends a b xs → Appends b c ys → Appends a c (xs ++ ys)
written-then None b c xs ys first second = tt
written-then (Some p) None c xs ys first second = absurd first
written-then (Some p) (Some q) None xs ys first second = absurd second
written-then (Some p) (Some q) (Some r) xs ys first second = second ∙ (ap (λ zs. zs ++ ys) first ∙ append_assoc p xs ys)

-- one text, then a beginning of another
pub beginning-then : (a b c : Option (List ℕ)) (xs ys : List ℕ) → Appends a b xs → AppendsBeginning b c ys → AppendsBeginning a c (xs ++ ys)
beginning-then a b c xs ys first second = record {
  front = xs ++ second.front;
  back = second.back;
  whole = append_assoc xs second.front second.back ∙ ap (λ zs. xs ++ zs) second.whole;
  written = written-then a b c xs second.front first second.written;
}

-- a beginning of a text is one of a longer text
pub beginning-more : (a b : Option (List ℕ)) (xs ys : List ℕ) → AppendsBeginning a b xs → AppendsBeginning a b (xs ++ ys)
beginning-more a b xs ys first = record {
  front = first.front;
  back = first.back ++ ys;
  whole = sym (append_assoc first.front first.back ys) ∙ ap (λ zs. zs ++ ys) first.whole;
  written = first.written;
}

-- a beginning was taken off the rest
pub taken-off : (front rest bytes : List ℕ) (k n : ℕ) → front ++ rest ≡ bytes → n ≡ length rest - k → (front ++ take k rest) ++ take n (drop k rest) ≡ bytes
taken-off front rest bytes k n whole is =
    let all : take n (drop k rest) ≡ drop k rest = take_all n (drop k rest) (omega (arith, length-drop k rest)) in
    append_assoc front (take k rest) (take n (drop k rest)) ∙ (ap (λ zs. front ++ (take k rest ++ zs)) all ∙ (ap (λ zs. front ++ zs) (take-append-drop k rest) ∙ whole))

-- the parts before one of them, that one, and those after it
pub parts-split : (parts : List (Bor (List ℕ))) (k : ℕ) (d : Bor (List ℕ)) → k < length parts → flat_map (λ part. part.now) parts ≡ (flat_map (λ part. part.now) (take k parts) ++ (get_or parts k d).now) ++ flat_map (λ part. part.now) (drop (k + 1) parts)
parts-split parts k d within =
    let more : take (k + 1) parts ≡ take k parts ++ get_or parts k d ∷ [] = take_more parts k d within in
    let all : parts ≡ take (k + 1) parts ++ drop (k + 1) parts = sym (take-append-drop (k + 1) parts) in
    ap (flat_map (λ part. part.now)) all ∙ (flat_map-append (λ part. part.now) (take (k + 1) parts) (drop (k + 1) parts) ∙ ap (λ zs. zs ++ flat_map (λ part. part.now) (drop (k + 1) parts)) (ap (flat_map (λ part. part.now)) more ∙ (flat_map-append (λ part. part.now) (take k parts) (get_or parts k d ∷ []) ∙ ap (λ zs. flat_map (λ part. part.now) (take k parts) ++ zs) (append-nil (get_or parts k d).now))))

-- a fault in a piece of the text
pub fault-inside : (a b c : Option (List ℕ)) (front piece all : List ℕ) → Appends a b front → AppendsBeginning b c piece → front ++ piece ≡ all → AppendsBeginning a c all
fault-inside a b c front piece all first second is = subst (AppendsBeginning a c) is (beginning-then a b c front piece first second)

-- after what was written, one more piece, or a beginning of it
pub then-writes : {T E : Type 0} (a b c : Option (List ℕ)) (r : Result T E) (front piece all : List ℕ) → Appends a b front → Writes b c r piece → front ++ piece ≡ all → Writes a c r all
then-writes a b c (Ok x) front piece all first second is = subst (Appends a c) is (written-then a b c front piece first second)
then-writes a b c (Err e) front piece all first second is = fault-inside a b c front piece all first second is

-- a fault in the first piece of a text
pub fault-first : (a b : Option (List ℕ)) (piece rest all : List ℕ) → AppendsBeginning a b piece → piece ++ rest ≡ all → AppendsBeginning a b all
fault-first a b piece rest all first is = subst (AppendsBeginning a b) is (beginning-more a b piece rest first)

-- the elements before one of them, that one, and those after it
pub flat_map-split : {X : Type 0} (f : X → List ℕ) (xs : List X) (k : ℕ) (d : X) → k < length xs → flat_map f xs ≡ (flat_map f (take k xs) ++ f (get_or xs k d)) ++ flat_map f (drop (k + 1) xs)
flat_map-split f xs k d within =
    let more : take (k + 1) xs ≡ take k xs ++ get_or xs k d ∷ [] = take_more xs k d within in
    let all : xs ≡ take (k + 1) xs ++ drop (k + 1) xs = sym (take-append-drop (k + 1) xs) in
    ap (flat_map f) all ∙ (flat_map-append f (take (k + 1) xs) (drop (k + 1) xs) ∙ ap (λ zs. zs ++ flat_map f (drop (k + 1) xs)) (ap (flat_map f) more ∙ (flat_map-append f (take k xs) (get_or xs k d ∷ []) ∙ ap (λ zs. flat_map f (take k xs) ++ zs) (append-nil (f (get_or xs k d))))))
