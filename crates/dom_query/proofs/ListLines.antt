-- The allow-list that lists of names are.
use Rattle.std.proofs.Common.{◌≡◌, ℕ, List, ◌∙◌, ap}
use Rattle.dom_sanitize.specs.Clean.{Lists}

-- lists of the same names are the same allow-list
pub same-lists : (a b : Lists) → a.elements ≡ b.elements → a.attrs ≡ b.attrs → a.drop ≡ b.drop → a ≡ b
same-lists a b elements attrs drop =
    let of : List (List ℕ) → List (List ℕ) → List (List ℕ) → Lists = λ x y z. record { elements = x; attrs = y; drop = z } in
    ap (λ x. of x a.attrs a.drop) elements ∙ ap (λ y. of b.elements y a.drop) attrs ∙ ap (λ z. of b.elements b.attrs z) drop
