-- What the calls of a walk give in all.
use Rattle.std.proofs.Common.{ℕ, ◌≡◌, List, [], ◌∷◌, sym, ap, ◌∙◌}
use Rattle.std.specs.Iterator.{Drains, DrainsIf}
use Rattle.dom_links.specs.Walk.{GivesNode, Walk}

-- what calls give until nothing comes is what was left
pub given_nodes : (walk : Walk) (ns : List ℕ) → Drains GivesNode walk ns → ns ≡ walk.left
given_nodes walk [] d = sym (ap (λ (w : Walk). w.left) d.1.1 ∙ d.1.2.first.0)
given_nodes walk (n ∷ ns) d =
    let y = d.1.1 in
    ap (λ ms. n ∷ ms) (given_nodes y.0 ns (d.0, (d.1.0, y.2, d.1.2))) ∙ sym y.1.first

pub collected_nodes : (walk : Walk) (ns : List ℕ) → DrainsIf GivesNode (Unit {0}) walk ns → ns ≡ walk.left
collected_nodes walk ns d = let last = d.2 tt in given_nodes walk ns (last.0, (d.0, d.1, last.1))
