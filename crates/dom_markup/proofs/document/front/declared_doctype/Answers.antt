use Rattle.std.proofs.Common.{◌≡◌, ℕ, List, refl}
use Rattle.std.specs.Prelude.{codes, ◌++◌}
use Rattle.dom_markup.proofs.grammar.Items.{no_declaration}
use Rattle.dom_markup.proofs.document.front.declared_doctype.Goals as goal

pub returns-in-None : goal.returns-in-None
returns-in-None c =
    let text = codes "<!" ++ c.args.tag.now in
    let other : (r : List ℕ) → text ≡ codes "<!--" ++ r → ⊥ = λ r e. c.requires r (cc) in
    (no_declaration text c.args.tag.now refl refl other c.in-None.ensures.none, (refl, c.args.tag.now, refl, other))
