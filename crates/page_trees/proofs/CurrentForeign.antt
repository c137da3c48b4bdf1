-- Whether the adjusted current node is outside the HTML namespace.
use Rattle.std.proofs.Common.{◌≡◌, false, not, Option, None, Some, refl, sym, ap, subst, ◌∙◌}
use Rattle.standard_trees.specs.GrowingTree.{GrowingTree, adjusted_current, in_foreign}
use Rattle.standard_trees.specs.TreeStore.{is_html, space_in}
use Rattle.page_trees.specs.Sets.{is_in_html, space_of}
use Rattle.page_trees.specs.Stands.{IsCurrent}
use Rattle.page_trees.specs.declared.stack.ElementNamespace.{ElementNamespace}
use Rattle.page_trees.specs.declared.stack.Open.{Open}

same_space : (ns : ElementNamespace) → is_in_html ns ≡ is_html (space_of ns)
same_space ElementNamespace.Html = refl
same_space ElementNamespace.Svg = refl
same_space ElementNamespace.MathMl = refl

pub some_foreign : (r : Option Open) (o : Open) (t : GrowingTree) → r ≡ Some o → IsCurrent r (adjusted_current t) → not (is_in_html o.ns) ≡ in_foreign t
some_foreign r o t e current =
    let is = subst (λ (found : Option Open). IsCurrent found (adjusted_current t)) e current in
    ap not (same_space o.ns) ∙ sym (ap (λ kind. not (is_html (space_in kind))) is.kind)

pub none_foreign : (r : Option Open) (t : GrowingTree) → r ≡ None → IsCurrent r (adjusted_current t) → false ≡ in_foreign t
none_foreign r t e current =
    sym (ap (λ kind. not (is_html (space_in kind))) (subst (λ (found : Option Open). IsCurrent found (adjusted_current t)) e current))
