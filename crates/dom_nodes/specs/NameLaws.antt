-- `same_name` decides whether two names are equal in all their parts.
use Rattle.std.proofs.Common.{ℕ, ◌≡◌, Bool, true, false, List, Option, Some, None, refl, sym, ap, ◌∙◌}
use Rattle.std.specs.Prelude.{◌&&◌}
use Rattle.std.specs.Bool.{Decides}
use Rattle.std.specs.Cmp.{IsEquivalence, decided}
use Rattle.std.specs.Str.{bytes_eq}
use Rattle.std.proofs.lemmas.Slice.Eq.{bytes_eq-Decides}
use Rattle.std.proofs.lemmas.Bool.{true≢false}
use Rattle.dom_nodes.specs.Names.{same_name, same_namespace, same_prefix}
use Rattle.dom_nodes.specs.declared.name.Namespace.{Namespace}
use Rattle.dom_nodes.specs.declared.name.Namespace.TheVariants.{Html, Svg, MathMl, XLink, Xml, XmlNs, Other}
use Rattle.dom_nodes.specs.declared.name.NameParts.{NameParts}

pub both_true : (a b : Bool) → (a && b) ≡ true → (a ≡ true) × (b ≡ true)
both_true true b h = (refl, h)
both_true false b h = absurd (true≢false (sym h))

prefix_is : (a b : Option (List ℕ)) → same_prefix a b ≡ true → a ≡ b
prefix_is None None h = refl
prefix_is (Some a) (Some b) h = ap Some ((bytes_eq-Decides a b).0 h)
prefix_is _ _ h = absurd (true≢false (sym h))

prefix_same : (a : Option (List ℕ)) → same_prefix a a ≡ true
prefix_same None = refl
prefix_same (Some a) = (bytes_eq-Decides a a).1 refl

namespace_is : (a b : Namespace) → same_namespace a b ≡ true → a ≡ b
namespace_is Namespace.None Namespace.None h = refl
namespace_is Html Html h = refl
namespace_is Svg Svg h = refl
namespace_is MathMl MathMl h = refl
namespace_is XLink XLink h = refl
namespace_is Xml Xml h = refl
namespace_is XmlNs XmlNs h = refl
namespace_is (Other a) (Other b) h = ap Other ((bytes_eq-Decides a b).0 h)
namespace_is _ _ h = absurd (true≢false (sym h))

namespace_same : (a : Namespace) → same_namespace a a ≡ true
namespace_same (Other a) = (bytes_eq-Decides a a).1 refl
namespace_same _ = refl

name_is : (a b : NameParts) → same_name a b ≡ true → a ≡ b
name_is a b h =
    let outer = both_true (same_prefix a.prefix b.prefix && same_namespace a.ns b.ns) (bytes_eq a.local b.local) h in
    let inner = both_true (same_prefix a.prefix b.prefix) (same_namespace a.ns b.ns) outer.0 in
    ap (λ p. record a { prefix = p }) (prefix_is a.prefix b.prefix inner.0)
    ∙ ap (λ n. record a { prefix = b.prefix; ns = n }) (namespace_is a.ns b.ns inner.1)
    ∙ ap (λ l. record b { local = l }) ((bytes_eq-Decides a.local b.local).0 outer.1)

itself : (a : NameParts) → same_name a a ≡ true
itself a =
    ap (λ t. t && same_namespace a.ns a.ns && bytes_eq a.local a.local) (prefix_same a.prefix)
    ∙ ap (λ t. t && bytes_eq a.local a.local) (namespace_same a.ns)
    ∙ (bytes_eq-Decides a.local a.local).1 refl

decides : (a b : NameParts) → Decides (same_name a b) (a ≡ b)
decides a b = (name_is a b, λ e. ap (same_name a) (sym e) ∙ itself a)

pub same_name-equiv : IsEquivalence same_name
same_name-equiv = decided same_name decides
