use Rattle.std.proofs.Common.{◌≡◌, ◌∙◌, false, inl, inr, List, ℕ, ap, nat_eq, sym}
use Rattle.std.specs.Str.{bytes_eq}
use Rattle.std.proofs.lemmas.Bool.{cases_Bool}
use Rattle.std.proofs.lemmas.Slice.Eq.{bytes_eq-Decides}
use Rattle.dom_nodes.proofs.KnownLemmas.{known-same}
use Rattle.dom_nodes.specs.declared.name.NameParts.{NameParts}
use Rattle.dom_nodes.specs.declared.name.Namespace.{Namespace}
use Rattle.dom_nodes.specs.declared.name.Namespace.TheVariants.{Html}
use Rattle.dom_nodes.specs.KnownNames.{HasNumber, IsUnknown, known_name}
use Rattle.dom_select.specs.Parts.{name_within}
use Rattle.dom_select.proofs.matcher.parts.element_has_type.Goals as goal

-- the selector's name as it is compared with the local name of an HTML element

module _ (name parts : NameParts) (is : parts ≡ name) (html : parts.ns ≡ Html) (written folded : List ℕ) (low : folded ≡ name_within Html written) where
  is_folded : folded ≡ name_within name.ns written
  is_folded = low ∙ ap (λ (ns : Namespace). name_within ns written) (sym html ∙ ap (λ (n : NameParts). n.ns) is)

  same_numbers : (number other : ℕ) → HasNumber parts.local number → HasNumber folded other → (nat_eq number other) ≡ bytes_eq name.local (name_within name.ns written)
  same_numbers number other has known =
      known-same number other has.0 known.0
      ∙ (ap (λ (n : List ℕ). bytes_eq n (known_name other)) (has.1 ∙ ap (λ (n : NameParts). n.local) is) ∙ ap (λ (n : List ℕ). bytes_eq name.local n) (known.1 ∙ is_folded))

  unknown_differs : (number : ℕ) → HasNumber parts.local number → IsUnknown folded → false ≡ bytes_eq name.local (name_within name.ns written)
  unknown_differs number has unknown =
      elim (cases_Bool (bytes_eq name.local (name_within name.ns written))) [
        | inl same ↦ absurd (unknown number (has.0, has.1 ∙ (ap (λ (n : NameParts). n.local) is ∙ ((bytes_eq-Decides name.local (name_within name.ns written)).0 same ∙ sym is_folded))))
        | inr other ↦ sym other
      ]

pub returns-in-Some-number : goal.returns-in-Some-number
returns-in-Some-number c =
    same_numbers c.args.element.now.name c.name.result c.name.ensures c.in-Some.ensures.0 c.args.name.now _ c.folded.ensures c.in-Some.number c.in-Some-number.other c.in-Some.ensures.1 c.in-Some-number.ensures

pub returns-in-None : goal.returns-in-None
returns-in-None c =
    unknown_differs c.args.element.now.name c.name.result c.name.ensures c.in-Some.ensures.0 c.args.name.now _ c.folded.ensures c.in-Some.number c.in-Some.ensures.1 c.in-None.ensures
