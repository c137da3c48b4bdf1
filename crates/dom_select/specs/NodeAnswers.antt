-- The answers of `NodeSelect` about a single node.
use Rattle.std.specs.Prelude.{ℕ, Bool, false, ◌&&◌, List, codes}
use Rattle.std.specs.List.{list_any}
use Rattle.std.specs.Option.{option_map_or}
use Rattle.std.specs.Str.{bytes_eq}
use Rattle.dom_nodes.specs.Names.{same_namespace}
use Rattle.dom_nodes.specs.declared.name.Attr.{Attr}
use Rattle.dom_nodes.specs.declared.name.Namespace.{Namespace}
use Rattle.dom_links.specs.Forest.{Forest}
use Rattle.dom_trees.specs.Views.{node_attrs, node_qual_name}
use Rattle.dom_selectors.specs.Comparisons.{same_text}
use Rattle.dom_nodes.specs.declared.case_sensitivity.CaseSensitivity.{CaseSensitivity}
use Rattle.dom_selectors.specs.declared.syntax.Part.TheVariants.{Link as a_link}
use Rattle.dom_selectors.specs.declared.pseudo_class.NonTSPseudoClass.{NonTSPseudoClass}
use Rattle.dom_selectors.specs.declared.pseudo_class.NonTSPseudoClass.TheVariants.{AnyLink, Link, OnlyText, HasText, Contains}
use Rattle.dom_select.specs.Parts.{data_passes}
use Rattle.dom_select.specs.Texts.{has_text_at, joined_contains_at, only_text_at}

-- whether a node is an element in this namespace
abbrev pub has_namespace_at : Forest → ℕ → Namespace → Bool
has_namespace_at forest n ns = option_map_or (λ name. same_namespace name.ns ns) (node_qual_name forest n) false

abbrev pub is_id : CaseSensitivity → List ℕ → Attr → Bool
is_id case id attr = bytes_eq attr.name.local (codes "id") && same_text case attr.value id

-- whether any attribute `id` of the node has this value
abbrev pub has_id_at : CaseSensitivity → Forest → ℕ → List ℕ → Bool
has_id_at case forest n id = list_any (is_id case id) (node_attrs forest n)

-- Whether a node matches a pseudo-class: links by the element's data, texts by those at or below the node, and states never.
abbrev pub pseudo_holds_at : NonTSPseudoClass → Forest → ℕ → Bool
pseudo_holds_at AnyLink forest n = data_passes a_link forest n
pseudo_holds_at Link forest n = data_passes a_link forest n
pseudo_holds_at OnlyText forest n = only_text_at forest n
pseudo_holds_at (HasText text) forest n = has_text_at forest text.0 n
pseudo_holds_at (Contains text) forest n = joined_contains_at forest text.0 n
pseudo_holds_at _ forest n = false
