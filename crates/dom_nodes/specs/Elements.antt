-- The data of an element, as contracts see it.
use Rattle.std.specs.Prelude.{ℕ, Bool, List, Option}
use Rattle.dom_nodes.specs.declared.name.Attr.{Attr}
use Rattle.dom_nodes.specs.declared.name.NameParts.{NameParts}

pub record Element : Type 0 where
  pub name : NameParts
  pub attrs : List Attr
  pub template_contents : Option ℕ
  pub mathml_annotation_xml_integration_point : Bool
