-- Which attributes a removal keeps.
use Rattle.std.specs.Prelude.{Bool, not, map}
use Rattle.dom_nodes.specs.declared.name.Attr.{Attr}
use Rattle.dom_nodes.specs.declared.node_data.attrs_form.Kept.{Kept}
use Rattle.dom_nodes.specs.declared.node_data.attrs_form.Kept.TheVariants.{AllBut, NoneOf, OneOf, MissingIn}
use Rattle.dom_nodes.specs.Changes.{has_attr_named, is_attr_named, is_named_in}

-- Whether a removal keeps the attribute.
abbrev pub keeps : Kept → Attr → Bool
keeps (AllBut name) attr = not (is_attr_named name.now attr)
keeps (NoneOf names) attr = not (is_named_in (map (λ name. name.now) names.now) attr)
keeps (OneOf names) attr = is_named_in (map (λ name. name.now) names.now) attr
keeps (MissingIn attrs) attr = not (has_attr_named attrs.now attr.name)
