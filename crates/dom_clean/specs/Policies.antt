-- The policy that rules say.
use Rattle.std.specs.Prelude.{map, string_bytes}
use Rattle.std.specs.Option.{option_map}
use Rattle.dom_clean.specs.Policy.{OwnAttribute, Policy, Relative}
use Rattle.dom_clean.specs.Policy.Relative.{kept, dropped, resolved}
use Rattle.dom_clean.specs.declared.lists.Lists.{Lists}
use Rattle.dom_clean.specs.declared.lists.OwnAttribute.{OwnAttribute as OwnLists}
use Rattle.dom_clean.specs.declared.lists.Relative.{Relative as RelativeRule}
use Rattle.dom_clean.specs.declared.lists.Relative.TheVariants.{Kept, Dropped, Resolved}

abbrev pub own_of : OwnLists → OwnAttribute
own_of own =
    record { element = string_bytes own.element; attribute = string_bytes own.attribute; values = map string_bytes own.values.items }

abbrev pub relative_of : RelativeRule → Relative
relative_of Kept = kept
relative_of Dropped = dropped
relative_of (Resolved base) = resolved base

abbrev pub policy_of : Lists → Policy
policy_of lists = record {
  elements = map string_bytes lists.elements.items;
  dropped = map string_bytes lists.dropped.items;
  attributes = map string_bytes lists.attributes.items;
  own_attributes = map own_of lists.own_attributes.items;
  data_attributes = lists.data_attributes;
  schemes = map string_bytes lists.schemes.items;
  relative = relative_of lists.relative;
  rel = option_map string_bytes lists.rel;
  id_prefix = string_bytes lists.id_prefix;
  classes = option_map (λ classes. map string_bytes classes.items) lists.classes;
  depth = lists.depth;
}
