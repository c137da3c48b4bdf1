-- Counts of the elements of each type.
use Rattle.std.specs.Prelude.{ℕ, ◌≡◌, ◌+◌, Bool, Option, Some, None, if◌then◌else◌}
use Rattle.std.specs.declared.cmp.Ordering.{Ordering}
use Rattle.std.specs.Option.{option_copied, unwrap_or}
use Rattle.std.specs.BTreeMap.{BTreeMap, get}
use Rattle.dom_nodes.specs.declared.name.Namespace.{Namespace}
use Rattle.dom_nodes.specs.declared.name.Namespace.TheVariants.{Html, Svg, MathMl, XLink, Xml, XmlNs, Other}
use Rattle.dom_nodes.specs.declared.name.NameParts.{NameParts}
use Rattle.dom_nodes.specs.Names.{same_name}
use Rattle.dom_nodes.specs.declared.indexes.IndexKind.{IndexKind}
use Rattle.dom_nodes.specs.declared.indexes.IndexKind.TheVariants.{OfType, LastOfType}
use Rattle.dom_select.specs.contracts.matcher.type_counts.TypeNameOrd.TheImpl.{cmp-value}
use Rattle.dom_select.specs.declared.matcher.type_counts.TypeName.{TypeName}
use Rattle.dom_select.specs.declared.matcher.type_counts.TypeNamespace.{TypeNamespace}
use Rattle.dom_select.specs.declared.matcher.type_counts.TypeNamespace.TheVariants as lent

-- the kind of an index by type, counted from the first sibling or from the last
abbrev pub type_kind : Bool → IndexKind
type_kind from_first = if from_first then OfType else LastOfType

-- the namespace that is borrowed
abbrev pub namespace_in : TypeNamespace → Namespace
namespace_in lent.None = Namespace.None
namespace_in lent.Html = Html
namespace_in lent.Svg = Svg
namespace_in lent.MathMl = MathMl
namespace_in lent.XLink = XLink
namespace_in lent.Xml = Xml
namespace_in lent.XmlNs = XmlNs
namespace_in (lent.Other name) = Other name.now

-- the name that is borrowed
abbrev pub name_of : TypeName → NameParts
name_of name = record { prefix = option_copied name.prefix; ns = namespace_in name.namespace; local = name.local.now }

-- the derived order
abbrev pub type_cmp : TypeName → TypeName → Ordering
type_cmp = cmp-value.it

abbrev pub count_of : BTreeMap TypeName ℕ → TypeName → ℕ
count_of counts name = unwrap_or (get type_cmp counts name) 0

-- the count of the name, and of every equal name, is increased by one
abbrev pub CountsOne : BTreeMap TypeName ℕ → BTreeMap TypeName ℕ → TypeName → Option ℕ → Type 0
CountsOne old new name None = Unit {0}
CountsOne old new name (Some count) =
    (count ≡ 1 + count_of old name) × ((other : TypeName) → count_of new other ≡ (if same_name (name_of name) (name_of other) then count else count_of old other))
