-- Borrowed namespaces, equality of names, and names in the table of HTML's known names.
use Rattle.std.specs.Prelude.{ℕ, ◌≡◌, Bool, true, false, ◌&&◌, List, Option, Some}
use Rattle.std.specs.Str.{bytes_eq}
use Rattle.dom_nodes.specs.declared.name.Namespace.{Namespace}
use Rattle.dom_nodes.specs.declared.name.Namespace.TheVariants.{Html, Svg, MathMl, XLink, Xml, XmlNs, Other}
use Rattle.dom_nodes.specs.declared.name.NamespaceRef.{NamespaceRef}
use Rattle.dom_nodes.specs.declared.name.NamespaceRef.TheVariants.{Html as HtmlRef, Svg as SvgRef, MathMl as MathMlRef, XLink as XLinkRef, Xml as XmlRef, XmlNs as XmlNsRef, Other as OtherRef}
use Rattle.dom_nodes.specs.declared.name.NameParts.{NameParts}
use Rattle.dom_nodes.specs.KnownNames.{HasNumber, IsUnknown}

-- The namespace that a borrowed view shows.
abbrev pub namespace_of : NamespaceRef → Namespace
namespace_of NamespaceRef.None = Namespace.None
namespace_of HtmlRef = Html
namespace_of SvgRef = Svg
namespace_of MathMlRef = MathMl
namespace_of XLinkRef = XLink
namespace_of XmlRef = Xml
namespace_of XmlNsRef = XmlNs
namespace_of (OtherRef name) = Other name.now

-- Whether two namespaces are equal.
abbrev pub same_namespace : Namespace → Namespace → Bool
same_namespace Namespace.None Namespace.None = true
same_namespace Html Html = true
same_namespace Svg Svg = true
same_namespace MathMl MathMl = true
same_namespace XLink XLink = true
same_namespace Xml Xml = true
same_namespace XmlNs XmlNs = true
same_namespace (Other name) (Other other) = bytes_eq name other
same_namespace _ _ = false

-- Whether two optional prefixes are equal.
abbrev pub same_prefix : Option (List ℕ) → Option (List ℕ) → Bool
same_prefix Option.None Option.None = true
same_prefix (Some prefix) (Some other) = bytes_eq prefix other
same_prefix _ _ = false

-- Whether prefix, namespace and local name of two names are equal.
abbrev pub same_name : NameParts → NameParts → Bool
same_name name other = same_prefix name.prefix other.prefix && same_namespace name.ns other.ns && bytes_eq name.local other.local

-- The name is in the HTML namespace, and the number is the table index of its local name.
abbrev pub HasHtmlNumber : NameParts → ℕ → Type 0
HasHtmlNumber name number = (name.ns ≡ Html) × HasNumber name.local number

-- The name is in another namespace, or its local name isn't in the table.
abbrev pub HasNoHtmlNumber : NameParts → Type 0
HasNoHtmlNumber name = name.ns ≡ Html → IsUnknown name.local
