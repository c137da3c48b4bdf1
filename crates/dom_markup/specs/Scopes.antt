-- What each `TraversalScope` writes of a node.
use Rattle.std.specs.Prelude.{ℕ, List}
use Rattle.dom_links.specs.Forest.{Forest}
use Rattle.dom_markup.specs.declared.serializing.TraversalScope.{TraversalScope}
use Rattle.dom_markup.specs.declared.serializing.TraversalScope.TheVariants.{IncludeNode, ChildrenOnly}
use Rattle.dom_markup.specs.Html.{html_of, inner_html_of}

abbrev pub html_in : TraversalScope → Forest → ℕ → List ℕ
html_in IncludeNode forest n = html_of forest n
html_in ChildrenOnly forest n = inner_html_of forest n
