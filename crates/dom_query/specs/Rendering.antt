-- What the script lines write about the selected nodes.
use Rattle.std.specs.Prelude.{ℕ, Bool, false, true, List, [], ◌∷◌, ◌++◌, Option, Result, decimal, length, unwrap_or}
use Rattle.std.specs.List.{flat_map}
use Rattle.dom_links.specs.Forest.{Forest}
use Rattle.dom_links.specs.Texts.{text_of}
use Rattle.dom_trees.specs.Views.{node_attr}
use Rattle.dom_markup.specs.Scopes.{html_in}
use Rattle.dom_markup.specs.Writing.{Writes}
use Rattle.dom_markup.specs.declared.serializing.TraversalScope.{TraversalScope}
use Rattle.dom_markup.specs.declared.serializing.TraversalScope.TheVariants.{IncludeNode, ChildrenOnly}
use Rattle.dom_md.specs.Formatted.{formatted_node}
use Rattle.dom_script.specs.declared.script.Rendering.{Rendering}
use Rattle.dom_script.specs.declared.script.Rendering.TheVariants.{Count, Text, Formatted, Html, InnerHtml, Document}

-- The HTML of the first node or of its children; empty without a node.
abbrev pub first_html : TraversalScope → Forest → List ℕ → List ℕ
first_html scope forest [] = []
first_html scope forest (n ∷ ns) = html_in scope forest n

-- The value of the first node's first attribute with this local name; empty if there is none.
abbrev pub first_attr : List ℕ → Forest → List ℕ → List ℕ
first_attr name forest [] = []
first_attr name forest (n ∷ ns) = unwrap_or (node_attr forest n name) []

-- The text of a node, as it is or formatted.
abbrev pub node_text : Bool → Forest → ℕ → List ℕ
node_text false = text_of
node_text true = formatted_node

-- The texts of the nodes, joined.
abbrev pub texts_of : Forest → List ℕ → List ℕ
texts_of forest ns = flat_map (text_of forest) ns

-- The formatted texts of the nodes, each formatted as an element of its own, joined.
abbrev pub formatted_of : Forest → List ℕ → List ℕ
formatted_of forest ns = flat_map (formatted_node forest) ns

-- The text and a line feed.
abbrev pub line_of : List ℕ → List ℕ
line_of text = text ++ 10 ∷ []

-- What a line writes about the selection. The root has the id 0.
abbrev pub rendered : Rendering → Forest → List ℕ → List ℕ
rendered Count forest selection = decimal (length selection)
rendered Text forest selection = texts_of forest selection
rendered Formatted forest selection = formatted_of forest selection
rendered Html forest selection = first_html IncludeNode forest selection
rendered InnerHtml forest selection = first_html ChildrenOnly forest selection
rendered Document forest selection = html_in IncludeNode forest 0

-- The text and a line feed were written, or, after a fault, a beginning of that.
abbrev pub PutsLine : {W T E : Type 0} → (W → Option (List ℕ)) → W → W → Result T E → List ℕ → Type 0
PutsLine contents old new result text = Writes (contents old) (contents new) result (line_of text)
