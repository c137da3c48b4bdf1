-- What tree construction, as standard_trees defines it whole, builds of plain trees.
use Rattle.std.specs.Prelude.{◌≡◌, ℕ, Bool, List, [], ◌∷◌, ◌++◌, Option, Some, false, map, option_map, true}
use Rattle.standard_tokens.specs.Tokens.{Attr, AnEof}
use Rattle.standard_rules.specs.PlainTrees.{FlowPlace, IsPlainPage, Page, are_plain, flow_contexts, outermost, page_trees}
use Rattle.standard_rules.specs.TreeTokens.{Trees, comment_node, doctype_named, doctype_node, element_node, is_among, no_trees, text_node}
use Rattle.standard_rules.specs.TreeTokens.{tokens}
use Rattle.standard_trees.specs.Building.{NoQuirks, Surroundings, fragment_start, start, tree_steps}
use Rattle.standard_trees.specs.Parsing.{Document, document_of, nodes_of}
use Rattle.standard_trees.specs.TreeStore.{Html, NoSpace, NodeAttr, Trees as WholeTrees, comment_tree, doctype_tree, element_tree}
use Rattle.standard_trees.specs.TreeStore.{no_trees as no_whole, text_tree}

-- an HTML element's attributes, in no namespace
abbrev pub node_attrs : List Attr → List NodeAttr
node_attrs attrs = map (λ a. record { space = NoSpace; name = a.name; value = a.value }) attrs

-- the same trees, of HTML elements alone, in the words of standard_trees
abbrev pub whole : Trees → WholeTrees
whole no_trees = no_whole
whole (text_node text later) = text_tree text (whole later)
whole (comment_node text later) = comment_tree text (whole later)
whole (doctype_node name later) = doctype_tree (doctype_named name) (whole later)
whole (element_node name attrs children later) = element_tree Html name (node_attrs attrs) no_whole (whole children) (whole later)

-- a Document in no-quirks mode
abbrev pub no_quirks : WholeTrees → Document
no_quirks children = record { quirks = NoQuirks; children = children }

-- the document of the tokens of a page
abbrev pub built : ℕ → Bool → Page → Option Document
built depth scripting page = option_map document_of (tree_steps depth (start scripting) (tokens (page_trees page) ++ AnEof ∷ []))

-- a plain page is built as it is written, in no-quirks mode, with and without scripting
abbrev pub PlainPagesAreBuilt : Type 0
PlainPagesAreBuilt = (scripting : Bool) (page : Page) → IsPlainPage page →
    (depth : ℕ) × (built depth scripting page ≡ Some (no_quirks (whole (page_trees page))))

-- an HTML element as the context element of a fragment, outside of forms, in a document in no-quirks mode
abbrev pub context_named : List ℕ → List NodeAttr → Surroundings
context_named name attrs = record { space = Html; name = name; attrs = attrs; in_form = false; quirks = NoQuirks }

-- the nodes of the tokens of a fragment
abbrev pub built_in : ℕ → Bool → Surroundings → Trees → Option WholeTrees
built_in depth scripting around trees =
    option_map nodes_of (tree_steps depth (fragment_start scripting around) (tokens trees ++ AnEof ∷ []))

-- plain trees are built as they are written where the context element is a `body`, `div`, `li`, `td` or `blockquote`
abbrev pub PlainFragmentsAreBuilt : Type 0
PlainFragmentsAreBuilt = (scripting : Bool) (name : List ℕ) (attrs : List NodeAttr) (trees : Trees) →
    is_among name flow_contexts ≡ true → are_plain (outermost FlowPlace) trees ≡ true →
    (depth : ℕ) × (built_in depth scripting (context_named name attrs) trees ≡ Some (whole trees))
