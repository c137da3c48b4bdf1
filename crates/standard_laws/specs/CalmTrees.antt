-- Calm trees as the HTML Standard's parser has them: with texts as characters, in place of the bytes of their UTF-8.
use Rattle.std.specs.Prelude.{ℕ, Bool, true, not, ◌==◌, ◌&&◌, List, map}
use Rattle.std.specs.List.{list_all}
use Rattle.std.specs.Str.{chars}
use Rattle.dom_markup.specs.ValueTrees.{Attribute, ValueTrees}
use Rattle.dom_markup.specs.ValueTrees.ValueTrees.{no_trees, text_node, comment_node, doctype_node, element_node}
use Rattle.calm_pages.specs.Calm.{top}
use Rattle.page_trees.specs.ElementKinds.{kind_of}
use Rattle.calm_pages.specs.declared.nesting.Scope.{Scope}
use Rattle.standard_rules.specs.TreeTokens.{doctype_named}
use Rattle.standard_trees.specs.TreeStore.{Html, NoSpace, NodeAttr, Trees, comment_tree, doctype_tree, element_tree}
use Rattle.standard_trees.specs.TreeStore.{no_trees as no_nodes, text_tree}

abbrev pub attrs_of : List Attribute → List NodeAttr
attrs_of attributes = map (λ a. record { space = NoSpace; name = chars a.name; value = chars a.value }) attributes

-- the same trees, of HTML elements, with characters; names of elements are ASCII
abbrev pub nodes_of : ValueTrees → Trees
nodes_of no_trees = no_nodes
nodes_of (text_node contents later) = text_tree (chars contents) (nodes_of later)
nodes_of (comment_node contents later) = comment_tree (chars contents) (nodes_of later)
nodes_of (doctype_node name public system later) = doctype_tree (doctype_named name) (nodes_of later)
nodes_of (element_node name attributes children later) =
    element_tree Html name (attrs_of attributes) no_nodes (nodes_of children) (nodes_of later)

-- no text holds U+0000
abbrev pub have_no_null : ValueTrees → Bool
have_no_null no_trees = true
have_no_null (text_node contents later) = list_all (λ c. not (c == 0)) (chars contents) && have_no_null later
have_no_null (comment_node contents later) = have_no_null later
have_no_null (doctype_node name public system later) = have_no_null later
have_no_null (element_node name attributes children later) = have_no_null children && have_no_null later

-- the scope of the nodes of a fragment in a context element of that name
abbrev pub scope_in : List ℕ → Scope
scope_in context = record top { parent = kind_of context }
