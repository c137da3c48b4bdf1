-- Pages and their documents.
use Rattle.std.specs.Prelude.{ℕ, List, [], ◌∷◌, codes}
use Rattle.standard_rules.specs.TreeTokens.{doctype_named}
use Rattle.standard_trees.specs.TreeStore.{Html, NoSpace, NodeAttr, Trees, doctype_tree, element_tree, no_trees, text_tree}
use Rattle.standard_laws.specs.Parsing.{IsPageOf}

-- an HTML element with these attributes, these children, and what comes after it
abbrev pub html_element : List ℕ → List NodeAttr → Trees → Trees → Trees
html_element name attrs children later = element_tree Html name attrs no_trees children later

-- a page with this head and this body
abbrev pub page : Trees → Trees → Trees
page head body = doctype_tree (doctype_named (codes "html"))
    (html_element (codes "html") [] (html_element (codes "head") [] head (html_element (codes "body") [] body no_trees)) no_trees)

-- the tags that are left out are implied, and the second `p` ends the first
abbrev pub ImpliedTagsAreParsed : Type 0
ImpliedTagsAreParsed = IsPageOf (codes "<!DOCTYPE html><p>a&amp;b<p class=x>c")
    (page no_trees
    (html_element (codes "p") [] (text_tree (codes "a&b") no_trees)
    (html_element (codes "p") (record { space = NoSpace; name = codes "class"; value = codes "x" } ∷ []) (text_tree (codes "c") no_trees)
    no_trees)))

-- in a `title` references are read and tags are not, in a `style` neither
abbrev pub TextStatesAreParsed : Type 0
TextStatesAreParsed = IsPageOf (codes "<!DOCTYPE html><title>a&lt;<b></title><style>b>&lt;</style>d")
    (page
    (html_element (codes "title") [] (text_tree (codes "a<<b>") no_trees)
    (html_element (codes "style") [] (text_tree (codes "b>&lt;") no_trees) no_trees))
    (text_tree (codes "d") no_trees))
