-- What a policy leaves of trees.
use Rattle.std.specs.Prelude.{ℕ, ◌==◌, List, [], ◌∷◌, codes, slice_get, unwrap_or, if◌then◌else◌}
use Rattle.dom_nodes.specs.Ascii.{line_feed}
use Rattle.std.specs.Option.{option_map_or}
use Rattle.dom_nodes.specs.Words.{is_among}
use Rattle.dom_nodes.specs.declared.node_data.NodeData.{NodeData}
use Rattle.dom_nodes.specs.declared.node_data.NodeData.TheVariants.{Element as AnElement, Text}
use Rattle.dom_links.specs.Forest.{Forest, children_of}
use Rattle.dom_links.specs.Trees.{Trees, NoTrees, Tree, trees}
use Rattle.dom_trees.specs.Views.{page_part}
use Rattle.dom_markup.specs.Names.{void_names}
use Rattle.dom_markup.specs.ValueTrees.{ValueTrees}
use Rattle.dom_markup.specs.ValueTrees.ValueTrees.{no_trees, text_node, comment_node, doctype_node, element_node}
use Rattle.dom_sanitize.specs.Written.{followed_by}
use Rattle.page_trees.specs.ElementKinds.{kind_of}
use Rattle.page_trees.specs.declared.element_kinds.ElementCategory.{ElementCategory}
use Rattle.page_trees.specs.declared.element_kinds.ElementCategory.TheVariants.{Body, Html, Pre}
use Rattle.calm_pages.specs.Calm.{behind, behind_text, inside, top}
use Rattle.dom_clean.specs.Fates.{cleaned_attrs, fate_of, place_below, spellable}
use Rattle.dom_clean.specs.declared.fates.Fate.{Fate}
use Rattle.dom_clean.specs.declared.fates.Place.{Place}
use Rattle.dom_clean.specs.declared.fates.Fate.TheVariants.{Stays, Unwrapped}
use Rattle.dom_clean.specs.Policy.{Policy}

-- the text without the line feeds at its front
abbrev pub after_lines : List ℕ → List ℕ
after_lines [] = []
after_lines (b ∷ text) = if b == line_feed then after_lines text else b ∷ text

-- a text in front of trees; others where it is empty
abbrev pub text_or : List ℕ → ValueTrees → ValueTrees → ValueTrees
text_or [] later others = others
text_or (b ∷ text) later others = text_node (b ∷ text) later

-- the trees without the line feeds at their front
abbrev pub without_lines : ValueTrees → ValueTrees
without_lines (text_node contents later) = text_or (after_lines contents) later (without_lines later)
without_lines trees = trees

-- what an element of that kind is left with: a line feed right after the tag of a `pre` is none of its text
abbrev pub held_by : ElementCategory → ValueTrees → ValueTrees
held_by Pre trees = without_lines trees
held_by kind trees = trees

-- what is left of a node of that fate, by what is left of its children
abbrev pub left_of : Policy → Fate → NodeData → ValueTrees → ValueTrees
left_of policy Stays (Text contents) below = behind_text (spellable contents) no_trees
left_of policy Stays (AnElement element) below =
    element_node element.name.local (cleaned_attrs policy element)
    (if is_among element.name.local void_names then no_trees else held_by (kind_of element.name.local) below) no_trees
left_of policy Unwrapped content below = below
left_of policy fate content below = no_trees

-- what is left of trees that stand there
abbrev pub cleaned : Policy → Forest → Place → Trees → ValueTrees
cleaned policy forest place NoTrees = no_trees
cleaned policy forest place (Tree n contents children later) = followed_by
    (option_map_or (λ content. let fate = fate_of policy place content in
    left_of policy fate content (cleaned policy forest (place_below fate place content) children)) (slice_get forest.content n) no_trees)
    (cleaned policy forest place later)

-- the contents of a body
abbrev pub in_body : Policy → Place
in_body policy = record { scope = behind (inside (inside top Html) Body); left = policy.depth }

-- what is left of what stands below a node
abbrev pub cleaned_below : Policy → Forest → ℕ → ValueTrees
cleaned_below policy forest n = cleaned policy forest (in_body policy) (trees forest (children_of forest n))

-- the body of a page, or the root if the page has none
abbrev pub body_of : Forest → ℕ
body_of forest = unwrap_or (page_part forest (codes "body")) 0

-- what is left of what stands in the body of a page
abbrev pub cleaned_body : Policy → Forest → ValueTrees
cleaned_body policy forest = cleaned_below policy forest (body_of forest)
