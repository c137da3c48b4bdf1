-- What is left of a parsed document, as trees of values without ids.
use Rattle.std.specs.Prelude.{◌≡◌, ◌||◌, ℕ, true, false, List, ◌++◌, filter, if◌then◌else◌}
use Rattle.dom_nodes.specs.Words.{is_among}
use Rattle.dom_links.specs.Forest.{Forest}
use Rattle.dom_markup.specs.Html.{html_of}
use Rattle.dom_markup.specs.Markup.{Spells}
use Rattle.dom_markup.specs.Names.{is_template, raw_names, text_names}
use Rattle.dom_markup.specs.Plain.{IsPlain}
use Rattle.dom_markup.specs.ValueTrees.{ValueTrees}
use Rattle.dom_markup.specs.ValueTrees.ValueTrees.{no_trees, text_node, comment_node, doctype_node, element_node}
use Rattle.dom_sanitize.specs.Clean.{Lists}

-- The trees of the first list, then those of the second.
abbrev pub followed_by : ValueTrees → ValueTrees → ValueTrees
followed_by no_trees others = others
followed_by (text_node contents later) others = text_node contents (followed_by later others)
followed_by (comment_node contents later) others = comment_node contents (followed_by later others)
followed_by (doctype_node name public system later) others = doctype_node name public system (followed_by later others)
followed_by (element_node name attributes children later) others = element_node name attributes children (followed_by later others)

-- What the lists leave of trees.
abbrev pub left_of : Lists → ValueTrees → ValueTrees
left_of allow no_trees = no_trees
left_of allow (text_node contents later) = text_node contents (left_of allow later)
left_of allow (comment_node contents later) = left_of allow later
left_of allow (doctype_node name public system later) = left_of allow later
left_of allow (element_node name attributes children later) =
    if is_template name || is_among name allow.drop then left_of allow later
    else if is_among name allow.elements then element_node name (filter (λ a. is_among a.name allow.attrs) attributes) (left_of allow children) (left_of allow later)
    else followed_by (left_of allow children) (left_of allow later)

-- The trees with a text before them. If they begin with a text, the two are joined.
abbrev pub with_text : List ℕ → ValueTrees → ValueTrees
with_text contents (text_node more later) = text_node (contents ++ more) later
with_text contents trees = text_node contents trees

-- The trees with adjacent texts joined.
abbrev pub joined : ValueTrees → ValueTrees
joined no_trees = no_trees
joined (text_node contents later) = with_text contents (joined later)
joined (comment_node contents later) = comment_node contents (joined later)
joined (doctype_node name public system later) = doctype_node name public system (joined later)
joined (element_node name attributes children later) = element_node name attributes (joined children) (joined later)

-- The lists allow no raw text element, and neither `title` nor `textarea`.
abbrev pub AllowsNoText : Lists → Type 0
AllowsNoText allow = (name : List ℕ) → is_among name allow.elements ≡ true → (is_among name raw_names ≡ false) × (is_among name text_names ≡ false)

-- The written form of the sanitized document is parsed as what was left, with adjacent texts
-- joined.
abbrev pub ReadsBackClean : Lists → (old new : Forest) → IsPlain old → Type 0
ReadsBackClean allow old new plain = Spells (html_of new 0) (joined (left_of allow plain.trees))
