-- Sets of elements that the HTML Standard names (13.2.4.2, 13.2.6): an open element is in one of the lists of standard_trees.
use Rattle.std.specs.Prelude.{Bool, List, true, false, ℕ, ◌&&◌, ◌||◌, not}
use Rattle.standard_trees.specs.Building.{adjusted}
use Rattle.standard_trees.specs.GrowingTree.{is_among}
use Rattle.standard_trees.specs.NameLists.{crossed_by_items, headings, html_points, implied, scope, special, svg_names, table_body_context}
use Rattle.standard_trees.specs.NameLists.{table_context, table_row_context, text_points}
use Rattle.standard_trees.specs.TreeStore.{Space, key_of}
use Rattle.standard_trees.specs.TreeStore.{Html as HtmlSpace, MathMl as MathMlSpace, Svg as SvgSpace}
use Rattle.page_trees.specs.Names.{text_of}
use Rattle.page_trees.specs.declared.name.Name.{Name}
use Rattle.page_trees.specs.declared.sets.TableContext.{TableContext}
use Rattle.page_trees.specs.declared.sets.TableContext.TheVariants.{Row, Section, Table}
use Rattle.page_trees.specs.declared.stack.ElementNamespace.{ElementNamespace}
use Rattle.page_trees.specs.declared.stack.ElementNamespace.TheVariants.{Html, MathMl, Svg}
use Rattle.page_trees.specs.declared.stack.Open.{Open}

abbrev pub is_in_html : ElementNamespace → Bool
is_in_html Html = true
is_in_html _ = false

abbrev pub space_of : ElementNamespace → Space
space_of Html = HtmlSpace
space_of Svg = SvgSpace
space_of MathMl = MathMlSpace

-- the local name of the element that a tag of that name makes
abbrev pub local_for : ElementNamespace → List ℕ → List ℕ
local_for Html written = written
local_for Svg written = adjusted svg_names written
local_for MathMl written = written

-- the name of an element as the lists have it, by the name of its tag
abbrev pub key_for : ElementNamespace → List ℕ → List ℕ
key_for ns written = key_of (space_of ns) (local_for ns written)

-- an element with this name in this namespace is one of these
abbrev pub is_one_in : List (List ℕ) → ElementNamespace → Name → Bool
is_one_in names ns name = is_among (key_for ns (text_of name)) names

-- the name of an open element
abbrev pub rule_name : Open → List ℕ
rule_name o = key_for o.ns (text_of o.name)

-- an open element is one of these
abbrev pub is_one : List (List ℕ) → Open → Bool
is_one names o = is_one_in names o.ns o.name

-- "has an element in scope": the elements at which the search ends
abbrev pub ends_scope : Open → Bool
ends_scope o = is_one scope o

-- the category special
abbrev pub is_special_element : Open → Bool
is_special_element o = is_one special o

-- "generate implied end tags": the elements that are popped
abbrev pub is_implied : Open → Bool
is_implied o = is_one implied o

abbrev pub is_a_heading : Open → Bool
is_a_heading o = is_one headings o

-- the elements back to which the stack is cleared in each context of a table
abbrev pub context_names : TableContext → List (List ℕ)
context_names Table = table_context
context_names Section = table_body_context
context_names Row = table_row_context

abbrev pub ends_context : TableContext → Open → Bool
ends_context context o = is_one (context_names context) o

-- the special elements at which the search for an open list item goes on
abbrev pub is_crossed : Open → Bool
is_crossed o = is_one crossed_by_items o

-- MathML text integration points
abbrev pub is_a_text_point : Open → Bool
is_a_text_point o = is_one text_points o

abbrev pub is_in_mathml : ElementNamespace → Bool
is_in_mathml MathMl = true
is_in_mathml _ = false

-- HTML integration points: elements of SVG, and an annotation-xml whose encoding is HTML
abbrev pub is_an_html_point : Open → Bool
is_an_html_point o = is_one html_points o || (is_in_mathml o.ns && o.holds_html)

-- the content of the element is parsed by the rules for foreign content
abbrev pub has_foreign_content : Open → Bool
has_foreign_content o = not (is_in_html o.ns) && not (is_a_text_point o) && not (is_an_html_point o)

abbrev pub has_html_content : Open → Bool
has_html_content o = not (has_foreign_content o)
