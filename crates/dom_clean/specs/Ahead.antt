-- What is still to be written.
use Rattle.std.specs.Prelude.{ℕ, ◌≡◌, ◌<◌, ◌+◌, ◌*◌, ◌&&◌, Bool, true, false, not, List, [], ◌∷◌, ◌++◌, Option, Some, None, length}
use Rattle.std.specs.Prelude.{slice_get, if◌then◌else◌}
use Rattle.std.specs.Option.{option_map_or}
use Rattle.dom_nodes.specs.Words.{is_among}
use Rattle.dom_nodes.specs.declared.node_data.NodeData.{NodeData}
use Rattle.dom_nodes.specs.declared.node_data.NodeData.TheVariants.{Element as AnElement, Text}
use Rattle.dom_links.specs.Forest.{Forest}
use Rattle.dom_links.specs.Trees.{trees, walk}
use Rattle.dom_links.specs.Walk.{row_on}
use Rattle.dom_markup.specs.Escaping.{escaped_text}
use Rattle.dom_markup.specs.Html.{closing}
use Rattle.dom_markup.specs.Names.{void_names}
use Rattle.page_trees.specs.ElementKinds.{kind_of}
use Rattle.page_trees.specs.declared.element_kinds.ElementCategory.{ElementCategory}
use Rattle.page_trees.specs.declared.element_kinds.ElementCategory.TheVariants.{Pre}
use Rattle.dom_clean.specs.Cleaned.{after_lines, cleaned}
use Rattle.dom_clean.specs.Fates.{cleaned_attrs, place_below, spellable}
use Rattle.dom_clean.specs.Policy.{Policy}
use Rattle.dom_clean.specs.Written.{start_of, text_of}
use Rattle.dom_clean.specs.declared.fates.Fate.{Fate}
use Rattle.dom_clean.specs.declared.fates.Fate.TheVariants.{Stays, Unwrapped}
use Rattle.dom_clean.specs.declared.fates.Place.{Place}
use Rattle.dom_clean.specs.declared.writer.Entry.{Entry}
use Rattle.dom_clean.specs.declared.writer.Entry.TheVariants.{Row, End}

-- ---- the front of a `pre`

abbrev pub is_pre : ElementCategory → Bool
is_pre Pre = true
is_pre kind = false

abbrev pub is_nil : List ℕ → Bool
is_nil [] = true
is_nil (b ∷ text) = false

-- what is written of a text; right after the start tag of a `pre` no line feeds are
abbrev pub seen : Bool → List ℕ → List ℕ
seen in_front text = if in_front then after_lines text else text

-- whether what follows a node stands right after the start tag of a `pre`
abbrev pub front_below : Bool → NodeData → Bool
front_below in_front (Text contents) = in_front && is_nil (after_lines (spellable contents))
front_below in_front (AnElement element) = not (is_among element.name.local void_names) && is_pre (kind_of element.name.local)
front_below in_front content = in_front

abbrev pub front_after : Fate → Bool → NodeData → Bool
front_after Stays in_front content = front_below in_front content
front_after fate in_front content = in_front

-- the same after the end of a node
abbrev pub front_past : Bool → Option NodeData → Bool
front_past in_front (Some (AnElement element)) = false
front_past in_front content = in_front

-- ---- entries

-- the text of a node and its later siblings, which stand there
abbrev pub row_text : Policy → Forest → Option ℕ → Place → List ℕ
row_text policy forest first place = text_of (cleaned policy forest place (trees forest (row_on forest false first)))

abbrev pub entry_text : Policy → Forest → Entry → List ℕ
entry_text policy forest (Row first place) = row_text policy forest (Some first) place
entry_text policy forest (End n) = option_map_or closing (slice_get forest.content n) []

abbrev pub ahead_text : Policy → Forest → List Entry → List ℕ
ahead_text policy forest [] = []
ahead_text policy forest (entry ∷ entries) = entry_text policy forest entry ++ ahead_text policy forest entries

-- how often is written
abbrev pub row_weight : Forest → Option ℕ → ℕ
row_weight forest first = 2 * length (walk (trees forest (row_on forest false first)))

abbrev pub weight : Forest → List Entry → ℕ
weight forest [] = 0
weight forest (Row first place ∷ entries) = row_weight forest (Some first) + weight forest entries
weight forest (End n ∷ entries) = 1 + weight forest entries

-- the rows are of nodes of the forest
abbrev pub AreKnown : Forest → List Entry → Type 0
AreKnown forest [] = Unit {0}
AreKnown forest (Row first place ∷ entries) = (first < length forest.content) × AreKnown forest entries
AreKnown forest (End n ∷ entries) = AreKnown forest entries

abbrev pub with_row : Option ℕ → Place → List Entry → List Entry
with_row None place entries = entries
with_row (Some n) place entries = Row n place ∷ entries

-- what is still to be written of a node of that fate
abbrev pub with_below : Fate → NodeData → ℕ → Option ℕ → Place → List Entry → List Entry
with_below Stays (AnElement element) n below place entries =
    if is_among element.name.local void_names then entries
    else with_row below (place_below Stays place (AnElement element)) (End n ∷ entries)
with_below Unwrapped content n below place entries = with_row below place entries
with_below fate content n below place entries = entries

-- what is written before it
abbrev pub opening : Policy → Fate → Bool → NodeData → List ℕ
opening policy Stays in_front (Text contents) = escaped_text (seen in_front (spellable contents))
opening policy Stays in_front (AnElement element) = start_of element.name.local (cleaned_attrs policy element)
opening policy fate in_front content = []

-- The next entry was written: the text, and that of what is left, is the same as before, and less is left
pub record Writes (policy : Policy) (forest : Forest) (entry : Entry) (old new : List Entry) (before later : List ℕ) (was is : Bool) : Type
    0 where
  pub known : AreKnown forest new
  pub whole : later ++ seen is (ahead_text policy forest new) ≡ before ++ seen was (ahead_text policy forest (entry ∷ old))
  pub fewer : weight forest new < weight forest (entry ∷ old)
