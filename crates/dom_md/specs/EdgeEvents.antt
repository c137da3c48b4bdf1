-- Which events of formatting the edges of a tree's traversal cause.
use Rattle.std.specs.Prelude.{◌≡◌, ℕ, false, List, [], ◌∷◌, OnOk, Result, String, string_bytes, slice_get, codes, if◌then◌else◌}
use Rattle.std.specs.List.{flat_map}
use Rattle.std.specs.Str.{IsUtf8, bytes_eq}
use Rattle.std.specs.Option.{option_map_or}
use Rattle.dom_nodes.specs.declared.node_data.NodeData.{NodeData}
use Rattle.dom_nodes.specs.declared.node_data.NodeData.TheVariants.{Document, Fragment, Text, Element as AnElement}
use Rattle.dom_links.specs.Forest.{Forest}
use Rattle.dom_links.specs.Texts.{text_of}
use Rattle.dom_links.specs.Edges.{Descending}
use Rattle.dom_links.specs.declared.edges.Edge.{Edge}
use Rattle.dom_links.specs.declared.edges.Edge.TheVariants.{Open, Close}
use Rattle.dom_links.specs.declared.edges.Entered.{Entered}
use Rattle.dom_links.specs.declared.edges.Entered.TheVariants.{Nothing, Children}
use Rattle.dom_md.specs.Formatted.{Event, folded}
use Rattle.dom_md.specs.Formatted.Event.{opens, closes, has_text, keeps_text}

-- what a traversal enters of an element with this name: its children, but nothing of a `pre`
abbrev pub inside_element : List ℕ → Entered
inside_element name = if bytes_eq name (codes "pre") then Nothing else Children

-- what a traversal enters of a node; no other nodes than these have children
abbrev pub inside_of : NodeData → Entered
inside_of Document = Children
inside_of Fragment = Children
inside_of (AnElement e) = inside_element e.name.local
inside_of _ = Nothing

-- the traversal of all nodes except those below a `pre`
abbrev pub outside_pre : Descending
outside_pre = record { inside = inside_of; mark = λ content. false }

-- the events when node `n` opens; those of a `pre` include its text and its end
abbrev pub open_events : Forest → ℕ → NodeData → List Event
open_events forest n (Text contents) = has_text contents ∷ []
open_events forest n (AnElement e) = opens e.name.local ∷ (if bytes_eq e.name.local (codes "pre") then keeps_text (text_of forest n) ∷ closes e.name.local ∷ [] else [])
open_events forest n _ = []

abbrev pub close_events : NodeData → List Event
close_events (AnElement e) = closes e.name.local ∷ []
close_events _ = []

abbrev pub edge_events : Forest → Edge → List Event
edge_events forest (Open n marked) = option_map_or (open_events forest n) (slice_get forest.content n) []
edge_events forest (Close n) = option_map_or close_events (slice_get forest.content n) []

abbrev pub edges_events : Forest → List Edge → List Event
edges_events forest es = flat_map (edge_events forest) es

-- the texts in the events are valid UTF-8
abbrev pub AreUtf8 : List Event → Type 0
AreUtf8 [] = Unit {0}
AreUtf8 (has_text text ∷ es) = IsUtf8 text × AreUtf8 es
AreUtf8 (keeps_text text ∷ es) = IsUtf8 text × AreUtf8 es
AreUtf8 (e ∷ es) = AreUtf8 es

-- `new` is the text `old` after the events, whose texts are valid UTF-8
pub record IsFolded (old new : List ℕ) (es : List Event) : Type 0 where
  pub is : new ≡ folded old es
  pub utf8 : AreUtf8 es

-- applying `after` to the new text gives the same as applying `before` to the old one: some of the events `before` were applied,
-- and `after` are those that remain
pub record IsPartFolded (old new : List ℕ) (before after : List Event) : Type 0 where
  pub is : folded new after ≡ folded old before
  pub utf8 : AreUtf8 after → AreUtf8 before

-- the contract of a call that formats: if it succeeds, the events were applied to the text
abbrev pub Formats : {A T E : Type 0} → (old new : String A) → Result T E → List Event → Type 0
Formats old new result es = OnOk result (IsFolded (string_bytes old) (string_bytes new) es)
