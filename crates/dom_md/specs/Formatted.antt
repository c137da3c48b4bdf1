-- Formatted text, defined as a fold over events: elements that open and close, and texts.
use Rattle.std.specs.Prelude.{◌≡◌, Result, String, IfOk, encode_utf8, string_bytes, ℕ, ◌-◌, ◌==◌, ◌&&◌, ◌||◌, nat_lt, not, Bool, true, false, List, [], ◌∷◌, ◌++◌, length, drop, slice_get, codes, encode_utf8_all, if◌then◌else◌}
use Rattle.std.specs.Borrow.{Bor}
use Rattle.std.specs.Char.{is_whitespace}
use Rattle.std.specs.List.{flat_map}
use Rattle.std.specs.Option.{option_map_or}
use Rattle.std.specs.Str.{bytes_eq, chars, trim_start, trim_end}
use Rattle.dom_nodes.specs.Ascii.{space}
use Rattle.dom_nodes.specs.declared.node_data.NodeData.{NodeData}
use Rattle.dom_nodes.specs.declared.node_data.NodeData.TheVariants.{Text, Element as AnElement}
use Rattle.dom_links.specs.Forest.{Forest, children_of}
use Rattle.dom_links.specs.Texts.{text_at}
use Rattle.dom_links.specs.Trees.{Trees, NoTrees, Tree, trees, walk}
use Rattle.dom_nodes.specs.Kinds.{is_top}
use Rattle.dom_trees.specs.Views.{node_is}
use Rattle.dom_nodes.specs.Words.{is_among}

-- ---- names

unfoldable pub block_names : List (List ℕ)
block_names = codes "article" ∷ codes "blockquote" ∷ codes "section" ∷ codes "div" ∷ codes "p" ∷ codes "pre" ∷ codes "h1" ∷ codes "h2" ∷ codes "h3" ∷ codes "h4" ∷ codes "h5" ∷ codes "h6" ∷ codes "ul" ∷ codes "ol" ∷ codes "dl" ∷ codes "table" ∷ []

unfoldable pub line_names : List (List ℕ)
line_names = codes "br" ∷ codes "hr" ∷ codes "li" ∷ codes "tr" ∷ []

unfoldable pub cell_names : List (List ℕ)
cell_names = codes "td" ∷ codes "th" ∷ []

-- ---- ends of a text

abbrev pub ends_with : List ℕ → List ℕ → Bool
ends_with end text = bytes_eq (drop (length text - length end) text) end

-- the text is empty or ends in a line feed or a space
abbrev pub is_fresh : List ℕ → Bool
is_fresh text = length text == 0 || ends_with (codes "\n") text || ends_with (codes " ") text

-- the text is empty or ends in two line feeds
abbrev pub is_parted : List ℕ → Bool
is_parted text = length text == 0 || ends_with (codes "\n\n") text

-- the text without the spaces at its end
abbrev pub drop_spaces : List ℕ → List ℕ
drop_spaces [] = []
drop_spaces (b ∷ text) = if b == space && length (drop_spaces text) == 0 then [] else b ∷ drop_spaces text

-- ---- words

-- the characters with each run of whitespace replaced by one space, or by nothing at the end of the text; `gap` says whether
-- whitespace directly precedes them
abbrev pub spaced_on : (gap : Bool) → List ℕ → List ℕ
spaced_on gap [] = []
spaced_on gap (c ∷ cs) = if is_whitespace c then spaced_on true cs else if gap then space ∷ c ∷ spaced_on false cs else c ∷ spaced_on false cs

-- a text with one space for each run of whitespace before a word, and none at its end
abbrev pub spaced_words : List ℕ → List ℕ
spaced_words text = encode_utf8_all (spaced_on false (chars text))

-- the words of a text, joined by single spaces
abbrev pub joined_words : List ℕ → List ℕ
joined_words text = spaced_words (trim_start text)

-- the contract of a call that appends some of a text's words: the new string followed by the words of the remaining text is the
-- old string followed by the words of the whole text
abbrev pub AddsWords : {A E : Type 0} → (old new : String A) → Result (Bor (List ℕ)) E → List ℕ → Type 0
AddsWords old new result text = IfOk result (λ after. string_bytes new ++ spaced_words after.now ≡ string_bytes old ++ spaced_words text)

-- the text is a character followed by a rest, and the spaced words of the text are that character followed by those of the rest
abbrev pub CutsChar : List ℕ → ℕ × Bor (List ℕ) → Type 0
CutsChar text cut = (text ≡ encode_utf8 cut.0 ++ cut.1.now) × (spaced_words text ≡ encode_utf8 cut.0 ++ spaced_words cut.1.now)

abbrev pub begins_with_whitespace : List ℕ → Bool
begins_with_whitespace text = nat_lt (length (trim_start text)) (length text)

abbrev pub ends_with_whitespace : List ℕ → Bool
ends_with_whitespace text = nat_lt (length (trim_end text)) (length text)

-- ---- the steps

-- the text with these words appended, and a space before them if whitespace preceded them and the old text ends in neither space
-- nor line feed
abbrev pub with_words : (old text words : List ℕ) → List ℕ
with_words old text words =
    if length words == 0 then old
    else if begins_with_whitespace text && not (is_fresh old) then old ++ (codes " " ++ words)
    else old ++ words

-- a space is appended if the added text ended in whitespace and the result does not
abbrev pub with_gap : (text now : List ℕ) → List ℕ
with_gap text now = if ends_with_whitespace text && not (ends_with_whitespace now) then now ++ codes " " else now

abbrev pub with_text : (old text : List ℕ) → List ℕ
with_text old text =
    if is_fresh old && length (joined_words text) == 0 then old
    else with_gap text (with_words old text (joined_words text))

abbrev pub with_open : (old name : List ℕ) → List ℕ
with_open old name = if is_among name block_names && not (is_parted old) then old ++ codes "\n" else old

abbrev pub with_close : (old name : List ℕ) → List ℕ
with_close old name =
    if is_parted old then old
    else if is_among name block_names then drop_spaces old ++ codes "\n\n"
    else if is_among name line_names then drop_spaces old ++ codes "\n"
    else if is_among name cell_names && not (is_fresh old) then old ++ codes " "
    else old

-- ---- the fold

-- an element with this name opens or closes; there is a text; there is a text that is kept unchanged
pub data Event : Type 0 where
  opens : List ℕ → Event
  closes : List ℕ → Event
  has_text : List ℕ → Event
  keeps_text : List ℕ → Event

abbrev pub step : List ℕ → Event → List ℕ
step old (opens name) = with_open old name
step old (closes name) = with_close old name
step old (has_text text) = with_text old text
step old (keeps_text text) = old ++ text

abbrev pub folded : List ℕ → List Event → List ℕ
folded old [] = old
folded old (e ∷ es) = folded (step old e) es

-- ---- the events of trees

-- the contents of all text nodes in trees, concatenated
abbrev pub joined_texts : Forest → Trees → List ℕ
joined_texts forest ts = flat_map (text_at forest) (walk ts)

-- the events between the start and the end of an element: a `pre` keeps its text unchanged
abbrev pub inner_events : (name text : List ℕ) → List Event → List Event
inner_events name text below = if bytes_eq name (codes "pre") then keeps_text text ∷ [] else below

-- the events of a node: its text, or its start and end with what is below it between them; `text` is the text of the node
abbrev pub node_events : NodeData → (text : List ℕ) → List Event → List Event
node_events (Text contents) text below = has_text contents ∷ below
node_events (AnElement e) text below = opens e.name.local ∷ inner_events e.name.local text below ++ closes e.name.local ∷ []
node_events _ text below = below

abbrev pub events : Forest → Trees → List Event
events forest NoTrees = []
events forest (Tree n contents children later) =
    option_map_or (λ content. node_events content (joined_texts forest children) (events forest children)) (slice_get forest.content n) (events forest children)
    ++ events forest later

abbrev pub events_below : Forest → ℕ → List Event
events_below forest n = events forest (trees forest (children_of forest n))

-- the formatted text of what is below a node, with whitespace at its end
abbrev pub untrimmed_below : Forest → ℕ → List ℕ
untrimmed_below forest n = folded [] (events_below forest n)

-- the formatted text of what is below a node, without whitespace at its end; and that of a node including its own start and end,
-- which is empty for a document or a fragment
unfoldable pub formatted_below : Forest → ℕ → List ℕ
formatted_below forest n = trim_end (untrimmed_below forest n)

unfoldable pub formatted_node : Forest → ℕ → List ℕ
formatted_node forest n = if node_is is_top forest n then [] else folded [] (events forest (trees forest (n ∷ [])))
