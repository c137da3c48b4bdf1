-- The state of the parser, and what each of its steps does.
use Rattle.std.specs.Prelude.{◌≡◌, ◌+◌, ◌-◌, ◌++◌, ◌∷◌, ◌⊎◌, [], ℕ, List, true, Option, None, Some, Result, length, map, slice_get, MatchResult, if◌then◌else◌}
use Rattle.std.specs.Borrow.{Bor}
use Rattle.std.specs.Option.{option_map_or}
use Rattle.dom_links.specs.Forest.{Forest}
use Rattle.dom_links.specs.Growth.{with_child, with_template}
use Rattle.dom_nodes.specs.declared.fault.MarkupFaultKind.{MarkupFaultKind}
use Rattle.dom_nodes.specs.declared.fault.MarkupFaultKind.TheVariants.{Memory, Unclosed}
use Rattle.dom_nodes.specs.declared.name.Attr.{Attr}
use Rattle.dom_nodes.specs.declared.node_data.NodeData.{NodeData}
use Rattle.dom_nodes.specs.declared.node_data.NodeData.TheVariants.{Comment as AComment, Doctype as ADoctype, Text as AText}
use Rattle.dom_trees.specs.NewNodes.{element_with, html_name}
use Rattle.dom_markup.specs.Bytes.{folded}
use Rattle.dom_markup.specs.TreeUnderConstruction.{GrowsTo, plain_element}
use Rattle.dom_nodes.specs.Words.{is_among}
use Rattle.dom_markup.specs.Names.{Mode, is_template, void_names}
use Rattle.dom_markup.specs.ValueTrees.{Attribute, ValueTrees}
use Rattle.dom_markup.specs.Markup.{Item, AreInPlace, Begins, BeginsNothing, BeginsStart, items_of, mode_after}
use Rattle.dom_markup.specs.Markup.Item.{characters, comment}
use Rattle.dom_markup.specs.Frames.{Opened, HasRead}
use Rattle.dom_markup.specs.Numbered.{document_of, read_attr}
use Rattle.dom_markup.specs.Refusals.{Cause, Declines, LeavesSomeOpen, StartCause}
use Rattle.dom_markup.specs.Token.{mode_of}
use Rattle.dom_markup.specs.declared.document.doctypes.Doctype.{Doctype}
use Rattle.dom_markup.specs.declared.document.reader.Behind.{Behind}
use Rattle.dom_markup.specs.declared.document.reader.Open.{Open}
use Rattle.dom_markup.specs.declared.document.reader.Reader.{Reader}
use Rattle.dom_markup.specs.declared.document.reader.Started.{Started}

abbrev pub opened_by : Open → Opened
opened_by element = record { number = element.number; name = folded element.name.now }

-- the parser has read these tokens
abbrev pub AfterItems : List Item → Reader → Type 0
AfterItems items reader = HasRead items reader.tree (map opened_by reader.stack.items)

-- the parser has read some sequence of tokens
abbrev pub IsReading : Reader → Type 0
IsReading reader = (items : List Item) × AfterItems items reader

-- these are all the tokens of well-placed trees, and the forest is the document of these trees
abbrev pub IsWhole : List Item → Forest → Type 0
IsWhole items forest = (trees : ValueTrees) × (items ≡ items_of trees) × AreInPlace true trees × (forest ≡ document_of trees)

-- If the parser has read these tokens, they are complete trees, and the result is their document; or memory ran out, or an
-- element is still open.
abbrev pub EndsReading : Reader → Result Forest MarkupFaultKind → Type 0
EndsReading reader result = (items : List Item) → AfterItems items reader → MatchResult result (IsWhole items) (λ kind. (kind ≡ Memory) ⊎ ((kind ≡ Unclosed) × LeavesSomeOpen items))

-- The id of the node that gets the next child: the innermost open element (its contents, if it is a template), or the document.
abbrev pub parent_number : Reader → ℕ
parent_number reader =
    option_map_or (λ (o : Open). o.number) (slice_get reader.stack.items (length reader.stack.items - 1)) 0

-- The tree is now this forest, and `place` is the id of the node that gets the new node's children. An error reports a limit.
pub record Grows (old new : Reader) (result : Result ℕ MarkupFaultKind) (place : ℕ) (tree : Forest) : Type 0 where
  pub stack : new.stack ≡ old.stack
  pub grown : GrowsTo result new.tree place tree

-- what was read of a start tag is an element with this name and these attributes
pub record IsStarted (started : Started) (read : List Attr) (name : List ℕ) (attributes : List Attribute) : Type 0 where
  pub written : folded started.written.now ≡ name
  pub local : started.local ≡ name
  pub void : started.void ≡ is_among name void_names
  pub attrs : read ≡ map read_attr attributes

-- the doctype node for this doctype of the source
abbrev pub doctype_data : Doctype → NodeData
doctype_data written = ADoctype (folded written.name.now) written.public.now written.system.now

-- the text starts with a start tag, of which this was read, and then comes `rest`
abbrev pub StartsSo : List ℕ → Started → List Attr → List ℕ → Type 0
StartsSo text started read rest =
    let name = folded started.written.now in (all : List Attribute) × BeginsStart text name all rest × IsStarted started read name all

-- What the start tag at the beginning contains, with its attributes, and what follows the tag; or memory ran out, or there is
-- none.
abbrev pub TakesStarted : List ℕ → List Attr → Result (Started × Bor (List ℕ)) MarkupFaultKind → Type 0
TakesStarted text read result = MatchResult result (λ found. StartsSo text found.0 read found.1.now) (λ kind. (kind ≡ Memory) ⊎ StartCause text kind)

-- the forest with the element of this start tag as the last child of `p`; a `template` gets a contents fragment as well
abbrev pub with_started : ℕ → Started → List Attr → Forest → Forest
with_started p started attrs forest =
    if is_template (folded started.written.now) then with_template p (element_with (html_name started.local) attrs (length forest.content + 1)) forest
    else with_child p (plain_element (html_name started.local) attrs) forest

-- the parser has read this token after all the tokens before it, or the fault says why it has not
abbrev pub ReadsItem : {T : Type 0} → Item → Reader → Reader → Result T MarkupFaultKind → Type 0
ReadsItem item old new result =
    (items : List Item) → AfterItems items old → MatchResult result (λ _. AfterItems (items ++ item ∷ []) new) (λ kind. Declines items item kind)

-- the token for a text node or a comment node
abbrev pub leaf_item : NodeData → Option Item
leaf_item (AText contents) = Some (characters contents)
leaf_item (AComment contents) = Some (comment contents)
leaf_item _ = None

-- Why the token at the start of the text isn't read after these tokens: memory ran out, no token starts there, or it is out of
-- place.
abbrev pub StopsAt : Mode → List ℕ → List Item → MarkupFaultKind → Type 0
StopsAt mode text items kind =
    (kind ≡ Memory) ⊎ (BeginsNothing mode text × Cause mode text kind) ⊎ ((item : Item) × (rest : List ℕ) × Begins mode text item rest × Declines items item kind)

-- The parser has read the token at the start of the text after all the tokens before it, and returns what follows; or the fault
-- says why it has not.
abbrev pub ReadsFront : Mode → List ℕ → Reader → Reader → Result Behind MarkupFaultKind → Type 0
ReadsFront mode text old new result = (items : List Item) → AfterItems items old → MatchResult result
    (λ behind. (item : Item) × Begins mode text item behind.rest.now × (mode_of behind.within ≡ mode_after mode item) × AfterItems (items ++ item ∷ []) new)
    (StopsAt mode text items)
