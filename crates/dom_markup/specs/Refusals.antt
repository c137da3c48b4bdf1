-- Why a text is not markup, and where its first error is.
use Rattle.std.specs.Prelude.{ℕ, ◌≡◌, ◌≢◌, ◌==◌, ◌||◌, true, false, ◌+◌, ◌≤◌, ◌⊎◌, List, [], ◌∷◌, ◌++◌, length, codes, if◌then◌else◌}
use Rattle.dom_markup.specs.Names.{Mode, markup, text_of, raw_text_of, is_template, void_names}
use Rattle.dom_nodes.specs.declared.fault.MarkupFaultKind.{MarkupFaultKind}
use Rattle.dom_nodes.specs.declared.fault.MarkupFaultKind.TheVariants.{BadTag, Unclosed, MismatchedEnd, StrayEnd, SlashOnOpen, BadComment, BadDeclaration, MisplacedDoctype, Instruction, TooManyNodes, Memory}
use Rattle.dom_markup.specs.ValueTrees.{Attribute, ValueTrees}
use Rattle.dom_nodes.specs.Ascii.{less_than, slash}
use Rattle.dom_nodes.specs.Words.{is_among}
use Rattle.dom_markup.specs.Bytes.{folded, is_letter}
use Rattle.dom_markup.specs.Frames.{Frame, FramesInPlace, is_top, opened_items}
use Rattle.dom_markup.specs.Markup.{Item, AreInPlace, Begins, BeginsNothing, BeginsStart, EndsTag, IsTagName, LacksEnd, SpellsItemsUpTo, SpellsNothing, items_of, mode_past}
use Rattle.dom_markup.specs.Markup.Item.{start_tag, end_tag, characters, comment, doctype}

-- how many nodes these tokens start; a template starts its contents fragment too
abbrev pub nodes_begun : List Item → ℕ
nodes_begun [] = 0
nodes_begun (start_tag name attributes ∷ items) = (if is_template name then 2 else 1) + nodes_begun items
nodes_begun (end_tag name ∷ items) = nodes_begun items
nodes_begun (characters contents ∷ items) = 1 + nodes_begun items
nodes_begun (comment contents ∷ items) = 1 + nodes_begun items
nodes_begun (doctype name public system ∷ items) = 1 + nodes_begun items

-- a beginning of the text has more nodes than a document can have below its root
pub record BeginsTooManyNodes (text : List ℕ) : Type 0 where
  pub items : List Item
  pub rest : List ℕ
  pub spelled : SpellsItemsUpTo markup text items rest
  pub many : 4294967295 ≤ nodes_begun items

-- what a fault says about the whole text
abbrev pub Refused : List ℕ → MarkupFaultKind → Type 0
Refused text TooManyNodes = BeginsTooManyNodes text
Refused text Memory = Unit {0}
Refused text _ = SpellsNothing text

-- ---- the byte at which a fault is reported

-- after these tokens the open elements are those of the frames, the innermost first
pub record LeavesOpen (items : List Item) (frames : List Frame) : Type 0 where
  pub done : ValueTrees
  pub are : items ≡ opened_items frames ++ items_of done
  pub open_in_place : FramesInPlace frames
  pub in_place : AreInPlace (is_top frames) done

abbrev pub LeavesSomeOpen : List Item → Type 0
LeavesSomeOpen items = (innermost : Frame) × (outer : List Frame) × LeavesOpen items (innermost ∷ outer)

-- the token is an end tag, and the innermost open element has another name
abbrev pub EndsAnother : List Item → Item → Type 0
EndsAnother items (end_tag name) = (innermost : Frame) × (outer : List Frame) × LeavesOpen items (innermost ∷ outer) × (name ≢ innermost.name)
EndsAnother items _ = ⊥

-- the token is an end tag, and no element is open
abbrev pub EndsNothing : List Item → Item → Type 0
EndsNothing items (end_tag name) = LeavesOpen items []
EndsNothing items _ = ⊥

-- the token is a doctype, and an element is open
abbrev pub IsInside : List Item → Item → Type 0
IsInside items (doctype name public system) = LeavesSomeOpen items
IsInside items _ = ⊥

-- the token starts a node or two, and there are not enough node ids left
pub record IsOneTooMany (items : List Item) (item : Item) : Type 0 where
  pub begins_some : 1 ≤ nodes_begun (item ∷ [])
  pub many : 4294967295 ≤ nodes_begun (items ++ item ∷ [])

-- why this token can't follow these tokens
abbrev pub Declines : List Item → Item → MarkupFaultKind → Type 0
Declines items item MismatchedEnd = EndsAnother items item
Declines items item StrayEnd = EndsNothing items item
Declines items item MisplacedDoctype = IsInside items item
Declines items item TooManyNodes = IsOneTooMany items item
Declines items item Memory = Unit {0}
Declines items item _ = ⊥

-- the text is tokens up to byte `at`, and the token that starts there can't follow them
pub record StopsBefore (text : List ℕ) (at : ℕ) (kind : MarkupFaultKind) : Type 0 where
  pub items : List Item
  pub item : Item
  pub left : List ℕ
  pub rest : List ℕ
  pub spelled : SpellsItemsUpTo markup text items left
  pub place : at + length left ≡ length text
  pub begins : Begins (mode_past markup items) left item rest
  pub cause : Declines items item kind

-- the text inside an element is read, and the element's end tag is missing
abbrev pub LacksItsEnd : Mode → List ℕ → Type 0
LacksItsEnd markup text = ⊥
LacksItsEnd (text_of name) text = LacksEnd name text
LacksItsEnd (raw_text_of name) text = LacksEnd name text

-- a tag seems to start here: a letter or a slash follows the `<`
abbrev pub BeginsTag : List ℕ → Type 0
BeginsTag left = (b : ℕ) × (more : List ℕ) × (left ≡ less_than ∷ b ∷ more) × ((is_letter b || b == slash) ≡ true)

-- a start tag that ends in `/>`, of an element that isn't void
pub record EndsInSlash (left : List ℕ) : Type 0 where
  pub written : List ℕ
  pub more : List ℕ
  pub all : List Attribute
  pub rest : List ℕ
  pub is : left ≡ less_than ∷ (written ++ more)
  pub names : IsTagName written
  pub open_element : is_among (folded written) void_names ≡ false
  pub ends : EndsTag true more all rest

-- the text does not start with a start tag
abbrev pub BeginsNoStart : List ℕ → Type 0
BeginsNoStart text = (name : List ℕ) (attributes : List Attribute) (rest : List ℕ) → BeginsStart text name attributes rest → ⊥

-- why the text does not start with a start tag
abbrev pub StartCause : List ℕ → MarkupFaultKind → Type 0
StartCause left BadTag = BeginsNoStart left × (EndsInSlash left → ⊥)
StartCause left SlashOnOpen = BeginsNoStart left × EndsInSlash left
StartCause left _ = ⊥

-- why no token starts at the beginning of the text
abbrev pub Cause : Mode → List ℕ → MarkupFaultKind → Type 0
Cause mode left BadTag = (mode ≡ markup) × BeginsTag left × (EndsInSlash left → ⊥)
Cause mode left SlashOnOpen = (mode ≡ markup) × EndsInSlash left
Cause mode left BadComment = (mode ≡ markup) × (more : List ℕ) × (left ≡ codes "<!--" ++ more)
Cause mode left BadDeclaration =
    (mode ≡ markup) × (more : List ℕ) × (left ≡ codes "<!" ++ more) × ((after : List ℕ) → left ≡ codes "<!--" ++ after → ⊥)
Cause mode left Instruction = (mode ≡ markup) × (more : List ℕ) × (left ≡ codes "<?" ++ more)
Cause mode left Unclosed = LacksItsEnd mode left
Cause mode left _ = ⊥

-- the text is tokens up to byte `at`, and no token starts there
pub record BeginsNothingAt (text : List ℕ) (at : ℕ) (kind : MarkupFaultKind) : Type 0 where
  pub items : List Item
  pub left : List ℕ
  pub spelled : SpellsItemsUpTo markup text items left
  pub place : at + length left ≡ length text
  pub some : left ≢ []
  pub nothing : BeginsNothing (mode_past markup items) left
  pub cause : Cause (mode_past markup items) left kind

-- the text is tokens up to its end, and an element is still open
pub record EndsOpenAt (text : List ℕ) (at : ℕ) : Type 0 where
  pub items : List Item
  pub spelled : SpellsItemsUpTo markup text items []
  pub place : at ≡ length text
  pub not_closed : LeavesSomeOpen items

-- what a fault of this kind says about the byte at which it is reported
abbrev pub IsFaultAt : List ℕ → ℕ → MarkupFaultKind → Type 0
IsFaultAt text at MismatchedEnd = StopsBefore text at MismatchedEnd
IsFaultAt text at StrayEnd = StopsBefore text at StrayEnd
IsFaultAt text at MisplacedDoctype = StopsBefore text at MisplacedDoctype
IsFaultAt text at TooManyNodes = StopsBefore text at TooManyNodes
IsFaultAt text at Unclosed = EndsOpenAt text at ⊎ BeginsNothingAt text at Unclosed
IsFaultAt text at Memory = Unit {0}
IsFaultAt text at kind = BeginsNothingAt text at kind
