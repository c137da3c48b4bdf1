-- What is known between two acts of a rule, and what each action makes of it; computed over the table of rules.
use Rattle.std.specs.Prelude.{◌||◌, ℕ, Bool, true, false, not, ◌&&◌, List, [], ◌∷◌, ◌++◌, Option, None, Some, codes}
use Rattle.std.specs.List.{list_all, list_any}
use Rattle.standard_trees.specs.NameLists.{implied}
use Rattle.standard_trees.specs.RuleWords.{Act, Action, AddToPending, AdjustForeignAttributes, AdjustMathmlAttributes, AdjustSvgAttributes}
use Rattle.standard_trees.specs.RuleWords.{AdjustSvgName, AdoptionAgency, AfterAfterBody, AfterAfterFrameset, AfterBody, AfterFrameset}
use Rattle.standard_trees.specs.RuleWords.{AfterHead}
use Rattle.standard_trees.specs.RuleWords.{AllImpliedEndTags, AnyEndTag, AnyOtherEndTag, AnyStartTag, Anything, AppendDoctype, BeforeHead}
use Rattle.standard_trees.specs.RuleWords.{BeforeHtml, ClearListToMarker, CloseItems, CloseP, Comment}
use Rattle.standard_trees.specs.RuleWords.{CurrentNode, CurrentNodeIsTopmost, Dispatcher, Doctype, DropFound, EmptyPending, EndForm}
use Rattle.standard_trees.specs.RuleWords.{EndOfFile, EndTagOf, FindListed, ForeignContent, FosterOff, FosterOn, FramesetNotOk}
use Rattle.standard_trees.specs.RuleWords.{ImpliedEndTags, ImpliedEndTagsBut, InBody, InCaption, InCell, InColumnGroup, InFrameset, InHead}
use Rattle.standard_trees.specs.RuleWords.{InHeadNoscript, InRow, InScope, InTable, InTableBody, InTableText, InTemplate, Initial}
use Rattle.standard_trees.specs.RuleWords.{InsertCharacter, InsertComment, InsertCommentInDocument, InsertCommentInHtml, InsertElement}
use Rattle.standard_trees.specs.RuleWords.{InsertMathmlElement, InsertNamed, InsertPending, InsertReplacement, InsertRootElement}
use Rattle.standard_trees.specs.RuleWords.{InsertRootNamed, InsertSvgElement, KeepMode, ListElement, ListMarker, MergeAttributesIntoBody}
use Rattle.standard_trees.specs.RuleWords.{MergeAttributesIntoHtml, Mode, Names, Own, OwnBeforeHtml, Pattern, Pop}
use Rattle.standard_trees.specs.RuleWords.{PopForeignElements, PopTemplateMode, PopToTopmost, PopUntil, PopUntilOwnInAnyCase, PopUpTo}
use Rattle.standard_trees.specs.RuleWords.{PushHeadPointer, PushTemplateMode, ReconstructFormatting, RemoveBody}
use Rattle.standard_trees.specs.RuleWords.{RemoveHeadFromStack, Rename, Reprocess, ResetMode, Rule, ScopeKind, SetFormPointer}
use Rattle.standard_trees.specs.RuleWords.{SetHeadPointer, SetQuirks, SetQuirksByDoctype, SkipNextLineFeed, StartTagBut, StartTagOf}
use Rattle.standard_trees.specs.RuleWords.{Stop, SwitchBack, SwitchTo, TableScope, TemplateOpen, Test, Text, These, TokenizerTo, Use}
use Rattle.standard_trees.specs.RuleWords.{UseCurrentMode, UseForEachPending, WhiteSpace, does, goes, is, isnt, rule}
use Rattle.standard_trees.specs.GrowingTree.{is_among}
use Rattle.standard_order.proofs.StandingStacks.{Closed, Framed, Inside, Sort, cells, fixed, framing}
use Rattle.standard_order.proofs.GoodTrees.{apart}
use Rattle.standard_order.proofs.GoodEnds.{}

-- ---- modes

abbrev pub is_cell : Mode → Bool
is_cell InCell = true
is_cell _ = false

abbrev pub is_framed : Mode → Bool
is_framed InFrameset = true
is_framed AfterFrameset = true
is_framed AfterAfterFrameset = true
is_framed _ = false

abbrev pub is_inside : Mode → Bool
is_inside InBody = true
is_inside InTable = true
is_inside InCaption = true
is_inside InColumnGroup = true
is_inside InTableBody = true
is_inside InRow = true
is_inside InCell = true
is_inside InTemplate = true
is_inside AfterBody = true
is_inside AfterAfterBody = true
is_inside _ = false

-- the modes of the content of templates
abbrev pub is_content : Mode → Bool
is_content InBody = true
is_content InTable = true
is_content InColumnGroup = true
is_content InTableBody = true
is_content InRow = true
is_content InTemplate = true
is_content _ = false

-- ---- shapes of the stack

-- What is known of a stack of open elements (`Stk` in LevelFacts says it):
-- Nothing: no stack has this shape;
-- Root: it is `html` alone; Head: it is `head` in `html`;
-- Std k c: it ends as the sort k says, and if c is true, a cell is open;
-- Loose: it ends as in the modes inside, or it is `head` in `html`;
-- Held s, Plain s, Above s: below its first element it has the shape s. For Held, that element is in HTML and none of `fixed`; for Plain it
-- is
-- none of `fixed`.
pub data Shape : Type 0 where
  Nothing Root Head Loose : Shape
  Std : Sort → Bool → Shape
  Held Plain Above : Shape → Shape

-- the shape that the stack has where a turn begins in that mode
abbrev pub own : Mode → Shape
own InHead = Head
own InHeadNoscript = Held Head
own AfterHead = Std Closed false
own InFrameset = Std Framed false
own AfterFrameset = Std Framed false
own AfterAfterFrameset = Std Framed false
own InCell = Std Inside true
own InBody = Std Inside false
own InTable = Std Inside false
own InCaption = Std Inside false
own InColumnGroup = Std Inside false
own InTableBody = Std Inside false
own InRow = Std Inside false
own InTemplate = Std Inside false
own AfterBody = Std Inside false
own AfterAfterBody = Std Inside false
own _ = Nothing

abbrev pub same_sort : Sort → Sort → Bool
same_sort Closed Closed = true
same_sort Closed Inside = true
same_sort Closed Framed = true
same_sort Framed Framed = true
same_sort Inside Inside = true
same_sort _ _ = false

-- a stack of the first shape is one of the second
abbrev pub weak : Shape → Shape → Bool
weak Root Root = true
weak Root (Std k claim) = not claim
weak Head Head = true
weak Head Loose = true
weak Loose Loose = true
weak (Std k claim) (Std j other) = same_sort k j && (not other || claim)
weak (Std Inside claim) Loose = true
weak (Held s) (Held t) = weak s t
weak (Held s) (Std k claim) = weak s (Std k claim)
weak (Plain s) (Std k claim) = weak s (Std k claim)
weak _ _ = false

-- ---- where

-- What is known of the insertion mode (`Is` in LevelFacts says it):
-- Exact: it is this one;
-- In: it is one inside, and if the flag is false, it isn't "in cell";
-- Frames: it is one of framesets;
-- Sorted: it is one whose stack ends as a sort says;
-- Nowhere: nothing.
pub data Where : Type 0 where
  Exact : Mode → Where
  In : Bool → Where
  Frames Sorted Nowhere : Where

-- How the stack stands to the mode: it has the mode's own shape (Of), or has it below a held element (OfHeld) or below one that is none of
-- `fixed` (OfPlain), or it has some other shape that is known (Fixed).
pub data Rel : Type 0 where
  Of OfHeld OfPlain : Rel
  Fixed : Shape → Rel

abbrev pub where_of : Mode → Where
where_of InCell = Exact InCell
where_of mode = elim (is_inside mode) [ true ↦ In false | false ↦ elim (is_framed mode) [ true ↦ Frames | false ↦ Exact mode ] ]

-- the shape that is known
abbrev pub known_own : Where → Shape
known_own (Exact mode) = own mode
known_own (In cell) = Std Inside false
known_own Frames = Std Framed false
known_own Sorted = Nothing
known_own Nowhere = Nothing

abbrev pub known : Where → Rel → Shape
known place Of = known_own place
known place OfHeld = Held (known_own place)
known place OfPlain = Plain (known_own place)
known place (Fixed shape) = shape

-- the mode has such a stack
abbrev pub has_sort : Where → Bool
has_sort (Exact AfterHead) = true
has_sort (Exact mode) = is_inside mode || is_framed mode
has_sort (In cell) = true
has_sort Frames = true
has_sort Sorted = true
has_sort Nowhere = false

abbrev pub is_in : Where → Bool
is_in (Exact mode) = is_inside mode
is_in (In cell) = true
is_in _ = false

abbrev pub no_cell : Where → Bool
no_cell (In cell) = not cell
no_cell _ = false

-- ---- levels

-- What is known of the state between two acts (`At` in LevelFacts says it):
-- Fine: a turn may begin;
-- Bare: no element is open; RootMade: `html` has just been opened; Before: that is so in "before head"; HeadMade: `head` has been opened in
-- it;
-- TextMode: the mode is "text"; TableText: it is "in table text"; Behind: the stack is that of the original mode, to which the rule
-- returns;
-- Never: no state is there, since the tests of the rule can't be met;
-- Late: there is a head element; what is known of the mode and of the stack;
-- Scoped: also, one of these elements is in scope;
-- Opened: also, a template is open; OpenedFree: as Opened, where a cell needn't be open any more;
-- Foreign: also, the element that the token names comes before those in HTML.
pub data Level : Type 0 where
  Fine Bare RootMade Before HeadMade TextMode TableText Behind Never : Level
  Late : Where → Rel → Bool → Level  -- if the flag is true, the original insertion mode is the current one
  Scoped : Where → ScopeKind → Names → Level
  Opened OpenedFree Foreign : Where → Level

-- ---- tokens

-- What is known of the token (`holds_of` in LevelTrees says it): a tag whose name is one of these, or none of these; any token, if its tag
-- has
-- none of these names; white space, a comment, a doctype; any other that is no tag.
pub data Info : Type 0 where
  Start StartBut End EndBut : List (List ℕ) → Info
  Any : List (List ℕ) → List (List ℕ) → Info
  Space Remark Typed Other : Info

abbrev pub has_all : List (List ℕ) → List (List ℕ) → Bool
has_all some others = list_all (λ one. is_among one others) some

-- the name of the tag is none of these
abbrev pub own_apart : List (List ℕ) → Info → Bool
own_apart others (Start names) = apart names others
own_apart others (End names) = apart names others
own_apart others (StartBut names) = has_all others names
own_apart others (EndBut names) = has_all others names
own_apart others (Any starts ends) = has_all others starts && has_all others ends
own_apart others _ = not (is_among [] others)

-- it is one of these
abbrev pub own_within : List (List ℕ) → Info → Bool
own_within others (Start names) = has_all names others
own_within others (End names) = has_all names others
own_within others _ = false

abbrev pub names_apart : List (List ℕ) → Names → Info → Bool
names_apart others Own info = own_apart others info
names_apart others (These names) info = apart names others

abbrev pub names_within : List (List ℕ) → Names → Info → Bool
names_within others Own info = own_within others info
names_within others (These names) info = has_all names others

-- it is no end tag of a cell
abbrev pub ends_no_cell : Info → Bool
ends_no_cell (End names) = apart names cells
ends_no_cell (EndBut names) = has_all cells names
ends_no_cell (Any starts ends) = has_all cells ends
ends_no_cell _ = true

abbrev pub info_of : List (List ℕ) → List (List ℕ) → Pattern → Info
info_of starts ends WhiteSpace = Space
info_of starts ends Comment = Remark
info_of starts ends Doctype = Typed
info_of starts ends AnyStartTag = StartBut starts
info_of starts ends (StartTagOf names) = Start names
info_of starts ends AnyEndTag = EndBut ends
info_of starts ends (EndTagOf names) = End names
info_of starts ends (StartTagBut names) = Any [] []
info_of starts ends Anything = Any starts ends
info_of starts ends _ = Other

abbrev pub info_after : Action → Info → Info
info_after (Rename name) info = Any [] []
info_after AdjustSvgName info = Any [] []
info_after action info = info

-- ---- actions: what is known after one of them, if that is enough to go on

-- nothing that is known changes
abbrev pub is_still : Action → Bool
is_still InsertCharacter = true
is_still InsertReplacement = true
is_still InsertComment = true
is_still InsertCommentInDocument = true
is_still InsertCommentInHtml = true
is_still AppendDoctype = true
is_still SetQuirksByDoctype = true
is_still SetQuirks = true
is_still FramesetNotOk = true
is_still (TokenizerTo state) = true
is_still SkipNextLineFeed = true
is_still MergeAttributesIntoHtml = true
is_still MergeAttributesIntoBody = true
is_still RemoveBody = true
is_still AdjustMathmlAttributes = true
is_still AdjustSvgAttributes = true
is_still AdjustForeignAttributes = true
is_still EmptyPending = true
is_still AddToPending = true
is_still InsertPending = true
is_still Stop = true
is_still _ = false

-- the list of active formatting elements and foster parenting
abbrev pub is_mild : Action → Bool
is_mild ListMarker = true
is_mild ClearListToMarker = true
is_mild FosterOn = true
is_mild FosterOff = true
is_mild _ = false

abbrev pub takes_mild : Level → Bool
takes_mild (Late place rel kept) = true
takes_mild TableText = true
takes_mild Behind = true
takes_mild Never = true
takes_mild _ = false

abbrev pub if_so : Bool → Level → Option Level
if_so true level = Some level
if_so false level = None

abbrev pub is_known : Where → Rel → Bool
is_known place (Fixed shape) = true
is_known Sorted rel = false
is_known Nowhere rel = false
is_known place rel = true

-- an element of that name is made
abbrev pub made : Where → Rel → Info → Option Level
made place rel info = elim (own_apart fixed info) [
  | true ↦ elim rel [
    | Of ↦ Some (Late place OfHeld false)
    | Fixed shape ↦ Some (Late place (Fixed (Held shape)) false)
    | OfHeld ↦ if_so (has_sort place) (Late place OfHeld false)
    | OfPlain ↦ None
  ]
  | false ↦ elim (own_within (codes "template" ∷ []) info && (is_known place rel && (weak (known place rel) (Std Inside false) || weak
      (known place rel) Head))) [
        | true ↦ Some (Late place (Fixed (Std Inside false)) false)
        | false ↦ elim (own_within cells info && (is_known place rel && weak (known place rel) (Std Inside false))) [
          | true ↦ Some (Late place (Fixed (Std Inside true)) false)
          | false ↦ if_so (own_within (codes "frameset" ∷ []) info && (is_known place rel && weak (known place rel) (Std Framed false)))
              (Late place (Fixed (Std Framed false)) false)
        ]
      ]
]

abbrev pub popped : Where → Rel → Option Level
popped place OfHeld = Some (Late place Of false)
popped place OfPlain = Some (Late place Of false)
popped place (Fixed (Held shape)) = Some (Late place (Fixed shape) false)
popped place (Fixed (Plain shape)) = Some (Late place (Fixed shape) false)
popped Frames (Fixed (Above shape)) = if_so (weak shape (Std Framed false)) (Late Frames Of false)
popped (Exact InHead) Of = Some (Late (Exact InHead) (Fixed Root) false)
popped (Exact InHeadNoscript) Of = Some (Late (Exact InHeadNoscript) (Fixed Head) false)
popped _ _ = None

abbrev pub is_of : Rel → Bool
is_of Of = true
is_of _ = false

-- where the mode has such a stack, an element above it can be forgotten
abbrev pub settled : Where → Rel → Bool
settled place (Fixed shape) = false
settled place rel = has_sort place

abbrev pub popped_if : Where → Rel → List Test → Option Level
popped_if place rel [] = popped place rel
popped_if place OfPlain (test ∷ tests) = if_so (has_sort place) (Late place Of false)
popped_if place Of (is (CurrentNode (These names)) ∷ []) = if_so (has_sort place && apart names fixed) (Late place Of false)
popped_if place rel tests = None

abbrev pub switched_plainly : Where → Rel → Mode → Option Level
switched_plainly place rel mode = elim (is_known place rel) [
  | false ↦ None
  | true ↦ elim (weak (known place rel) (own mode)) [
    | true ↦ Some (Late (where_of mode) Of false)
    | false ↦ Some
        (Late (where_of mode) (Fixed (known place rel)) false)
  ]
]

abbrev pub switched_now : Where → Rel → Bool → Mode → Option Level
switched_now place OfHeld true Text = Some Fine
switched_now place rel kept mode = switched_plainly place rel mode

abbrev pub switched_if : Where → Rel → Mode → Option Level
switched_if Frames Of mode = if_so (is_framed mode) (Late Frames Of false)
switched_if place rel mode = None

abbrev pub switched : Where → Rel → Bool → Mode → List Test → Option Level
switched place rel kept mode [] = switched_now place rel kept mode
switched place rel kept mode (test ∷ tests) = switched_if place rel mode

-- popped until such an element
abbrev pub until : Level → Info → Names → List Test → Option Level
until (OpenedFree place) info (These names) [] = if_so (has_all names (codes "template" ∷ []) && has_all (codes "template" ∷ []) names)
    (Late place (Fixed Loose) false)
until (Late (Exact InCell) Of kept) info (These names) [] = if_so (has_all cells names && apart names framing)
    (Late (Exact InCell) (Fixed (Std Inside false)) false)
until _ _ _ _ = None

abbrev pub is_table_scope : ScopeKind → Bool
is_table_scope TableScope = true
is_table_scope _ = false

-- the first are among the second
abbrev pub names_among : Names → Names → Bool
names_among Own Own = true
names_among (These some) (These others) = has_all some others
names_among _ _ = false

abbrev pub until_scoped : Where → ScopeKind → Names → Info → Names → Option Level
until_scoped place kind wanted info names = elim (names_among wanted names && names_apart framing names info) [
  | false ↦ until (Late place Of false) info names []
  | true ↦ elim (no_cell place || (not (is_table_scope kind) && names_apart fixed names info)) [
    | true ↦ Some (Late place Of false)
    | false ↦ Some (Late place (Fixed (Std Inside false)) false)
  ]
]

abbrev pub until_if : Where → Rel → Info → Names → List Test → Option Level
until_if place rel info names (is (InScope kind wanted) ∷ []) =
    if_so (is_in place && (is_of rel && (names_among wanted names && (not (is_table_scope kind) && names_apart fixed names info))))
    (Late place Of false)
until_if place rel info names tests = until (Late place rel false) info names tests

abbrev pub is_first : Mode → Bool
is_first Initial = true
is_first BeforeHtml = true
is_first _ = false

abbrev pub is_before_head : Mode → Bool
is_before_head BeforeHead = true
is_before_head _ = false

abbrev pub named_if : Where → Rel → List ℕ → List Test → Option Level
named_if place rel name [] = made place rel (Start (name ∷ []))
named_if place rel name tests = if_so (has_sort place && (is_of rel && apart (name ∷ []) fixed)) (Late place Of false)

abbrev pub held_only : Rel → Level → Option Level
held_only OfHeld level = Some level
held_only _ level = None

abbrev pub is_end_info : Info → Bool
is_end_info (End names) = true
is_end_info (EndBut names) = true
is_end_info _ = false

abbrev pub is_some_in : Where → Bool
is_some_in (In cell) = true
is_some_in _ = false

-- what else is done to an element's stack where the mode has one
abbrev pub inside_next : Where → Rel → Info → Action → Option Level
inside_next place rel info ReconstructFormatting = if_so (settled place rel) (Late place Of false)
inside_next place rel info CloseP = if_so (settled place rel) (Late place Of false)
inside_next place rel info ImpliedEndTags = if_so (settled place rel) (Late place Of false)
inside_next place rel info (ImpliedEndTagsBut names) = if_so (settled place rel) (Late place Of false)
inside_next place rel info (CloseItems names) = if_so (settled place rel && apart names fixed) (Late place Of false)
inside_next place rel info EndForm = if_so (settled place rel) (Late place Of false)
inside_next place rel info DropFound = if_so (settled place rel) (Late place Of false)
inside_next place rel info (FindListed names) = if_so (settled place rel) (Late place Of false)
inside_next place rel info AdoptionAgency = if_so (is_in place && (settled place rel && own_apart fixed info)) (Late place Of false)
inside_next place rel info AnyOtherEndTag =
    if_so (is_some_in place && (settled place rel && (own_apart (codes "html" ∷ codes "template" ∷ []) info && is_end_info info)))
    (Late place Of false)
inside_next place rel info (Rename name) = Some (Late place rel false)
inside_next place rel info AdjustSvgName = Some (Late place rel false)
inside_next place rel info _ = None

abbrev pub late_next : Where → Rel → Bool → Info → Action → List Test → Option Level
late_next place rel kept info InsertElement [] = made place rel info
late_next place rel kept info (InsertNamed name) tests = named_if place rel name tests
late_next place rel kept info InsertMathmlElement [] = if_so (has_sort place && is_of rel) (Late place OfPlain false)
late_next place rel kept info InsertSvgElement [] = if_so (has_sort place && is_of rel) (Late place OfPlain false)
late_next place rel kept info SetFormPointer tests = held_only rel (Late place rel false)
late_next place rel kept info ListElement [] = held_only rel (Late place rel false)
late_next place rel kept info Pop tests = popped_if place rel tests
late_next place rel kept info PopToTopmost [] = if_so (is_in place && is_of rel) (Late place (Fixed Root) false)
late_next place rel kept info PopForeignElements [] = if_so (has_sort place && is_of rel) (Late place Of false)
late_next place rel kept info (PopUntil names) tests = until_if place rel info names tests
late_next place rel kept info (PopUpTo (These names)) [] =
    if_so (no_cell place && (is_of rel && has_all (codes "html" ∷ codes "template" ∷ []) names)) (Late place Of false)
late_next place rel kept info KeepMode [] = Some (Late place rel true)
late_next place rel kept info ResetMode [] = if_so (is_in place && (is_known place rel && weak (known place rel) Loose)) Fine
late_next place rel kept info (PushTemplateMode mode) [] = if_so (is_content mode) (Late place rel kept)
late_next place rel kept info PopTemplateMode [] = Some (Late place rel kept)
late_next place rel kept info (SwitchTo mode) tests = switched place rel kept mode tests
late_next place rel kept info action tests = inside_next place rel info action

abbrev pub scoped_next : Where → ScopeKind → Names → Info → Action → List Test → Option Level
scoped_next place kind wanted info ImpliedEndTags [] = if_so (names_apart implied wanted info) (Scoped place kind wanted)
scoped_next place kind wanted info (ImpliedEndTagsBut names) [] = if_so (names_among wanted names || names_apart implied wanted info)
    (Scoped place kind wanted)
scoped_next place kind wanted info (PopUntil names) [] = until_scoped place kind wanted info names
scoped_next place kind (These wanted) info (PopUpTo (These names)) [] =
    if_so (no_cell place && (has_all wanted names &&
    (apart wanted framing && (apart names cells && not (is_among (codes "head") names && is_among (codes "frameset") names)))))
    (Late place OfPlain false)
scoped_next place kind Own info (PopUpTo (These names)) [] =
    if_so (no_cell place && (own_within names info && (own_apart framing info && apart names cells))) (Late place OfPlain false)
scoped_next place kind wanted info action tests = late_next place Of false info action tests

abbrev pub next : Level → Info → Action → List Test → Option Level
next Never info action tests = Some Never
next Fine info FosterOff [] = Some Fine
next Bare info (SwitchTo mode) [] = if_so (is_first mode) Bare
next Bare info InsertRootElement [] = if_so (own_within (codes "html" ∷ []) info) RootMade
next Bare info (InsertRootNamed name) [] = if_so (is_among name (codes "html" ∷ [])) RootMade
next RootMade info (SwitchTo mode) [] = if_so (is_before_head mode) Before
next Before info InsertElement [] = if_so (own_within (codes "head" ∷ []) info) HeadMade
next Before info (InsertNamed name) [] = if_so (is_among name (codes "head" ∷ [])) HeadMade
next HeadMade info SetHeadPointer [] = Some (Late Nowhere (Fixed Head) false)
next TextMode info Pop [] = Some Behind
next Behind info SwitchBack [] = Some Fine
next TableText info SwitchBack [] = Some Fine
next (Late place rel kept) info action tests = late_next place rel kept info action tests
next (Scoped place kind wanted) info action tests = scoped_next place kind wanted info action tests
next (Opened place) info AllImpliedEndTags [] = Some (OpenedFree place)
next (Opened place) info (PopUntil names) tests = until (OpenedFree place) info names tests
next (OpenedFree place) info (PopUntil names) tests = until (OpenedFree place) info names tests
next (Foreign place) info PopUntilOwnInAnyCase [] = Some (Late place Of false)
next level info action tests = None

abbrev pub takes_still : Level → Bool
takes_still Fine = false
takes_still (Scoped place kind names) = false
takes_still (Opened place) = false
takes_still (OpenedFree place) = false
takes_still (Foreign place) = false
takes_still _ = true

abbrev pub next_of : Level → Info → Action → List Test → Option Level
next_of level info action tests = elim (is_still action && takes_still level) [
  | true ↦ Some level
  | false ↦ elim (is_mild action && takes_mild level) [ true ↦ Some level | false ↦ next level info action tests ]
]

-- ---- where a token may go

abbrev pub heads : List (List ℕ)
heads = codes "base" ∷ codes "basefont" ∷ codes "bgsound" ∷ codes "link" ∷ codes "meta" ∷ codes "noframes" ∷ codes "script" ∷ codes "style"
    ∷ codes "template"
    ∷ codes "title" ∷ []

abbrev pub light_heads : List (List ℕ)
light_heads = codes "basefont" ∷ codes "bgsound" ∷ codes "link" ∷ codes "meta" ∷ codes "noframes" ∷ codes "style" ∷ []

abbrev pub ends_template : Info → Bool
ends_template (End some) = has_all some (codes "template" ∷ [])
ends_template _ = false

abbrev pub starts_one : List (List ℕ) → Info → Bool
starts_one names (Start some) = has_all some names
starts_one names _ = false

abbrev pub is_plain_info : Info → Bool
is_plain_info Space = true
is_plain_info Typed = true
is_plain_info _ = false

abbrev pub is_light_info : Info → Bool
is_light_info (Start some) = has_all some light_heads
is_light_info Space = true
is_light_info Remark = true
is_light_info _ = false

abbrev pub is_frames : Where → Bool
is_frames Frames = true
is_frames _ = false

-- the rules for "in head" may be used there for such a token
abbrev pub may_use_head : Where → Info → Bool
may_use_head (In cell) info = starts_one heads info || ends_template info
may_use_head Frames info = starts_one (codes "noframes" ∷ []) info
may_use_head (Exact AfterHead) info = ends_template info
may_use_head (Exact InHeadNoscript) info = is_light_info info
may_use_head _ _ = false

-- the mode is one of those that have a start tag of `html` processed by the rules for "in body"
abbrev pub has_root : Where → Bool
has_root (Exact AfterHead) = true
has_root (Exact InHead) = true
has_root (Exact InHeadNoscript) = true
has_root Frames = true
has_root _ = false

abbrev pub may_use : Level → Info → Mode → Bool
may_use (Late place Of kept) info InHead = may_use_head place info
may_use (Late place Of kept) info InBody =
    (is_in place && (no_cell place || ends_no_cell info)) || ((has_root place && starts_one (codes "html" ∷ []) info) || (is_frames place &&
    is_plain_info info))
may_use Before info InBody = starts_one (codes "html" ∷ []) info
may_use (Late (In false) Of kept) info InTable = true
may_use (Late (In cell) Of kept) info InTemplate = true
may_use (Late Sorted Of kept) info ForeignContent = true
may_use _ _ _ = false

-- ---- rules

-- a turn may begin there
abbrev pub ends : Level → Bool
ends Fine = true
ends Bare = true
ends Before = true
ends TextMode = true
ends TableText = true
ends Never = true
ends RootMade = false
ends HeadMade = false
ends Behind = false
ends (Late Nowhere rel kept) = false
ends (Late place Of kept) = true
ends (Late place OfHeld kept) = has_sort place
ends (Late place OfPlain kept) = has_sort place
ends (Late (In false) (Fixed shape) kept) = weak shape (Std Inside false)
ends (Late Frames (Fixed shape) kept) = weak shape (Std Framed false)
ends (Late place (Fixed shape) kept) = false
ends (Scoped place kind wanted) = true
ends (Opened place) = true
ends (OpenedFree place) = false
ends (Foreign place) = true

abbrev pub is_table_text : Level → Mode → Bool
is_table_text TableText InBody = true
is_table_text _ _ = false

abbrev pub acts_pass : Level → Info → List Act → Bool
acts_pass level info [] = ends level
acts_pass level info (does action tests ∷ acts) =
    elim (next_of level info action tests) [ Some new ↦ acts_pass new (info_after action info) acts | None ↦ false ]
acts_pass level info (goes Reprocess ∷ acts) = ends level && acts_pass Fine (Any [] []) acts
acts_pass level info (goes UseCurrentMode ∷ acts) = ends level && acts_pass Fine (Any [] []) acts
acts_pass level info (goes (Use mode) ∷ acts) = may_use level info mode && acts_pass Fine (Any [] []) acts
acts_pass level info (goes (UseForEachPending mode) ∷ acts) = is_table_text level mode && acts_pass Behind (Any [] []) acts

-- the head element is put onto the stack for the rules for "in head"
abbrev pub is_carried : List Act → Bool
is_carried (does PushHeadPointer [] ∷ goes (Use InHead) ∷ does RemoveHeadFromStack [] ∷ []) = true
is_carried _ = false

-- the characters of a table become pending
abbrev pub is_pending : List Act → Bool
is_pending (does EmptyPending [] ∷ does KeepMode [] ∷ does (SwitchTo InTableText) [] ∷ goes Reprocess ∷ []) = true
is_pending _ = false

abbrev pub is_after_head : Level → Bool
is_after_head (Late (Exact AfterHead) Of kept) = true
is_after_head _ = false

-- the mode is one inside, and the current node is one of those in which characters become pending
abbrev pub is_inside_level : Level → Bool
is_inside_level (Late (In cell) Of kept) = true
is_inside_level _ = false

abbrev pub tabled_names : List (List ℕ)
tabled_names = codes "table" ∷ codes "tbody" ∷ codes "template" ∷ codes "tfoot" ∷ codes "thead" ∷ codes "tr" ∷ []

abbrev pub is_tabled : List Test → Bool
is_tabled (is (CurrentNode (These names)) ∷ []) = has_all names tabled_names
is_tabled _ = false

-- ---- what is known at the beginning

-- no template is open
abbrev pub is_in_head : Where → Bool
is_in_head (Exact InHead) = true
is_in_head (Exact AfterHead) = true
is_in_head _ = false

abbrev pub fact_of : Where → Bool → Test → Level
fact_of place kept (is (InScope kind names)) = elim (is_in place) [ true ↦ Scoped place kind names | false ↦ Late place Of kept ]
fact_of place kept (is TemplateOpen) = elim (is_in_head place) [
  | true ↦ Never
  | false ↦ elim (is_in place)
      [ true ↦ Opened place | false ↦ Late place Of kept ]
]
fact_of place kept (is (CurrentNode (These names))) = elim (has_sort place && apart names fixed) [
  | true ↦ Late place OfPlain kept
  | false ↦ Late place Of kept
]
fact_of place kept (isnt CurrentNodeIsTopmost) = elim (is_frames place) [
  | true ↦ Late place (Fixed (Above (Std Framed false))) kept
  | false ↦ Late place Of kept
]
fact_of place kept (is OwnBeforeHtml) = elim (has_sort place) [ true ↦ Foreign place | false ↦ Late place Of kept ]
fact_of place kept test = Late place Of kept

abbrev pub with_fact : Test → Level → Level
with_fact test (Late place Of kept) = fact_of place kept test
with_fact test level = level

abbrev pub with_facts : List Test → Level → Level
with_facts [] level = level
with_facts (test ∷ tests) level = with_facts tests (with_fact test level)

abbrev pub negated : Test → Test
negated (is c) = isnt c
negated (isnt c) = is c

abbrev pub same_pattern : Pattern → Pattern → Bool
same_pattern (EndTagOf some) (EndTagOf others) = has_all some others
same_pattern (StartTagOf some) (StartTagOf others) = has_all some others
same_pattern EndOfFile EndOfFile = true
same_pattern AnyEndTag AnyEndTag = true
same_pattern Anything Anything = true
same_pattern _ _ = false

-- the rule before, with its only test
pub data Prior : Type 0 where
  NoPrior : Prior
  PriorTo : List Pattern → Test → Prior

abbrev pub prior_facts : Prior → Pattern → List Test
prior_facts NoPrior pattern = []
prior_facts (PriorTo patterns test) pattern = elim (list_any (same_pattern pattern) patterns) [ true ↦ negated test ∷ [] | false ↦ [] ]

abbrev pub prior_of : List Pattern → List Test → Prior
prior_of patterns (test ∷ []) = PriorTo patterns test
prior_of patterns _ = NoPrior

abbrev pub start_names : List Pattern → List (List ℕ)
start_names [] = []
start_names (StartTagOf names ∷ more) = names ++ start_names more
start_names (pattern ∷ more) = start_names more

abbrev pub end_names : List Pattern → List (List ℕ)
end_names [] = []
end_names (EndTagOf names ∷ more) = names ++ end_names more
end_names (pattern ∷ more) = end_names more

-- names that are out of question, once a rule without tests was not taken
abbrev pub ruled_out : List Test → List (List ℕ) → List (List ℕ) → List (List ℕ)
ruled_out [] some names = some ++ names
ruled_out tests some names = names

-- a token of the first kind doesn't fit the pattern
abbrev pub skips : Info → List (List ℕ) → List (List ℕ) → Pattern → Bool
skips (Start some) starts ends_ (StartTagOf names) = apart some names
skips (Start some) starts ends_ (StartTagBut names) = false
skips (Start some) starts ends_ AnyStartTag = has_all some starts
skips (Start some) starts ends_ Anything = has_all some starts
skips (Start some) starts ends_ _ = true
skips (End some) starts ends_ (EndTagOf names) = apart some names
skips (End some) starts ends_ AnyEndTag = has_all some ends_
skips (End some) starts ends_ Anything = has_all some ends_
skips (End some) starts ends_ _ = true
skips _ starts ends_ pattern = false

abbrev pub rule_pass : Level → List Test → Info → List Act → Bool
rule_pass level tests info acts = elim (is_carried acts) [
  | true ↦ is_after_head level && starts_one heads info
  | false ↦ elim (is_pending acts) [ true ↦ is_inside_level level && is_tabled tests | false ↦ acts_pass level info acts ]
]

-- the rules lead to where a turn may begin, for tokens of such a kind
abbrev pub rules_pass : Info → Level → Prior → List (List ℕ) → List (List ℕ) → List Rule → Bool
rules_pass asked level prior starts ends_ [] = ends level
rules_pass asked level prior starts ends_ (rule patterns tests acts ∷ more) =
    list_all (λ pattern. skips asked starts ends_ pattern
    || rule_pass (with_facts (prior_facts prior pattern) (with_facts tests level)) tests (info_of starts ends_ pattern) acts) patterns &&
    rules_pass asked level (prior_of patterns tests) (ruled_out tests (start_names patterns) starts)
    (ruled_out tests (end_names patterns) ends_) more

abbrev pub start_level : Mode → Level
start_level Initial = Bare
start_level BeforeHtml = Bare
start_level BeforeHead = Before
start_level Text = TextMode
start_level InTableText = TableText
start_level InBody = Late (In true) Of false
start_level InTemplate = Late (In true) Of false
start_level ForeignContent = Late Sorted Of false
start_level Dispatcher = Fine
start_level mode = Late (where_of mode) Of false
