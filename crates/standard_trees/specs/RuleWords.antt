-- The words that the rules of tree construction are written with: for which token a rule is, on what condition, and what is done.
-- docs/standard/tree_construction.txt says at its head what each word means; Building.antt defines it.
use Rattle.std.specs.Prelude.{List, ℕ}

-- the insertion modes (13.2.4.1); the tree construction dispatcher (13.2.6) and the rules for foreign content (13.2.6.5) are written
-- like modes
pub data Mode : Type 0 where
  Dispatcher Initial BeforeHtml BeforeHead InHead InHeadNoscript AfterHead InBody Text : Mode
  InTable InTableText InCaption InColumnGroup InTableBody InRow InCell : Mode
  InTemplate AfterBody InFrameset AfterFrameset AfterAfterBody AfterAfterFrameset ForeignContent : Mode

-- names of elements: that of the token's tag, or these. The SVG element `desc` is written "svg desc", MathML's `mi` "math mi"; the name
-- of an HTML element has no space.
pub data Names : Type 0 where
  Own : Names
  These : List (List ℕ) → Names

-- for which tokens a rule is
pub data Pattern : Type 0 where
  WhiteSpace Null Character Comment Doctype EndOfFile AnyStartTag AnyEndTag Anything : Pattern
  StartTagOf StartTagBut EndTagOf : List (List ℕ) → Pattern

-- the scopes of 13.2.4.2
pub data ScopeKind : Type 0 where
  Scope ListItemScope ButtonScope TableScope : ScopeKind

pub data Condition : Type 0 where
  InScope : ScopeKind → Names → Condition  -- one of these is in that scope
  CurrentNode AdjustedCurrentNode SecondElement : Names → Condition  -- this element is one of these
  Context : Names → Condition  -- this is the parser of a fragment, and its context element is one of these
  Listed : Names → Condition  -- the list of active formatting elements has one of these after its last marker
  AnyAttribute : List (List ℕ) → Condition  -- the token has an attribute with one of these names
  NoOpenElements AdjustedCurrentNodeInHtml AdjustedCurrentNodeInMathml : Condition
  AtAMathmlTextIntegrationPoint AtAnHtmlIntegrationPoint : Condition
  TemplateOpen TemplateModeSet FormPointerSet HeadPointerSet Scripting FramesetOk Quirks Fragment SelfClosing : Condition
  CurrentNodeIsTopmost : Condition
  AttributeTypeHidden : Condition  -- the token has an attribute `type` with the value "hidden" in any case
  PendingAllWhiteSpace : Condition
  OwnBeforeHtml : Condition  -- from the current node up, an element whose name in lower case is the tag's comes before every HTML element

-- a condition, or that it is not met
pub data Test : Type 0 where
  is isnt : Condition → Test

-- the states of the tokenizer in which it reads the text of an element (13.2.5.2 to 13.2.5.5); tree construction switches it to no others
pub data TextState : Type 0 where
  RcdataText RawText ScriptText PlainText : TextState

pub data Action : Type 0 where
  InsertCharacter InsertReplacement : Action
  InsertComment InsertCommentInDocument InsertCommentInHtml : Action
  AppendDoctype SetQuirksByDoctype SetQuirks : Action
  InsertElement InsertRootElement InsertMathmlElement InsertSvgElement : Action  -- for the token
  InsertNamed InsertRootNamed : List ℕ → Action  -- an HTML element of that name without attributes
  SetHeadPointer PushHeadPointer RemoveHeadFromStack SetFormPointer : Action
  Pop PopToTopmost PopForeignElements PopUntilOwnInAnyCase : Action
  PopUntil : Names → Action  -- until one of these has been popped
  PopUpTo : Names → Action  -- until one of these is the current node
  FramesetNotOk KeepMode SwitchBack ResetMode PopTemplateMode : Action
  SwitchTo PushTemplateMode : Mode → Action
  TokenizerTo : TextState → Action
  ListMarker ListElement ClearListToMarker ReconstructFormatting AdoptionAgency DropFound : Action
  FindListed : Names → Action
  CloseP ImpliedEndTags AllImpliedEndTags EndForm AnyOtherEndTag SkipNextLineFeed : Action
  ImpliedEndTagsBut : Names → Action
  CloseItems : List (List ℕ) → Action
  MergeAttributesIntoHtml MergeAttributesIntoBody RemoveBody : Action
  AdjustMathmlAttributes AdjustSvgAttributes AdjustSvgName AdjustForeignAttributes : Action
  Rename : List ℕ → Action
  FosterOn FosterOff EmptyPending AddToPending InsertPending : Action
  Stop : Action  -- stop parsing: the end of the file is the last token, so nothing is left to do

-- where a token goes
pub data Way : Type 0 where
  Reprocess : Way  -- to the dispatcher
  UseCurrentMode : Way
  Use : Mode → Way  -- process the token using the rules for that mode
  UseForEachPending : Mode → Way  -- process each pending table character token using the rules for that mode

-- what a rule says: an action that is done if these tests are met then, or where the token goes
pub data Act : Type 0 where
  does : Action → List Test → Act
  goes : Way → Act

-- the first rule is taken that is for the token, and whose tests are met
pub data Rule : Type 0 where
  rule : List Pattern → List Test → List Act → Rule

-- ---- the table of "reset the insertion mode appropriately" (13.2.4.1)

pub data NodeTest : Type 0 where
  Always NotTopmost HeadPointerIsSet : NodeTest

pub data Reset : Type 0 where
  reset_to : List (List ℕ) → NodeTest → Mode → Reset  -- one of these elements
  reset_to_template_mode : List (List ℕ) → Reset  -- to the current template insertion mode
