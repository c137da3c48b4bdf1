-- The words that the rules of tree construction are written with: which token, on what condition, what is done, and what comes next.
use Rattle.std.specs.Prelude.{ℕ, List}

-- the insertion modes (13.2.4.1) that the rules cover
pub data Mode : Type 0 where
  Initial BeforeHtml BeforeHead InHead AfterHead InBody Text InTable InCaption InColumnGroup InTableBody InRow InCell AfterBody
      AfterAfterBody : Mode

-- names: that of the token's tag, or these
pub data Names : Type 0 where
  Own : Names
  These : List (List ℕ) → Names

-- the tokens that a rule is for
pub data Pattern : Type 0 where
  WhiteSpace Null Character Comment Doctype EndOfFile AnythingElse AnyStart AnyEnd : Pattern
  DoctypeOf : List ℕ → Pattern
  StartOf EndOf : List (List ℕ) → Pattern

-- the four scopes of 13.2.4.2
pub data ScopeKind : Type 0 where
  Scope ButtonScope ListItemScope TableScope : ScopeKind

pub data Condition : Type 0 where
  Always : Condition
  NoForm : Condition  -- the form element pointer is null
  Hidden : Condition  -- the token has an attribute `type` with the value "hidden" in any case
  NoListed : Names → Condition  -- the list of active formatting elements has none of these after its last marker
  CurrentNode : Names → Condition  -- the current node is one of these
  InScope : ScopeKind → Names → Condition  -- the stack of open elements has one of these in that scope

pub data Action : Type 0 where
  InsertCharacter InsertComment AppendDoctype : Action
  InsertElement : Action  -- for the token
  InsertNamed : List ℕ → Action  -- an element of that name without attributes
  Pop : Action  -- the current node
  FramesetNotOk : Action
  Reconstruct : Action  -- the active formatting elements, where nothing has to be done
  CloseP : Action  -- if a p element is in button scope, close a p element
  ImpliedEndTags : Action
  ImpliedEndTagsBut : Names → Action
  ListElement : Action  -- push the current node onto the list of active formatting elements
  ListMarker : Action  -- insert a marker there
  ClearToMarker : Action  -- clear that list up to its last marker
  AdoptionAgency : Action
  SetForm : Action  -- the form element pointer becomes the current node
  EndForm : Action  -- the entry for the end tag of `form`
  AnyOtherEndTag : Action  -- the last entry of the mode "in body"
  DropLineFeed : Action  -- if a line feed comes next, it is ignored
  PopIf : List (List ℕ) → Action  -- pop the current node if it is one of these
  PopUntil : Names → Action  -- pop elements until one of these has been popped
  CloseItems : List (List ℕ) → Action  -- the loops of the entries for `li`, `dd` and `dt`
  ClearStackTo : List (List ℕ) → Action  -- clear the stack back to a context of these

-- what comes after the actions
pub data Next : Type 0 where
  Stay : Next
  SwitchTo : Mode → Next
  ReprocessIn : Mode → Next  -- switch, and reprocess the token
  UseRulesFor : Mode → Next  -- of that mode, without a switch
  ReadText : Next  -- keep the mode as the original one, and switch to `Text`
  SwitchBack : Next  -- to the original mode
  ResetMode : Next  -- reset the insertion mode appropriately
  ResetAndReprocess : Next
  Stop : Next
  NoRule : Next  -- outside of what is described

pub data Rule : Type 0 where
  rule : Pattern → Condition → List Action → Next → Rule
